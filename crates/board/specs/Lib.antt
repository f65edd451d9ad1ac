-- What the board's words mean.
pub mod Place
pub mod Spots
pub mod Boards
