-- What is proved of a log in play beside the functions' contracts.
pub mod Clipping
pub mod Passing
pub mod Hearing
pub mod Turns
pub mod Lines
pub mod Coming
mod Ended
