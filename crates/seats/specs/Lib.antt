-- What the seats' words mean.
pub mod Seats
