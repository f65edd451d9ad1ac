-- What the lines of a log mean.
pub mod Loads
pub mod Said
