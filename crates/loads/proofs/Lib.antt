-- What is proved of loads beside the functions' contracts.
pub mod Between
pub mod Ranges
