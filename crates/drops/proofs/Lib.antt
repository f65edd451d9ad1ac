-- What is proved of drops beside the functions' contracts.
pub mod Distances
pub mod Passes
pub mod Answering
pub mod Worked
