-- What is proved of the program's answers beside the functions' contracts.
pub mod Job
pub mod Opening
pub mod Inputs
pub mod Room
pub mod Worked
