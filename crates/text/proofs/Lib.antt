-- What is proved of words, numbers and digits beside the functions' contracts.
pub mod Library
pub mod Steps
pub mod Cutting
pub mod Rows
pub mod Values
pub mod Printing
pub mod Floats
