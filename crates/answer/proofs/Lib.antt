-- What is proved of answers to lines beside the functions' contracts.
pub mod Telling
pub mod Showing
pub mod Answering
pub mod Worked
