-- What is proved of printed lines beside the functions' contracts.
pub mod Telling
pub mod Worked
