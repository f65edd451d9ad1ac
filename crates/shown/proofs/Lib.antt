-- What is proved of answers of several lines beside the functions' contracts.
pub mod Lines
