-- What the words of a log in play mean.
pub mod Log
pub mod Lines
pub mod Answers
