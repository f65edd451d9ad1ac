-- How answers are printed, a line each.
pub mod Answers
