-- What the answer to a line of a log means.
pub mod Answered
