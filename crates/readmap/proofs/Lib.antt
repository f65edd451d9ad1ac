-- The laws of reading a map that other crates cite.
pub mod Judging
pub mod Lengths
mod Progress
