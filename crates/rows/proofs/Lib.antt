-- The laws of the rows that other crates cite.
pub mod Rows
pub mod Passed
