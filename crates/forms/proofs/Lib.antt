-- The laws of moving maps that other crates cite.
pub mod Moving
pub mod Rows
pub mod Back
mod Worked
