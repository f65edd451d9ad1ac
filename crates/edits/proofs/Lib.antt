-- The laws of edits that other crates cite, and worked cases.
pub mod Making
pub mod Changing
pub mod Reversing
pub mod Stepping
mod Worked
