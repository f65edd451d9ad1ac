-- The laws of the desk that other crates cite.
pub mod Sound
pub mod Found
mod Steps
