-- The laws of the pin map that other crates cite.
pub mod Sizes
