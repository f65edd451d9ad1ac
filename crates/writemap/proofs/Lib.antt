-- The laws of writing a map that other crates cite.
pub mod Written
