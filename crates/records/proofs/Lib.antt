-- The laws of a record that other crates cite.
pub mod Faults
