-- The laws of the rows of the pins that other crates cite.
pub mod Apart
