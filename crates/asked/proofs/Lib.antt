-- The laws of what is asked of a desk.
pub mod Writing
pub mod Lent
