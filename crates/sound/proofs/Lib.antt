-- The laws of the test of seats that other crates cite.
pub mod Tests
