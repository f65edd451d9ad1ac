-- The laws of the journal that other crates cite.
pub mod Own
pub mod Seated
pub mod Counts
pub mod Filled
pub mod Turns
pub mod Found
pub mod Cut
mod Dropping
mod Worked
