-- The history of calls.
pub mod History
pub mod AsPast
pub mod Until
pub mod Leaving
pub mod Former
