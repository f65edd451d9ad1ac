-- The laws of places and pins that other crates cite, and worked cases.
pub mod Signed
pub mod Board
pub mod Flat
pub mod Near
pub mod Rules
mod Worked
