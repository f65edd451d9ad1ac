-- When a run is straight; the laws of length that other crates cite: the length of legs as a sum over the grid; and worked cases.
pub mod Straight
pub mod Numbers
pub mod Cover
pub mod Counted
pub mod Measured
pub mod Worked
