-- What the answers of several lines are defined by.
pub mod Shown
