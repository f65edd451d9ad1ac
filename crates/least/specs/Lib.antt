-- What the least cost of a tree's shapes means.
pub mod Asking
