-- What is said of a lent list.
pub mod Lent
