-- What the words of wiring mean.
pub mod Choices
pub mod Answer
pub mod Demand
