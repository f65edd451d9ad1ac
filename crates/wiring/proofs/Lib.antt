-- What is proved of wiring beside the functions' contracts.
pub mod Masks
pub mod Ordered
pub mod Laying
pub mod Best
pub mod Weighed
pub mod Answering
pub mod Refusing
pub mod Shortest
pub mod Lines
pub mod Demand
pub mod Either
pub mod Few
pub mod Room
