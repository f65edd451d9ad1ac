-- What is proved of bare wiring beside the functions' contracts.
pub mod Feeds
pub mod Verdicts
pub mod Fitting
pub mod Untouched
pub mod Rows
pub mod Demand
