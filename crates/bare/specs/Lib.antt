-- What the words of bare wiring mean.
pub mod Bare
