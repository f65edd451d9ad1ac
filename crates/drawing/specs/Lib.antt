-- What the words of a drawing mean.
pub mod Pins
pub mod Lists
