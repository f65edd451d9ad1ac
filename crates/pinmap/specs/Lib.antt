-- What the words of the pin map mean.
pub mod Number
pub mod Map
