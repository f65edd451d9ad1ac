-- What writing a map means.
pub mod Record
pub mod Map
