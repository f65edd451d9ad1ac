-- What reading a map means.
pub mod Map
