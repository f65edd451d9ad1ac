-- What the program wiremap answers to a map.
pub mod Mapped
