-- What the words of a record mean.
pub mod Record
