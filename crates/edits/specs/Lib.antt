-- What the words of an edit mean.
pub mod Edits
pub mod Changes
pub mod Stated
