-- What the words of laying runs in copper mean.
pub mod Entries
pub mod Reaching
