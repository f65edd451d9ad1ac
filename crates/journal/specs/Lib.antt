-- What the words of the journal mean.
pub mod Journal
