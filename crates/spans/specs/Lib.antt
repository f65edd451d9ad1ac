-- What the words of spans mean.
pub mod Spans
