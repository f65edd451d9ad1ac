-- What the words for what is asked of a desk mean.
pub mod Asked
