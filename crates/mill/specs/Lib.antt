-- What the words of milling mean.
pub mod Segments
pub mod Numbered
pub mod Answer
pub mod Demand
