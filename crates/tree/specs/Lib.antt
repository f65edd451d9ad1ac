-- What the words of the tree mean.
pub mod Weight
pub mod Growth
pub mod Spanning
pub mod Boxes
pub mod Trees
pub mod Offers
pub mod Bends
pub mod Reached
