-- What the runs of a feed are: theorems over the definitions of the tree.
pub mod Worked
mod Weighed
pub mod Positions
pub mod Ways
pub mod Spanning
pub mod TheTree
pub mod FourPins
pub mod Neighbours
pub mod Zones
pub mod Bent
pub mod Boxes
pub mod Apart
