-- What is proved of the tree beside the functions' contracts.
pub mod Before
pub mod Near
pub mod Keys
pub mod Order
pub mod Membership
pub mod Earliest
pub mod Numbering
pub mod Choosing
pub mod Taking
pub mod Going
pub mod Loops
pub mod Branches
pub mod Listing
pub mod Answer
pub mod Result
