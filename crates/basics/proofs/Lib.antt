-- The laws of tests joined by words, of lists and their members, and of sums.
pub mod Tests
pub mod Lists
pub mod Anyone
pub mod Chains
pub mod Mapped
pub mod Numbered
pub mod Members
pub mod Sums
pub mod Different
