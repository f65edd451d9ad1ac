-- Tests joined by words, lists of a fixed length, entries by their numbers, members, sums and counts.
pub mod Tests
pub mod Lists
pub mod Sums
