-- What the rows of refusals mean.
pub mod Calls
pub mod Refusals
pub mod Found
