-- The round trips of a pin map, and maps worked by hand.
pub mod Bytes
pub mod Holding
pub mod Records
pub mod Opening
pub mod Back
pub mod RoundTrip
mod Worked
mod Signs
