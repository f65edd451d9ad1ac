-- Drops are finite, where they are 0, and that they are what is demanded: theorems over the definitions of the crates loads and drops.
pub mod Sizes
pub mod Rounding
pub mod Operations
pub mod Ranges
pub mod Room
pub mod Loads
pub mod Currents
pub mod Distances
pub mod Drops
pub mod Zero
pub mod Demand
