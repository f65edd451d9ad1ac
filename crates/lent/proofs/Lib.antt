-- What the proofs of lent lists share.
pub mod Fitting
pub mod Untouched
pub mod Demand
pub mod Filling
