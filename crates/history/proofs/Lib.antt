-- The theorems about any calls: from the empty desk, from any sound desk, and on any desk.
mod Jobs
mod Stood
mod Sane
mod Simulation
mod Steps
pub mod Demand
pub mod Untouched
pub mod Opened
pub mod Sounding
pub mod Again
pub mod Refused
pub mod Fitting
pub mod Wired
pub mod Maps
pub mod Moved
pub mod Leaving
pub mod Former
pub mod Best
pub mod Standing
pub mod Lost
pub mod Milled
