-- What it means that a number is finite, how large drops can get, and what is demanded of the drops of an accepted answer.
pub mod Bounds
pub mod Demand
