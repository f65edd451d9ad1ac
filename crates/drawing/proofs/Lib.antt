-- The laws of drawings that other crates cite.
pub mod Rules
pub mod Feeds
pub mod Told
