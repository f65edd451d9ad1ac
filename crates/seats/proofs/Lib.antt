-- The laws of the seats that other crates cite.
mod Found
