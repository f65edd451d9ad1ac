-- What the desk's words mean.
pub mod Desk
