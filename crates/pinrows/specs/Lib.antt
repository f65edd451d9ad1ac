-- What the rows of refusals by the pins mean.
pub mod PinRows
