-- What moving a map from one form to the other means.
pub mod Moving
