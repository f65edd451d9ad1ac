-- What volts lost to each pin are, in the words of document 02, request [2].
pub mod Drops
pub mod Passes
