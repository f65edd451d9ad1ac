-- What loads and the board sheet are, in the words of document 02, request [2].
pub mod Loads
