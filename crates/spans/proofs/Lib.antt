-- What is proved of spans: clean lists, how spans are put into one, and how that is done in place.
pub mod Lists
pub mod Insert
pub mod Every
pub mod Few
pub mod Walk
pub mod Cleaning
pub mod Numbers
