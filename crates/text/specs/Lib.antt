-- Texts as bytes: the words of a line, what words come to, and how numbers are printed.
pub mod Text
pub mod Words
pub mod Numbers
pub mod Digits
