-- What the functions that try edits share.
mod Trying
