-- The laws of what is asked of a drawing that is found.
mod Fed
