-- What is proved of laying runs beside the functions' contracts.
pub mod Filling
pub mod Places
