-- What is made of the values at 0, 1, .. below a number, and lists.
pub mod Fold
pub mod Lists
pub mod code
