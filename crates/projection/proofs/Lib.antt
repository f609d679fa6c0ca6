-- What the code of the nearest point stands on.
pub mod Sizes
pub mod Pass
