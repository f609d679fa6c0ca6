-- What contracts say of whole numbers and fractions.
pub mod Size
pub mod Equal
pub mod Fraction
pub mod Root
pub mod Units
pub mod code
