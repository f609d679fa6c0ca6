-- What the functions of wrapping promise. For code and proofs alone.
pub mod First
pub mod Steps
