-- The parts of an answer as text.
pub mod Parts
