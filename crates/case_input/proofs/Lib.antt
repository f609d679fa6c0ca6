mod Numbers
pub mod Progress
