-- What the code of the sweep works on, and how it stands for the sweep of section 5.
pub mod State
