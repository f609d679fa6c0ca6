-- Laws for the code of editing.
pub mod PartsLaws
