-- Laws and worked examples of the fit program's texts.
pub mod InputLaws
pub mod ResponseLaws
pub mod Examples
