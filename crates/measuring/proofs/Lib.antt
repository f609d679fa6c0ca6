-- Measuring by the window of a support corner finds what measuring the whole outline finds.
pub mod WindowLaws
pub mod LocalFeatureLaws
pub mod GapSizes
pub mod ChangesLaws
