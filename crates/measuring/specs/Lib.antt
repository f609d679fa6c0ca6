-- What a step sees of an outline, and what measuring finds there.
pub mod Window
pub mod LocalFeature
pub mod EdgePart
pub mod Changes
