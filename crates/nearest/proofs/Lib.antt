-- The nearest point: laws, in the order of the argument.
pub mod Support
pub mod NearestLaws
pub mod PieceLaws
pub mod Walk
pub mod LocalLaws
pub mod FitsLaws
pub mod DistanceLaws
pub mod AnswerLaws
pub mod GapLimit
pub mod SearchLaws
pub mod Scaling
pub mod GivenLaws
pub mod CallLaws
pub mod Rotation
pub mod RotationNearest
pub mod Reversal
