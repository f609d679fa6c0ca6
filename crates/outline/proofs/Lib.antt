-- Laws of reading: the corners of a list, corners written to one, checks made in order, and what is accepted.
pub mod CornersLaws
pub mod WritingLaws
pub mod EdgeLaws
pub mod ChecksLaws
pub mod ConditionLaws
pub mod Acceptance
pub mod LeftTurns
pub mod TurnsLaws
pub mod OrientationLaws
pub mod HeldLaws
pub mod ReadingLaws
pub mod EitherLaws
pub mod AcceptedLaws
