-- Laws of the convex hull.
pub mod Points
pub mod Ahead
pub mod Wrapping
pub mod HullLaws
pub mod Unique
pub mod MarksLaws
pub mod Filled
pub mod CallLaws
