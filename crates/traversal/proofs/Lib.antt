-- Laws of walking a chain.
pub mod WalkLaws
pub mod StopLaws
