-- Laws for the code of wrapping.
pub mod KeepingLaws
pub mod PlacesLaws
pub mod WrapLaws
