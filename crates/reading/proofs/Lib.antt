-- Laws of the checks as the code makes them.
pub mod CheckLaws
pub mod VisitLaws
