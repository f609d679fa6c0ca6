-- Laws of editing.
pub mod EditLaws
pub mod Without
pub mod Removal
pub mod Inserted
pub mod Insertion
pub mod RoundTrip
