-- Editing an outline: rules 2.7 and 2.9 of docs/SPECIFICATION.md, and the calls of rules 7.5 and 7.9.
pub mod Edit
pub mod Removal
pub mod Insertion
pub mod code
