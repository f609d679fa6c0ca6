-- Outlines in a store of linked records: rules 1.10 and 2.8 of docs/SPECIFICATION.md, and the call of rule 7.8.
pub mod Chain
pub mod Conditions
pub mod Call
pub mod code
