-- The mismatch sum: rules 4.9 and 4.10 of docs/SPECIFICATION.md, and the call of rule 7.7.
pub mod MismatchSum
pub mod Call
pub mod code
