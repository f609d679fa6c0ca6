-- What the calls that are exported to C return and write.
pub mod Calls
