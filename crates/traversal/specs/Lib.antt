-- Where a walk stops, for the code.
pub mod Stop
