-- Comparing makes the steps of the sweep and reports what they find.
pub mod ReportLaws
pub mod CompareLaws
