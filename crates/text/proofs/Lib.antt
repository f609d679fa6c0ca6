-- Laws of words, numbers and texts.
pub mod OutputLaws
pub mod NumberLaws
pub mod WordLaws
pub mod DecimalLaws
pub mod RoundTrip
pub mod Examples
