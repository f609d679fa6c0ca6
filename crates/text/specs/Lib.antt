-- Words and numbers of a text, and a text that is made of them.
pub mod Ascii
pub mod Decimal
pub mod Output
pub mod Words
pub mod Number
pub mod code
