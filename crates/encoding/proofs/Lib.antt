-- A status tells what it stands for, and what is known of numbers that are cast.
pub mod StatusLaws
pub mod Signed
