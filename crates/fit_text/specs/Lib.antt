-- Section 8: the fit program, from the bytes of its input to the bytes that it writes.
pub mod Input
pub mod Response
pub mod code
