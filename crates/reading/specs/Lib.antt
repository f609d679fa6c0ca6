-- What the code of reading needs beside the definitions of `outline`.
pub mod Acceptance
pub mod Accepted
pub mod Edge
pub mod Numbers
pub mod Shape
pub mod Visit
