-- What the code of the nearest point needs beside the definitions of `nearest`.
pub mod Part
pub mod AtEdge
