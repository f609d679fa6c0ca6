-- What contracts say of points and vectors.
pub mod Vector
pub mod Range
pub mod Point
pub mod Direction
pub mod Height
pub mod code
