-- Whole numbers, for the proofs of every crate: laws of the ring and the order, the greatest of finitely many, two
-- tools that prove by computation, tests and what they mean, bounds on machine arithmetic, exact fractions
-- and their sums, square roots and fractions rounded to whole numbers.
pub mod Ring
pub mod Order
pub mod Greatest
pub mod Descent
pub mod Polynomial
pub mod Certificate
pub mod Signs
pub mod Reflect
pub mod Machine
pub mod FractionLaws
pub mod FractionOrder
pub mod RootLaws
pub mod Newton
pub mod UnitsLaws
