-- The code of the sweep begins where rule 5.4 says and makes the steps of rule 5.5, in the order of the argument.
pub mod NextEdge
pub mod BeginLaws
pub mod StepLaws
