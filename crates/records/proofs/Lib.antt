-- Laws of chains and of the call that compares two of them.
pub mod ChainLaws
pub mod CallLaws
