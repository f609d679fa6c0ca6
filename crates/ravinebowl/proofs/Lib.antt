-- Laws about what the exported calls return and write.
pub mod CallsLaws
pub mod WritingLaws
