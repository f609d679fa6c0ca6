-- Laws of what is found at the places below a number, and of lists.
pub mod FoldLaws
pub mod FirstLaws
pub mod SortLaws
pub mod CopyLaws
pub mod FirstByLaws
