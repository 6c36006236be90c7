pub mod KindLaws
pub mod LayoutLaws
pub mod TableReads
pub mod Trees
