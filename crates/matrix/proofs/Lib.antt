pub mod CellLaws
pub mod TableLaws
pub mod KeptLaws
