pub mod LineLaws
pub mod RecordLaws
pub mod ColumnLaws
pub mod TableLaws
pub mod PairLaws
