pub mod AppendLaws
pub mod FieldLaws
pub mod NumberLaws
pub mod LineLaws
pub mod ListingLaws
pub mod LineMeanings
pub mod Trials
