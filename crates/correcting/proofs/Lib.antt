pub mod TableCorrectionLaws
pub mod TotalLaws
