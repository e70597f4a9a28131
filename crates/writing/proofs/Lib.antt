pub mod ScanLaws
pub mod LayoutLaws
