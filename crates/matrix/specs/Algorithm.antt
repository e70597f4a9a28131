pub mod Matrix
pub mod Cells
