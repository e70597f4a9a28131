pub mod Layer
pub mod Pairs
