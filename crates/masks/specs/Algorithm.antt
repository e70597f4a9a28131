pub mod Masks
pub mod Pairs
