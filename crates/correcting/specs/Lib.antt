pub mod Meanings
pub mod Algorithm
