pub mod Algorithm
pub mod Meanings
