pub mod Kept
pub mod Read
