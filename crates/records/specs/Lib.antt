pub mod Outcome
pub mod Rules
pub mod Algorithm
