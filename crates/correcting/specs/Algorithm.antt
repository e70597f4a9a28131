pub mod Stages
pub mod Settled
