pub mod Sweep
pub mod Elimination
