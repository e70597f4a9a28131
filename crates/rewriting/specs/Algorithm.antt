pub mod Letters
pub mod Rewriting
