pub mod Below
pub mod Text
