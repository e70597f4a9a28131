pub mod LetterLaws
pub mod RewriteLaws
