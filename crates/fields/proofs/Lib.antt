pub mod ByteLaws
pub mod FieldLaws
pub mod GradeLaws
pub mod PartLaws
pub mod LetterLaws
