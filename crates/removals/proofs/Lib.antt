pub mod RemovalLaws
pub mod TableRemovalLaws
