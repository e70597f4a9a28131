pub mod CornerLaws
pub mod PairLaws
pub mod BirthLaws
