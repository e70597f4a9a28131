pub mod BelowLaws
pub mod SearchLaws
pub mod TestLaws
pub mod RowLaws
pub mod FillLaws
pub mod CountLaws
pub mod MemberLaws
pub mod EndLaws
