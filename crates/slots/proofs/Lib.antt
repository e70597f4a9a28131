pub mod CoverLaws
pub mod GrantLaws
pub mod DepthLaws
