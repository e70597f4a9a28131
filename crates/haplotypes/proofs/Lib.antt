pub mod HostLaws
pub mod NumberLaws
