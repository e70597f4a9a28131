pub mod SizeLaws
pub mod UnpackLaws
pub mod FragmentLaws
pub mod PackLaws
pub mod RoundTrips
