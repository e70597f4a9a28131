pub mod WordLaws
pub mod PlaceLaws
pub mod ShiftLaws
pub mod ZeroLaws
pub mod GatherLaws
