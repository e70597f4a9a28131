pub mod SweepLaws
pub mod ComponentLaws
pub mod StepLaws
pub mod PassLaws
