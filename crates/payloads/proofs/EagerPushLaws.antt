pub mod TargetLaws
pub mod SendLaws
pub mod NoteLaws
pub mod SameLaws
