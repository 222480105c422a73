pub mod TargetLaws
pub mod ScanLaws
pub mod BackLaws
