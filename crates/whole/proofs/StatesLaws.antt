-- Laws of areas, and of the leaves.
pub mod Leaves
pub mod Slots
pub mod AreaLaws
pub mod HoldsLaws
pub mod KeepLaws
pub mod CallLaws
pub mod LeftBy
pub mod Accepted
pub mod AreaExamples
