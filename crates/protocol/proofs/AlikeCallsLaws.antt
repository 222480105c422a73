pub mod PeerLaws
pub mod LikeSteps
pub mod Reflect
pub mod Stay
pub mod Finer
pub mod LikeCalls
pub mod Examples
