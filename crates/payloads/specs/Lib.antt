pub mod Eager
pub mod OnGraft
pub mod EagerPush
pub mod Broadcast
pub mod OptimizeTree
pub mod OnGossip
pub mod OnLateGraftReply
