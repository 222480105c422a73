pub mod Held
pub mod Creation
pub mod Parts
pub mod Opens
pub mod States
pub mod Stats
pub mod CreationWhole
