-- KeptLaws: each stage keeps what every event keeps. RestLaws: what each stage leaves, and the room for it. StepLaws: what each stage asks, and that together they are the step.
pub mod KeptLaws
