-- Laws of a new Swarm message. StageLaws: what each of its steps leaves and asks, and that together they are the step. CountLaws: the numbers of entries after it.
pub mod StageLaws
pub mod CountLaws
