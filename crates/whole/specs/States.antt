-- "Named states": what an area keeps, question 17, and what a saving and a return answer and leave.
pub mod Kept
pub mod Area
pub mod Calls
