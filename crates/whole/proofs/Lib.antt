-- Laws on plain values: Tests on tests of several parts, AllLaws on tests of all elements, HeldLaws on what a block holds, CreateLaws on creation;
-- LentLaws on tables lent to a test, ContentLaws on contents, NumberLaws and HopLaws on link numbers, RecordLaws on the record; WholeLaws puts them together.
pub mod Tests
pub mod AllLaws
pub mod HeldLaws
pub mod CreateLaws
pub mod LentLaws
pub mod ContentLaws
pub mod NumberLaws
pub mod HopLaws
pub mod RecordLaws
pub mod WholeLaws
pub mod StatesLaws
pub mod Words
