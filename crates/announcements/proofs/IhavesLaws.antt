-- Laws on plain values. TableLimits: a state with other missing messages and timers, and its limits. HeardLaws: one announcement. WalkLaws: which announcements have been taken.
-- ReceivedLaws: an IHave whose identifiers are all received. Same: maps and sets by their look-ups. Looked: what an IHave leaves, by look-ups. Entries: the entries that count.
-- Merged: the state by tables, each by one walk and a merge. Ordered: the entries in the order of their identifiers. StateLaws: the step. DecidedLaws: what is decided does what
-- the IHave does.
pub mod TableLimits
pub mod HeardLaws
pub mod WalkLaws
pub mod ReceivedLaws
pub mod Same
pub mod Looked
pub mod Entries
pub mod Merged
pub mod Ordered
pub mod StateLaws
pub mod DecidedLaws
