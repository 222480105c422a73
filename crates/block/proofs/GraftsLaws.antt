-- Laws on plain values. ReadLaws: what the bytes of a grafted message say. ListWrites: a list of link numbers with one more in its order, or with another round.
-- PeerLaws: the grafted peers by the numbers of their links. NoteLaws: the writes of a graft as steps of the state. EntryLaws: a new entry.
pub mod ReadLaws
pub mod ListWrites
pub mod PeerLaws
pub mod NoteLaws
pub mod EntryLaws
