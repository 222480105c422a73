-- Laws on plain values. RaisedRows: rows with a list of link numbers inside, after a link came in.
-- RaisedLaws: they stand for the same peers. UpLaws, RaiseSteps: in the whole block. LinkIn: the row of the link.
-- LoweredLaws: what is read from link numbers with rows beside them. LoweredRefs: from those that are left after a link went. LoweredRows: lists of
-- them, and rows with lists. LoweredTables: notes, missing and grafted messages. LowerSteps: in the whole block. LinkOut: the row of the link.
-- LoweredRuns: numbers lowered at once, and runs of notes and rows that are kept. Strangers: a peer that is no neighbour.
pub mod RaisedRows
pub mod RaisedLaws
pub mod UpLaws
pub mod RaiseSteps
pub mod LinkIn
pub mod LoweredLaws
pub mod LoweredRefs
pub mod LoweredRows
pub mod LoweredRuns
pub mod LoweredTables
pub mod LowerSteps
pub mod LinkOut
pub mod Strangers
