-- Laws on plain values. Cut, Tables: pieces of a list, and the frame of a put in one table. LayoutLaws: where each table starts. HeaderLaws: the header.
-- Scans, LinkLaws, ViewLaws, PanelLaws, FoundLaws: the links, and what is found in tables. NoteLaws, NoteRowLaws, CutLaws: queue and record. RowLaws, KeyPlaces, KeyMembers, Each: a row more or less in a table.
-- TimerLaws: graft timers. HopLaws, MissingLaws, AnnounceLaws, Few: missing messages and their announcers. MergeLaws: many of either at once.
-- CachesLaws, LookupLaws: the time caches. GraftsLaws: grafts. ContentsLaws: the contents of cached messages. NeighboursLaws: a link more or less, and the link numbers of all tables.
pub mod Cut
pub mod Tables
pub mod LayoutLaws
pub mod HeaderLaws
pub mod Scans
pub mod LinkLaws
pub mod ViewLaws
pub mod PanelLaws
pub mod FoundLaws
pub mod NoteLaws
pub mod NoteRowLaws
pub mod CutLaws
pub mod RowLaws
pub mod KeyPlaces
pub mod KeyMembers
pub mod TimerLaws
pub mod Each
pub mod HopLaws
pub mod MissingLaws
pub mod AnnounceLaws
pub mod MergeLaws
pub mod Few
pub mod CachesLaws
pub mod LookupLaws
pub mod GraftsLaws
pub mod ContentsLaws
pub mod NeighboursLaws
pub mod Lent
pub mod Words
