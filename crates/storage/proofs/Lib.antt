pub mod RowsLaws
pub mod RefsLaws
pub mod NotesLaws
pub mod ListsLaws
pub mod TablesLaws
