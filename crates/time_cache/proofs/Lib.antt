-- Laws of the definitions (CacheLaws, Timely, Removed), of orders and maps (Orders, MapPlaces, Cuts), of the two tables (TableLaws, ExpiryLaws,
-- NamedLaws), of tables in a block (BlockLaws, LoanLaws, ReadLaws), and of the functions over them (InsertLaws, ExpireLaws, ValueLaws, WriteLaws, ViewLaws; what is removed: GoneLaws, PassedLaws, NamesLaws, ToldLaws).
pub mod CacheLaws
pub mod Timely
pub mod Removed
pub mod Orders
pub mod MapPlaces
pub mod Cuts
pub mod TableLaws
pub mod ExpiryLaws
pub mod NamedLaws
pub mod BlockLaws
pub mod LoanLaws
pub mod ReadLaws
pub mod InsertLaws
pub mod ExpireLaws
pub mod ValueLaws
pub mod WriteLaws
pub mod ViewLaws
pub mod GoneLaws
pub mod PassedLaws
pub mod NamesLaws
pub mod ToldLaws
