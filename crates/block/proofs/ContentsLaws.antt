-- Laws on plain values. Sums: sums over places that name each row at most once. RowsAdjoin: rows whose contents stand one after the other. Contents: contents that
-- move with the starts of their rows. Shifts: the starts as bytes. Closing: `expire_until`. Resizing, Setting: another content for a cached message. Inserting,
-- Putting: "cache at".
pub mod Sums
pub mod RowsAdjoin
pub mod Contents
pub mod Shifts
pub mod Closing
pub mod Resizing
pub mod Setting
pub mod Inserting
pub mod Putting
