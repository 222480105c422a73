-- `tables::same_key`: the rows that the entries name.
use Rattle.alike.proofs.BlockReads.{place-below}
use Rattle.std.proofs.Common.{arith}
use Rattle.alike.proofs.tables.same_key.Goals as goal

pub row_item-x-requires : goal.row_item-x-requires
row_item-x-requires c =
    let a = c.args in
    (c.requires.lies.0, omega (arith, c.place.ensures, place-below a.cache_a a.a.now a.cache_a.expiry.len a.i c.requires.lies.1 c.requires.lies.2))

pub row_item-y-requires : goal.row_item-y-requires
row_item-y-requires c =
    let a = c.args in
    (c.requires.lies_2.0, omega (arith, c.place-2.ensures, place-below a.cache_b a.b.now a.cache_b.expiry.len a.i c.requires.lies_2.1 c.requires.lies_2.2))
