use Rattle.std.proofs.Common.{◌≡◌, ◌∙◌, arith}
use Rattle.byteorder.specs.Endian.{little_number}
use Rattle.storage.proofs.RowsLaws.Turns.{from, little-at}
use Rattle.storage.proofs.rows.word.load2.Goals as goal

pub returns : goal.returns
returns c =
    let e : c.read_u16.result ≡ little_number 2 (from c.args.at c.args.bytes.now) = c.read_u16.ensures in
    (e ∙ little-at c.args.at 2 c.args.bytes.now c.requires, omega (arith, c.read_u16.type_inv))
