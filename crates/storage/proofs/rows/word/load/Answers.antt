use Rattle.std.proofs.Common.{◌≡◌, ◌∙◌}
use Rattle.byteorder.specs.Endian.{little_number}
use Rattle.storage.proofs.RowsLaws.Turns.{from, little-at}
use Rattle.storage.proofs.rows.word.load.Goals as goal

pub returns : goal.returns
returns c =
    let e : c.read_u64.result ≡ little_number 8 (from c.args.at c.args.bytes.now) = c.read_u64.ensures in
    e ∙ little-at c.args.at 8 c.args.bytes.now c.requires
