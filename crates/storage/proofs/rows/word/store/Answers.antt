use Rattle.std.proofs.Common.{◌≡◌, ℕ, ◌-◌, List, ◌++◌, drop, length, ap, ◌∙◌, arith}
use borrow.Rule.Slice.PartMut.{put_mid}
use Rattle.byteorder.specs.Endian.{little_bytes}
use Rattle.storage.proofs.RowsLaws.Turns.{from, put-low}
use Rattle.storage.proofs.rows.word.store.Goals as goal

pub returns : goal.returns
returns c =
    let xs = c.args.bytes.now in
    let e : c.write_u64.new.buf ≡ little_bytes 8 c.args.value ++ drop 8 (from c.args.at xs) = c.write_u64.ensures in
    ap (λ (ys : List ℕ). put_mid c.args.at (length xs - c.args.at) xs ys) e ∙ put-low c.args.at 8 c.args.value xs (omega (arith, c.requires))
