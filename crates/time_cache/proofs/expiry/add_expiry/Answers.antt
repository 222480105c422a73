-- `add_expiry`: a gap, and the row's time and identifier in it.
use Rattle.std.proofs.Common.{ap, ◌∙◌, ◌+◌, ◌*◌, ◌≤◌, arith}
use Rattle.storage.specs.Rows.Part.{put}
use Rattle.storage.specs.Rows.Digits.{le_bytes, be_bytes}
use Rattle.storage.specs.Rows.Ident.{id_of}
use Rattle.storage.proofs.RowsLaws.Ids.{id-lt}
use Rattle.storage.proofs.RowsLaws.Rows.{row-end}
use Rattle.time_cache.specs.Tables.{expiry_rows}
use Rattle.time_cache.proofs.ExpiryLaws.{row-added}
use Rattle.time_cache.proofs.expiry.add_expiry.Goals as goal
use Rattle.time_cache.proofs.expiry.add_expiry.Goals.{Start}

-- the row lies in the slice
room : (s : Start) → s.args.i * s.args.stride + s.args.stride ≤ (s.args.row_count + 1) * s.args.stride
room s = row-end s.args.stride (s.args.row_count + 1) s.args.i (omega (arith, s.requires.1))

pub returns : goal.returns
returns c =
    let a = c.args in
    ap (expiry_rows a.stride (a.row_count + 1)) (c.store_id.ensures
    ∙ ap (put (a.i * a.stride + 8) (be_bytes 32 (id_of a.expiry.key))) (c.store.ensures
    ∙ ap (put (a.i * a.stride) (le_bytes 8 a.expiry.time.0)) c.insert_row.ensures))
    ∙ row-added a.stride a.row_count a.i a.expiry.time.0 (id_of a.expiry.key) a.bytes.now c.requires.0 c.requires.1 c.requires.2 (omega (arith, c.well_formed))
    (id-lt a.expiry.key.w0 a.expiry.key.w1 a.expiry.key.w2 a.expiry.key.w3 (omega (arith, c.well_formed)) (omega (arith, c.well_formed)) (omega (arith, c.well_formed)) (omega (arith, c.well_formed)))
