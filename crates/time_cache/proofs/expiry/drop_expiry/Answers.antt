-- `drop_expiry`: `remove_rows`, as expiry rows.
use Rattle.std.proofs.Common.{ap, ◌∙◌, ◌-◌}
use Rattle.time_cache.specs.Tables.{expiry_rows}
use Rattle.time_cache.proofs.ExpiryLaws.{rows_dropped}
use Rattle.time_cache.proofs.expiry.drop_expiry.Goals as goal

pub returns : goal.returns
returns c =
    let a = c.args in
    ap (expiry_rows a.stride (a.row_count - a.k)) c.remove_rows.ensures ∙ rows_dropped a.stride a.row_count a.k a.bytes.now c.requires.0 c.requires.1
