-- `place`: the two bytes at the start of the row.
use Rattle.std.proofs.Common.{sym, ◌∙◌}
use Rattle.storage.proofs.RefsLaws.Places.{place_at}
use Rattle.time_cache.proofs.named.Rows.place.Goals as goal

pub returns : goal.returns
returns c =
    let r = c.args.self in
    c.load2.ensures.0 ∙ sym (place_at r.stride r.len c.args.i r.bytes.now c.requires.0 c.requires.1)
