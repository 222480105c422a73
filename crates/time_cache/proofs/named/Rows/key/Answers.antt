-- `key`: the 32 bytes behind the time.
use Rattle.std.proofs.Common.{sym, ◌∙◌}
use Rattle.time_cache.proofs.ExpiryLaws.{key-at}
use Rattle.time_cache.proofs.named.Rows.key.Goals as goal

pub returns : goal.returns
returns c =
    let r = c.args.self in
    c.load_id.ensures ∙ sym (key-at r.stride r.len c.args.i r.bytes.now c.requires.0 c.requires.1)
