-- `due`: the search by time, in the expiry rows lent to the block's end.
use Rattle.std.proofs.Common.{ap, ◌∙◌, subst, List, map}
use Rattle.time_cache.specs.TimeCache.{in_pop_order}
use Rattle.time_cache.specs.Tables.{ExpiryRow, expiry_of, Cut, cache_of}
use Rattle.time_cache.proofs.BlockLaws.{rows-open, expiry-long, sound-order}
use Rattle.time_cache.proofs.cache.TimeBoundCache.due.Goals as goal

pub due-requires : goal.due-requires
due-requires c =
    let k = c.args.self in
    let xs = c.args.block.now in (
      c.requires.0.expiry_wide,
      expiry-long k xs c.requires.0,
      ap (λ (rs : List ExpiryRow). in_pop_order (map expiry_of rs)) (rows-open k xs) ∙ sound-order k xs c.requires.1,
    )

pub returns : goal.returns
unfolding cache_of
returns c =
    subst (λ (rs : List ExpiryRow). Cut (map expiry_of rs) c.args.instant.0 c.due.result) (rows-open c.args.self c.args.block.now) c.due.ensures
