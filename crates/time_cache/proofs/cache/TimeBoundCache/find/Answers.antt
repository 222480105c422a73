-- `find`: the search through places, in the tables lent to the block's end.
use Rattle.time_cache.proofs.BlockLaws.{names-lent, sound-up}
use Rattle.time_cache.proofs.cache.TimeBoundCache.find.Goals as goal

pub find-requires : goal.find-requires
find-requires c =
    let k = c.args.self in
    let xs = c.args.block.now in
    rw (c.rows.ensures.bytes, c.rows.ensures.rest.0, c.rows.ensures.rest.1, c.rows-2.ensures.bytes, c.rows-2.ensures.rest.0, c.rows-2.ensures.rest.1)
    (names-lent k xs c.requires.0 c.requires.1.below, sound-up k xs c.requires.1)
