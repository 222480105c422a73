-- `is_sound`: the two passes, as the definition joins them.
use Rattle.std.proofs.Common.{◌≡◌, sym, ◌∙◌}
use Rattle.storage.specs.Refs.Refs.{refs}
use Rattle.time_cache.specs.Tables.{expiry_rows, names_ascend, refs_at, rows_at}
use Rattle.time_cache.proofs.BlockLaws.{sound-low, sound-all}
use Rattle.time_cache.proofs.cache.TimeBoundCache.is_sound.Goals as goal
use Rattle.time_cache.proofs.cache.TimeBoundCache.is_sound.Goals.{After-names_ascend}

-- what the first pass tells
first : (d : After-names_ascend) → d.names_ascend.result ≡ names_ascend d.args.self.expiry.len (rows_at d.args.self d.args.block.now) (refs_at d.args.self d.args.block.now)
first d =
    let e = d.rows.ensures in
    let r = d.rows-expiry.ensures in
    d.names_ascend.ensures ∙ (λ j. names_ascend (r.rest.1 j) (expiry_rows (r.rest.0 j) (r.rest.1 j) (r.bytes j)) (refs (e.rest.0 j) (e.rest.1 j) (e.bytes j)))

pub returns-then-names_ascend : goal.returns-then-names_ascend
returns-then-names_ascend c =
    sound-all c.args.self c.args.block.now (sym c.if-names_ascend.true ∙ first (goal.at.returns-then-names_ascend c).After-names_ascend) c.in_order.result
    (rw (sym c.rows-expiry.ensures.bytes, sym c.rows-expiry.ensures.rest.0, sym c.rows-expiry.ensures.rest.1) c.in_order.ensures)

pub returns-else-names_ascend : goal.returns-else-names_ascend
returns-else-names_ascend c =
    c.if-names_ascend.false ∙ sound-low c.args.self c.args.block.now (sym c.if-names_ascend.false ∙ first (goal.at.returns-else-names_ascend c).After-names_ascend)
