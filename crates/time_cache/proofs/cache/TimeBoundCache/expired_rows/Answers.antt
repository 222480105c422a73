-- `expired_rows`: the rows that are due have passed, one after the other.
use Rattle.std.proofs.Common.{◌≡◌, ◌+◌, ◌<◌, ℕ, Bool, true, false, [], ◌∷◌, ◌++◌, refl, arith, subst, length-append}
use Rattle.time_cache.specs.Tables.{cache_at, Cut}
use Rattle.time_cache.proofs.ReadLaws.{count-times}
use Rattle.time_cache.specs.Gone.{Passed, told_with}
use Rattle.time_cache.proofs.PassedLaws.{passed-few, passed-start, passed-done}
use Rattle.time_cache.proofs.cache.TimeBoundCache.expired_rows.Given.{Over}
use Rattle.time_cache.proofs.cache.TimeBoundCache.expired_rows.Goals as goal
use Rattle.time_cache.proofs.cache.TimeBoundCache.expired_rows.Goals.{In-loop-row, After-loop-row, After-pass_row, then-pass_row, else-pass_row}

-- the row is one of the table's
below : (g : Over) (c : In-loop-row g) → c.loop-row.row < c.args.self.expiry.len
below g c = omega (arith, c.loop-row-test.true, c.due-due.ensures.within, count-times c.args.self c.args.block.now)

pub loop-row-init : goal.loop-row-init
loop-row-init g c = rw c.new-told.ensures (passed-start g.row.N c.args.self c.args.block.now _ c.requires.few.0 refl)

pub pass_row-requires-clause-row : goal.pass_row-requires-clause-row
pass_row-requires-clause-row g c = below g (goal.at.pass_row-requires-clause-row g c).In-loop-row

pub overflow_cast-row : goal.overflow_cast-row
overflow_cast-row g c = omega (arith, below g (goal.at.overflow_cast-row g c).In-loop-row, c.requires.lies.0.few)

-- the row is told, or it is not
with_row : (g : Over) (c : After-pass_row g) (b : Bool) → c.pass_row.result ≡ b → Passed c.args.self c.args.block.now c.pass_row.new.gone (told_with b c.loop-row.row c.loop-row.told.items) (c.loop-row.row + 1)
with_row g c b e =
    subst (λ (x : Bool). Passed c.args.self c.args.block.now c.pass_row.new.gone (told_with x c.loop-row.row c.loop-row.told.items) (c.loop-row.row + 1)) e
    (c.pass_row.ensures c.loop-row.told.items c.loop-row.invariant)

pub push-requires : goal.push-requires
push-requires g c =
    omega (
      arith,
      c.requires.few,
      length-append c.loop-row.told.items (c.loop-row.row ∷ []),
      passed-few c.args.self c.args.block.now c.pass_row.new.gone (c.loop-row.told.items ++ (c.loop-row.row ∷ [])) (c.loop-row.row + 1) c.requires.lies.1 (with_row g (goal.at.push-requires g c).After-pass_row true c.if-pass_row.true),
    )

pub loop-row-preserved : goal.loop-row-preserved
loop-row-preserved g c =
    let passed = with_row g (goal.at.loop-row-preserved g c).After-pass_row in
    elim c.if-pass_row.branch [
      | then-pass_row w ↦ rw (w.told-is, w.push.ensures.items) (passed true w.if-pass_row.true)
      | else-pass_row w ↦ rw w.told-is (passed false w.if-pass_row.false)
    ]

-- the last row passed is the last that is due
final : (g : Over) (c : After-loop-row g) → c.due-due.result ≡ c.loop-row.row
final g c = omega (arith, c.loop-row-test.false, c.loop-row.auto.row-end)

pub returns-clause-keys : goal.returns-clause-keys
returns-clause-keys g c = passed-done c.args.self c.args.block.now c.loop-row.gone c.loop-row.told.items c.loop-row.row c.args.instant.0 c.loop-row.invariant (subst (λ (k : ℕ). Cut (cache_at c.args.self c.args.block.now).expiry c.args.instant.0 k) (final g (goal.at.returns-clause-keys g c).After-loop-row) c.due-due.ensures)

pub returns-clause-rows : goal.returns-clause-rows
returns-clause-rows g c = c.loop-row.invariant.rows
