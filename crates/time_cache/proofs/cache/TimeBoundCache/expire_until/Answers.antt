-- `expire_until`: the rows that are due go, and the entries that name them. `ExpireLaws` puts the steps together.
use Rattle.std.proofs.Common.{sym, subst, ℕ, ◌-◌, ◌≤◌, arith, eqb-true}
use lib.ListN.{length-map}
use Rattle.time_cache.specs.Tables.{expiry_of, Cut, cache_of, cache_at, rows_at, resized}
use Rattle.time_cache.specs.Steps.{Expires}
use Rattle.time_cache.specs.declared.cache.TimeBoundCache.{TimeBoundCache}
use Rattle.time_cache.proofs.ReadLaws.{length-rs}
use Rattle.time_cache.proofs.ExpireLaws.{expires, expires-none}
use Rattle.time_cache.proofs.ToldLaws.{told-nothing, told-no-room}
use Rattle.time_cache.proofs.cache.TimeBoundCache.expire_until.Goals as goal
use Rattle.time_cache.proofs.cache.TimeBoundCache.expire_until.Goals.{After-due-due, Then-due-eq0, then-not-is_empty, else-not-is_empty}

-- no more rows are due than there are
few : (d : After-due-due) → d.due-due.result ≤ d.args.self.expiry.len
unfolding cache_of
few d =
    omega (arith, d.due-due.ensures.within, length-map (rows_at d.args.self d.args.block.now) expiry_of, length-rs d.args.self d.args.block.now)

-- nothing is due
none : (c : Then-due-eq0) → Expires c.args.self c.args.instant.0 c.args.block.now (record { cache = resized c.args.self.entries.len c.args.self.expiry.len c.args.self; removed = 0 }) c.args.block.now
none c =
    let k = c.args.self in
    let xs = c.args.block.now in
    expires-none k c.args.instant.0 xs c.requires.lies.0 c.requires.lies.1 (subst (λ (j : ℕ). Cut (cache_at k xs).expiry c.args.instant.0 j) c.if-due-eq0.true c.due-due.ensures)

pub returns-then-due-eq0-clause-left : goal.returns-then-due-eq0-clause-left
returns-then-due-eq0-clause-left c =
    subst (λ (r : TimeBoundCache). Expires c.args.self c.args.instant.0 c.args.block.now (record { cache = r; removed = 0 }) c.args.block.now) (sym c.resized-cache.ensures)
    (none (goal.at.returns-then-due-eq0-clause-left c).Then-due-eq0)

pub returns-then-due-eq0-clause-gone : goal.returns-then-due-eq0-clause-gone
returns-then-due-eq0-clause-gone c = told-nothing _ c.args.gone.now (none (goal.at.returns-then-due-eq0-clause-gone c).Then-due-eq0).removes

pub drop_rows-requires : goal.drop_rows-requires
drop_rows-requires c = (c.requires.lies.0, few (goal.at.drop_rows-requires c).After-due-due)

pub overflow_sub-rows : goal.overflow_sub-rows
overflow_sub-rows c = omega (arith, few (goal.at.overflow_sub-rows c).After-due-due)

pub returns-clause-left : goal.returns-clause-left
returns-clause-left c =
    let k = c.args.self in
    let xs = c.args.block.now in
    let q = c.drop_entries-left.result in
    subst (λ (r : TimeBoundCache). Expires k c.args.instant.0 xs (record { cache = r; removed = k.entries.len - q }) c.drop_entries-left.new.block) (sym c.resized-cache-2.ensures)
    (expires k c.args.instant.0 c.due-due.result xs c.drop_rows.new.block c.drop_entries-left.new.block q c.requires.lies.0 c.requires.lies.1 c.due-due.ensures
    c.drop_rows.ensures c.drop_rows.auto.block c.drop_entries-left.ensures c.drop_entries-left.auto.block)

pub returns-clause-gone : goal.returns-clause-gone
returns-clause-gone c =
    elim c.if-not-is_empty.branch [
      | then-not-is_empty w ↦ rw w.gone-is w.write_keys.ensures
      | else-not-is_empty w ↦ rw w.gone-is (told-no-room _ c.args.gone.now (eqb-true _ _ (sym w.if-not-is_empty.ensures)))
    ]
