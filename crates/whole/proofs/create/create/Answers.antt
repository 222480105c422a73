-- `create`: the four questions in order, then the header of `State::new`.
use Rattle.whole.proofs.Words.{ap, not, ◌≡◌, refl, sym, subst, true, ◌≤◌, arith, length, Created, size_in_range, durations_in_range, limits_in_range, block_need, settings_of, limits_of}
use Rattle.block.specs.Header.{Stored}
use Rattle.block.specs.declared.head.Live.{Live}
use Rattle.whole.specs.Creation.{Creates}
use Rattle.whole.proofs.Tests.{no, yes}
use Rattle.whole.proofs.HeldLaws.{ceilings_of}
use Rattle.whole.proofs.CreateLaws.{create-0, create-1, create-2, create-3, create-4, need-header, fresh-accepted}
use Rattle.whole.proofs.create.create.Goals as goal
use Rattle.whole.proofs.create.create.Goals.{Else-block-block_need, Else-not-limits_in_range}

-- past the third question the first three are answered yes
size-yes : (c : Else-not-limits_in_range) → size_in_range (settings_of c.args.settings) ≡ true
size-yes c = yes c.size_in_range.ensures (ap not c.if-not-size_in_range.false)

durations-yes : (c : Else-not-limits_in_range) → durations_in_range (settings_of c.args.settings) ≡ true
durations-yes c = yes c.durations_in_range.ensures (ap not c.if-not-durations_in_range.false)

limits-yes : (c : Else-not-limits_in_range) → limits_in_range (limits_of c.args.limits) ≡ true
limits-yes c = yes c.limits_in_range.ensures (ap not c.if-not-limits_in_range.false)

-- past the fourth the block is long enough
long-yes : (c : Else-block-block_need)
    → block_need (limits_of c.args.limits)
    ≤ length c.args.block.now
long-yes c = omega (arith, c.block_need.ensures, c.if-block-block_need.false)

pub returns-then-not-size_in_range : goal.returns-then-not-size_in_range
returns-then-not-size_in_range c =
    subst (λ (x : Created). Creates x c.args.block.now c.args.block.now 1)
    (sym (create-1 (settings_of c.args.settings) (limits_of c.args.limits) (length c.args.block.now) (no c.size_in_range.ensures (ap not c.if-not-size_in_range.true))))
    (record { number = refl; block = refl })

pub returns-then-not-durations_in_range : goal.returns-then-not-durations_in_range
returns-then-not-durations_in_range c =
    subst (λ (x : Created). Creates x c.args.block.now c.args.block.now 2)
    (sym (create-2 (settings_of c.args.settings) (limits_of c.args.limits) (length c.args.block.now)
    (yes c.size_in_range.ensures (ap not c.if-not-size_in_range.false))
    (no c.durations_in_range.ensures (ap not c.if-not-durations_in_range.true))))
    (record { number = refl; block = refl })

pub returns-then-not-limits_in_range : goal.returns-then-not-limits_in_range
returns-then-not-limits_in_range c =
    subst (λ (x : Created). Creates x c.args.block.now c.args.block.now 3)
    (sym (create-3 (settings_of c.args.settings) (limits_of c.args.limits) (length c.args.block.now)
    (yes c.size_in_range.ensures (ap not c.if-not-size_in_range.false))
    (yes c.durations_in_range.ensures (ap not c.if-not-durations_in_range.false))
    (no c.limits_in_range.ensures (ap not c.if-not-limits_in_range.true))))
    (record { number = refl; block = refl })

pub block_need-requires : goal.block_need-requires
block_need-requires c = ceilings_of (limits_of c.args.limits) (limits-yes c)

pub returns-then-block-block_need : goal.returns-then-block-block_need
returns-then-block-block_need c =
    subst (λ (x : Created). Creates x c.args.block.now c.args.block.now 4)
    (sym (create-4 (settings_of c.args.settings) (limits_of c.args.limits) (length c.args.block.now)
    (size-yes (goal.at.returns-then-block-block_need c).Else-not-limits_in_range) (durations-yes (goal.at.returns-then-block-block_need c).Else-not-limits_in_range) (limits-yes (goal.at.returns-then-block-block_need c).Else-not-limits_in_range) (omega (arith, c.block_need.ensures, c.if-block-block_need.true))))
    (record { number = refl; block = refl })

pub store_head-requires : goal.store_head-requires
store_head-requires c =
    omega (arith, long-yes (goal.at.store_head-requires c).Else-block-block_need, need-header (limits_of c.args.limits))

pub returns : goal.returns
returns c =
    let ys = c.store_head.new.block in
    subst (λ (x : Created). Creates x c.args.block.now ys 0)
    (sym (create-0 (settings_of c.args.settings) (limits_of c.args.limits) (length c.args.block.now) (size-yes (goal.at.returns c).Else-not-limits_in_range) (durations-yes (goal.at.returns c).Else-not-limits_in_range) (limits-yes (goal.at.returns c).Else-not-limits_in_range) (long-yes (goal.at.returns c).Else-block-block_need)))
    (fresh-accepted c.args.settings c.args.limits c.args.block.now ys
    (subst (λ (v : Live). Stored (record { settings = c.args.settings; limits = c.args.limits; live = v }) c.args.block.now ys) c.fresh-live.ensures
    c.store_head.ensures)
    (limits-yes (goal.at.returns c).Else-not-limits_in_range) (long-yes (goal.at.returns c).Else-block-block_need) (omega (arith, c.well_formed)))
