-- `write_keys`: the keys of the rows that `expired_rows` tells, one after the other.
use Rattle.std.proofs.Common.{◌≡◌, ◌<◌, ℕ, arith, length, List, ap, ◌∙◌, subst, min, take, length-take}
use Rattle.time_cache.specs.Gone.{key_of_row}
use Rattle.time_cache.proofs.ToldLaws.{Written, written-none, written-more, written-done}
use Rattle.time_cache.proofs.cache.TimeBoundCache.write_keys.Goals as goal
use Rattle.time_cache.proofs.cache.TimeBoundCache.write_keys.Goals.{In-loop-i}

pub loop-i-init : goal.loop-i-init
loop-i-init c = written-none (key_of_row c.args.self c.args.block.now) _ _

-- the row's key goes into the slice
in_gone : (c : In-loop-i) → c.loop-i.i < length c.loop-i.gone
in_gone c =
    omega (arith, c.loop-i-test.true, length-take c.min-room.result c.as_slice.result.now, c.min-room.ensures, c.loop-i.auto.gone)

pub loop-i-preserved : goal.loop-i-preserved
loop-i-preserved c =
    written-more (key_of_row c.args.self c.args.block.now) _ _ _ c.loop-i.i c.key_at.result c.loop-i-test.true (in_gone (goal.at.loop-i-preserved c).In-loop-i) c.key_at.ensures c.loop-i.invariant

pub returns : goal.returns
returns c =
    let rows = c.expired_rows-rows.result.items in
    let r = c.min-room.result in
    let at : c.as_slice.result.now ≡ rows = c.as_slice.ensures.value in
    let end : c.loop-i.i ≡ length (take r rows) =
    omega (arith, c.loop-i-test.false, c.loop-i.auto.i-end, ap (λ (l : List ℕ). length (take r l)) at) in
    written-done (key_of_row c.args.self c.args.block.now) rows c.args.gone.now c.loop-i.gone r c.loop-i.i _ c.expired_rows-rows.ensures.keys
    (c.min-room.ensures ∙ ap (λ (n : ℕ). min n (length c.args.gone.now)) c.len.ensures.value) end
    (subst (λ (l : List ℕ). Written (key_of_row c.args.self c.args.block.now) (take r l) c.args.gone.now c.loop-i.gone c.loop-i.i) at c.loop-i.invariant)
