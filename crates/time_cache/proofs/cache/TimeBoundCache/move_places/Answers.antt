-- `move_places`: `make_room` in the entries, lent; or nothing, where no place is that high.
use Rattle.std.proofs.Common.{◌≡◌, sym, ap, ◌∙◌, subst, List, map, ℕ, ◌+◌, ◌-◌, ◌*◌, ◌≤◌, length, arith}
use Rattle.storage.specs.Rows.Part.{part}
use Rattle.storage.proofs.RowsLaws.Parts.{length_part}
use Rattle.storage.specs.Refs.Refs.{Ref, refs, places, Below, moved}
use Rattle.time_cache.specs.Tables.{refs_at}
use Rattle.time_cache.proofs.Orders.{of-below}
use Rattle.time_cache.proofs.TableLaws.{moved_none}
use Rattle.time_cache.proofs.LoanLaws.{refs-lent, refs-back, size_of, only-back, only_same}
use Rattle.time_cache.proofs.cache.TimeBoundCache.move_places.Goals as goal
use Rattle.time_cache.proofs.cache.TimeBoundCache.move_places.Goals.{Start}

-- the size of what is lent
lent : (s : Start) → let c = s.args.self in let k = c.entries.len * c.entries.stride in
    (c.entries.at + k ≤ length s.args.block.now) × (length (part c.entries.at (c.entries.at + k - c.entries.at) s.args.block.now) ≡ k)
    × (refs c.entries.stride c.entries.len (part c.entries.at (c.entries.at + k - c.entries.at) s.args.block.now) ≡ refs_at c s.args.block.now)
unfolding part
lent s =
    let c = s.args.self in
    let k = c.entries.len * c.entries.stride in
    let xs = s.args.block.now in
    let e : c.entries.at + k - c.entries.at ≡ k = size_of c.entries.at k in
    let w : c.entries.at + k ≤ length xs = omega (arith, s.requires.0.apart, s.requires.0.within) in (
      w,
      ap (λ (j : ℕ). length (part c.entries.at j xs)) e ∙ length_part c.entries.at k xs w,
      refs-lent c.entries.stride c.entries.len c.entries.at (c.entries.at + k - c.entries.at) xs (omega (arith, e)),
    )

pub returns-then-self-i : goal.returns-then-self-i
returns-then-self-i c =
    let k = c.args.self in
    let xs = c.args.block.now in
    record {
      refs = sym (moved_none c.args.i k.expiry.len (refs_at k xs) c.if-self-i.true (of-below k.expiry.len _ c.requires.1));
      only = only_same k.entries.at (k.entries.len * k.entries.stride) xs (lent (goal.at.returns-then-self-i c).Start).0;
    }

pub make_room-requires : goal.make_room-requires
unfolding part
make_room-requires c =
    let k = c.args.self in (
      c.requires.0.entry_wide,
      omega (arith, (lent (goal.at.make_room-requires c).Start).1),
      record {
        below = λ j h. omega (arith, c.requires.0.few, (subst (λ (es : List Ref). Below k.expiry.len (places es)) (sym (lent (goal.at.make_room-requires c).Start).2) c.requires.1).below j h);
      },
    )

pub returns : goal.returns
unfolding part
returns c =
    let k = c.args.self in
    let xs = c.args.block.now in
    let a = k.entries.at in
    let z = k.entries.len * k.entries.stride in
    let zs = c.make_room.new.bytes in
    let lz : length zs ≡ z = c.make_room.auto.bytes ∙ (lent (goal.at.returns c).Start).1 in
    record {
      refs = refs-back k.entries.stride k.entries.len a (a + z - a) zs xs (omega (arith, lz)) (omega (arith, (lent (goal.at.returns c).Start).0))
          ∙ c.make_room.ensures
          ∙ ap (map (moved c.args.i)) (lent (goal.at.returns c).Start).2;
      only = only-back a z (a + z - a) zs xs (size_of a z) lz (lent (goal.at.returns c).Start).0;
    }
