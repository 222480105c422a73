-- `save`: the tests in their order, and then the row, the block and the number are put (`saves-0`).
use Rattle.whole.proofs.Words.{◌≡◌, sym, ap, ◌∙◌, subst, true, List, [], ◌∷◌, ℕ, ◌+◌, ◌-◌, ◌*◌, ◌≤◌, ◌<◌, arith, length, set, Entry, entry, put, length-put, set-put, Counts}
use Rattle.std.proofs.lemmas.Result.{err_from_is_err_and}
use Rattle.whole.specs.Held.{whole_block}
use Rattle.whole.specs.States.Kept.{Kept}
use Rattle.whole.specs.States.Area.{kept, row_bytes, area_holds}
use Rattle.whole.specs.States.Calls.{Placed, Saves}
use Rattle.whole.specs.Stats.{counts_of}
use Rattle.whole.proofs.StatesLaws.Slots.{slot-end}
use Rattle.whole.proofs.StatesLaws.AreaLaws.{length-row}
use Rattle.whole.proofs.StatesLaws.HoldsLaws.{holds_of}
use Rattle.whole.proofs.StatesLaws.CallLaws.{less, asked_yes, saves-refused, saves-16, saves-0}
use Rattle.whole.proofs.states.save.Goals as goal
use Rattle.whole.proofs.states.save.Goals.{After-copy_bytes, After-put_row, In_ok-kept, Else-slot-eq-STATES}

-- what is known once the area is held
module _ (d : In_ok-kept) where
  abbrev block : List ℕ
  block = d.args.block.now

  abbrev area : List ℕ
  area = d.args.area.now

  abbrev name : ℕ
  name = d.args.name

  abbrev counts : Counts
  counts = counts_of d.args.counts

  abbrev x : Entry Kept
  x = entry name (record { counts = counts; block = block })

  yes : (whole_block block ≡ true) × (area_holds (length block) area ≡ true) × (d.in_ok-kept.kept ≡ kept area)
  yes = asked_yes block area d.in_ok-kept.kept (sym d.ask_area.ensures ∙ d.in_ok-kept.was)

  fits : 256 + length block * 4 ≤ length area
  fits = (holds_of (length block) area yes.1).long

  few : kept area ≤ 4
  few = (holds_of (length block) area yes.1).few

-- once there is a slot: where it ends
module _ (d : Else-slot-eq-STATES) where
  abbrev held : In_ok-kept
  held = (goal.at.Else-slot-eq-STATES d).In_ok-kept

  abbrev slot : ℕ
  slot = d.place_of-slot.result

  placed : Placed (kept (area held)) (name held) (area held) slot
  placed = subst (λ (k : ℕ). Placed k (name held) (area held) slot) (yes held).2 d.place_of-slot.ensures

  room : slot < 4
  room = less (omega (arith, placed.within, few held)) d.if-slot-eq-STATES.false

  ends : length (block held) * slot + length (block held) ≤ length (block held) * 4
  ends = slot-end (length (block held)) slot 4 room

-- the area with the row, and with the block
module _ (d : After-put_row) where
  abbrev at : Else-slot-eq-STATES
  at = (goal.at.After-put_row d).Else-slot-eq-STATES

  long-row : length d.put_row.new.area ≡ length (area (held at))
  unfolding row_bytes
  long-row = ap length d.put_row.ensures ∙ length-put (26 * slot at) (row_bytes (x (held at))) (area (held at)) (omega (arith, length-row (x (held at)), room at, fits (held at)))

module _ (d : After-copy_bytes) where
  abbrev rowed : After-put_row
  rowed = (goal.at.After-copy_bytes d).After-put_row

  abbrev at' : Else-slot-eq-STATES
  at' = (goal.at.After-copy_bytes d).Else-slot-eq-STATES

  long-block : length d.copy_bytes.new.out ≡ length (area (held at'))
  long-block =
      ap length d.copy_bytes.ensures
      ∙ length-put (256 + length (block (held at')) * slot at') (block (held at')) rowed.put_row.new.area (omega (arith, long-row rowed, ends at', fits (held at')))
      ∙ long-row rowed

pub returns-in_err-kept : goal.returns-in_err-kept
returns-in_err-kept c =
    let p = err_from_is_err_and c.from_residual.result c.from_residual.ensures.1 in
    let s = c.args in
    rw (p.1, p.2) (saves-refused s.block.now (counts_of s.counts) s.area.now s.name c.in_err-kept.field-0.0 (sym c.ask_area.ensures ∙ c.in_err-kept.was))

pub place_of-slot-requires : goal.place_of-slot-requires
place_of-slot-requires c =
    let h = (goal.at.place_of-slot-requires c).In_ok-kept in
    (omega (arith, few h, (yes h).2), omega (arith, fits h))

pub returns-then-slot-eq-STATES : goal.returns-then-slot-eq-STATES
returns-then-slot-eq-STATES c =
    let h = (goal.at.returns-then-slot-eq-STATES c).In_ok-kept in
    saves-16 (block h) (counts h) (area h) (name h) (yes h).0 (yes h).1
    (subst (λ (i : ℕ). Placed (kept (area h)) (name h) (area h) i) c.if-slot-eq-STATES.true (subst (λ (k : ℕ). Placed k (name h) (area h) c.place_of-slot.result) (yes h).2 c.place_of-slot.ensures))

pub overflow_mul-slot : goal.overflow_mul-slot
overflow_mul-slot c = omega (arith, room (goal.at.overflow_mul-slot c).Else-slot-eq-STATES)

pub put_row-requires : goal.put_row-requires
put_row-requires c = omega (arith, room (goal.at.put_row-requires c).Else-slot-eq-STATES, fits (held (goal.at.put_row-requires c).Else-slot-eq-STATES))

pub overflow_mul-block : goal.overflow_mul-block
overflow_mul-block c = record { fits = omega (arith, ends (goal.at.overflow_mul-block c).Else-slot-eq-STATES, fits (held (goal.at.overflow_mul-block c).Else-slot-eq-STATES)) }

pub overflow_add-block : goal.overflow_add-block
overflow_add-block c = omega (arith, ends (goal.at.overflow_add-block c).Else-slot-eq-STATES, fits (held (goal.at.overflow_add-block c).Else-slot-eq-STATES))

pub copy_bytes-requires : goal.copy_bytes-requires
copy_bytes-requires c = omega (arith, long-row (goal.at.copy_bytes-requires c).After-put_row, ends (goal.at.copy_bytes-requires c).Else-slot-eq-STATES, fits (held (goal.at.copy_bytes-requires c).Else-slot-eq-STATES))

pub kept_after-requires : goal.kept_after-requires
kept_after-requires c =
    let h = held (goal.at.kept_after-requires c).Else-slot-eq-STATES in
    (room (goal.at.kept_after-requires c).Else-slot-eq-STATES, omega (arith, few h, (yes h).2))

pub bounds-area-255 : goal.bounds-area-255
bounds-area-255 c = omega (arith, long-block (goal.at.bounds-area-255 c).After-copy_bytes, fits (held (goal.at.bounds-area-255 c).Else-slot-eq-STATES))

pub returns : goal.returns
unfolding row_bytes
returns c =
    let h = held (goal.at.returns c).Else-slot-eq-STATES in
    let n : ℕ = length (block h) in
    let v : ℕ = c.kept_after.result in
    let after : set c.copy_bytes.new.out 255 v ≡ put 255 (v ∷ []) (put (256 + n * slot (goal.at.returns c).Else-slot-eq-STATES) (block h) (put (26 * slot (goal.at.returns c).Else-slot-eq-STATES) (row_bytes (x h)) (area h))) =
    set-put 255 v c.copy_bytes.new.out (omega (arith, long-block (goal.at.returns c).After-copy_bytes, fits h))
    ∙ ap (put 255 (v ∷ [])) (c.copy_bytes.ensures ∙ ap (put (256 + n * slot (goal.at.returns c).Else-slot-eq-STATES) (block h)) (rowed (goal.at.returns c).After-copy_bytes).put_row.ensures) in
    subst (λ (t : List ℕ). Saves (block h) (counts h) (area h) (name h) t 0 0) (sym after)
    (saves-0 (block h) (counts h) (area h) (name h) (yes h).0 (yes h).1 (slot (goal.at.returns c).Else-slot-eq-STATES) v (placed (goal.at.returns c).Else-slot-eq-STATES) (room (goal.at.returns c).Else-slot-eq-STATES)
    (c.kept_after.ensures ∙ ap (λ (k : ℕ). slot (goal.at.returns c).Else-slot-eq-STATES + 1 + (k - (slot (goal.at.returns c).Else-slot-eq-STATES + 1))) (yes h).2))
