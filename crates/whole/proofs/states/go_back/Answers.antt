-- `go_back`: the tests in their order, and then the block and the counts are read (`returns-0`).
use Rattle.whole.proofs.Words.{◌≡◌, sym, ap, ◌∙◌, subst, true, List, ℕ, ◌+◌, ◌*◌, ◌-◌, ◌≤◌, ◌<◌, arith, length, take, drop, put, length_part, put_all, Counts}
use Rattle.std.proofs.lemmas.Result.{err_from_is_err_and}
use Rattle.storage.specs.Rows.Part.{part}
use Rattle.whole.specs.Held.{whole_block}
use Rattle.whole.specs.States.Area.{kept, area_holds}
use Rattle.whole.specs.States.Calls.{Placed, Returns}
use Rattle.whole.specs.Stats.{counts_of}
use Rattle.whole.proofs.StatesLaws.Slots.{slot-end}
use Rattle.whole.proofs.StatesLaws.HoldsLaws.{holds_of}
use Rattle.whole.proofs.StatesLaws.CallLaws.{less, asked_yes, returns-refused, returns-15, returns-0}
use Rattle.whole.proofs.states.go_back.Goals as goal
use Rattle.whole.proofs.states.go_back.Goals.{Else-place-kept, In_ok-kept}

-- what is known once the area is held
module _ (d : In_ok-kept) where
  abbrev block : List ℕ
  block = d.args.block.now

  abbrev area : List ℕ
  area = d.args.area.now

  abbrev name : ℕ
  name = d.args.name

  yes : (whole_block block ≡ true) × (area_holds (length block) area ≡ true) × (d.in_ok-kept.kept ≡ kept area)
  yes = asked_yes block area d.in_ok-kept.kept (sym d.ask_area.ensures ∙ d.in_ok-kept.was)

  fits : 256 + length block * 4 ≤ length area
  fits = (holds_of (length block) area yes.1).long

  few : kept area ≤ 4
  few = (holds_of (length block) area yes.1).few

-- and once the name is found: the slot, and where it ends
module _ (d : Else-place-kept) where
  abbrev held : In_ok-kept
  held = (goal.at.Else-place-kept d).In_ok-kept

  abbrev slot : ℕ
  slot = d.place_of-place.result

  placed : Placed (kept (area held)) (name held) (area held) slot
  placed = subst (λ (k : ℕ). Placed k (name held) (area held) slot) (yes held).2 d.place_of-place.ensures

  there : slot < kept (area held)
  there = less placed.within (λ e. d.if-place-kept.false (e ∙ sym (yes held).2))

  low : slot < 4
  low = omega (arith, there, few held)

  ends : length (block held) * slot + length (block held) ≤ length (block held) * 4
  ends = slot-end (length (block held)) slot 4 low

  row_ends : 26 * slot + 26 ≤ 104
  row_ends = omega (arith, low)

pub returns-in_err-kept : goal.returns-in_err-kept
returns-in_err-kept c =
    let p = err_from_is_err_and c.from_residual.result c.from_residual.ensures.1 in
    let s = c.args in
    λ old. rw (p.1, p.2) (returns-refused s.block.now old s.area.now s.name c.in_err-kept.field-0.0 (sym c.ask_area.ensures ∙ c.in_err-kept.was))

pub place_of-place-requires : goal.place_of-place-requires
place_of-place-requires c =
    let h = (goal.at.place_of-place-requires c).In_ok-kept in
    (omega (arith, few h, (yes h).2), omega (arith, fits h))

pub returns-then-place-kept : goal.returns-then-place-kept
returns-then-place-kept c =
    let h = (goal.at.returns-then-place-kept c).In_ok-kept in
    let k : c.in_ok-kept.kept ≡ kept (area h) = (yes h).2 in
    λ old. returns-15 (block h) old (area h) (name h) (yes h).0 (yes h).1
    (subst (λ (i : ℕ). Placed (kept (area h)) (name h) (area h) i) (c.if-place-kept.true ∙ k) (subst (λ (m : ℕ). Placed m (name h) (area h) c.place_of-place.result) k c.place_of-place.ensures))

pub overflow_mul-start : goal.overflow_mul-start
overflow_mul-start c = record { fits = omega (arith, ends c, fits (held c)) }

pub overflow_add-start : goal.overflow_add-start
overflow_add-start c = omega (arith, ends c, fits (held c))

pub overflow_add-start-2 : goal.overflow_add-start-2
overflow_add-start-2 c = omega (arith, ends (goal.at.overflow_add-start-2 c).Else-place-kept, fits (held (goal.at.overflow_add-start-2 c).Else-place-kept))

pub overflow_mul-place : goal.overflow_mul-place
overflow_mul-place c = omega (arith, low (goal.at.overflow_mul-place c).Else-place-kept)

pub row_counts-requires : goal.row_counts-requires
row_counts-requires c = omega (arith, row_ends (goal.at.row_counts-requires c).Else-place-kept, fits (held (goal.at.row_counts-requires c).Else-place-kept))

pub returns : goal.returns
unfolding part
returns c =
    let h = held (goal.at.returns c).Else-place-kept in
    let n : ℕ = length (block h) in
    let from : ℕ = 256 + n * slot (goal.at.returns c).Else-place-kept in
    let size : from + n - from ≡ n = omega arith in
    let copy : c.copy_bytes.new.out ≡ part from n (area h) =
    c.copy_bytes.ensures ∙ ap (λ (m : ℕ). put 0 (take m (drop from (area h))) (block h)) size
    ∙ put_all (part from n (area h)) (block h) (length_part from n (area h) (omega (arith, ends (goal.at.returns c).Else-place-kept, fits h))) in
    λ old. subst (λ (t : List ℕ). Returns (block h) old (area h) (name h) t (counts_of c.row_counts.result) 0 0) (sym copy)
    (subst (λ (k : Counts). Returns (block h) old (area h) (name h) (part from n (area h)) k 0 0) (sym c.row_counts.ensures)
    (returns-0 (block h) old (area h) (name h) (yes h).0 (yes h).1 (slot (goal.at.returns c).Else-place-kept) (placed (goal.at.returns c).Else-place-kept) (there (goal.at.returns c).Else-place-kept)))

pub slice_bounds-copy_bytes-end : goal.slice_bounds-copy_bytes-end
slice_bounds-copy_bytes-end c = omega (arith, ends (goal.at.slice_bounds-copy_bytes-end c).Else-place-kept, fits (held (goal.at.slice_bounds-copy_bytes-end c).Else-place-kept))
