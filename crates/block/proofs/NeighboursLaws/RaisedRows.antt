-- Rows with a list of link numbers inside, after a link came in: row after row, and what else stands in a row.
-- Assumes nothing.
use Rattle.block.proofs.Words.{◌≡◌, sym, ap, ◌∙◌, subst, List, [], ◌∷◌, map, ℕ, ◌+◌, ◌*◌, ◌≤◌, ◌<◌, arith, length, take, drop, get_or, drop-drop, put, rows, length_part, part-part, get_d_part, length-rows, get_d_rows, rows-field, row-end, shifted, Below, done-read, done_more}
use Rattle.std.proofs.Common.{get_or-drop}
use lib.ListN.{length-map}
use Rattle.storage.specs.Rows.Part.{part}
use Rattle.storage.proofs.RefsLaws.Shifts.{done}
use Rattle.block.specs.View.{byte_at}
use Rattle.block.specs.Sound.{Numbered}
use Rattle.block.specs.Neighbours.Raised.{raised_row}
use Rattle.storage.specs.Refs.Numbers.{raised}

-- the list at o of a row, in the row's own bytes
pub few-in : (m o : ℕ) (row : List ℕ) → Numbered m (drop o row) → byte_at o row ≤ 32
few-in m o row n =
    let z : o + 0 ≡ o = omega arith in
    let e : byte_at 0 (drop o row) ≡ byte_at o row = get_or-drop o row 0 0 ∙ ap (λ (a : ℕ). get_or row a 0) z in
    omega (arith, n.few)

pub numbers-in : (o : ℕ) (row : List ℕ) → take (byte_at 0 (drop o row)) (drop 1 (drop o row)) ≡ part (o + 1) (byte_at o row) row
unfolding part
numbers-in o row =
    let z : o + 0 ≡ o = omega arith in
    let e : byte_at 0 (drop o row) ≡ byte_at o row = get_or-drop o row 0 0 ∙ ap (λ (a : ℕ). get_or row a 0) z in
    λ k. take (e k) (drop-drop 1 o row k)

pub below_in : (m o : ℕ) (row : List ℕ) → Numbered m (drop o row) → Below m (part (o + 1) (byte_at o row) row)
below_in m o row n = subst (Below m) (numbers-in o row) n.below

-- one row after the other
module _ (i o s n : ℕ) (xs ys : List ℕ) (k : ℕ) (wide : o + 97 ≤ s) (h : k < n) (room : n * s ≤ length xs) (long : length ys ≡ length xs)
    (inv : rows s n ys ≡ done (raised_row i o) [] (rows s n xs) k) where
  abbrev row : List ℕ
  row = part (k * s) s xs

  pub row-was : part (k * s) s ys ≡ row
  row-was =
      sym (get_d_rows s n k [] ys h)
      ∙ ap (λ (rs : List (List ℕ)). get_or rs k []) inv
      ∙ done-read (raised_row i o) [] (rows s n xs) k (omega (arith, length-rows s n xs))
      ∙ get_d_rows s n k [] xs h

  pub count-was : get_or ys (k * s + o) 0 ≡ byte_at o row
  count-was = sym (get_d_part (k * s) s o 0 ys (omega arith)) ∙ ap (byte_at o) row-was

  module _ (c : ℕ) (e : c ≡ get_or ys (k * s + o) 0) (few : byte_at o row ≤ 32) where
    pub numbers-were : part (k * s + o + 1) c ys ≡ part (o + 1) (byte_at o row) row
    numbers-were =
        let a : k * s + o + 1 ≡ k * s + (o + 1) = omega arith in
        let q : c ≡ byte_at o row = e ∙ count-was in
        ap (λ (b : ℕ). part b c ys) a ∙ sym (part-part (o + 1) c (k * s) s ys (omega arith)) ∙ (λ z. part (o + 1) (q z) (row-was z))

    pub rows_more : rows s n (raised i (k * s + o + 1) c ys) ≡ done (raised_row i o) [] (rows s n xs) (k + 1)
    unfolding raised raised_row
    rows_more =
        let a : k * s + o + 1 ≡ k * s + (o + 1) = omega arith in
        let zs : List ℕ = map (shifted i) (part (o + 1) (byte_at o row) row) in
        let lr : length row ≡ s = length_part (k * s) s xs (omega (arith, row-end s n k h)) in
        let lz : length zs ≡ byte_at o row = length-map (part (o + 1) (byte_at o row) row) (shifted i) ∙ length_part (o + 1) (byte_at o row) row (omega arith) in
        (λ z. rows s n (put (a z) (map (shifted i) (numbers-were z)) ys))
        ∙ rows-field s k n (o + 1) zs ys (omega arith) h (omega arith)
        ∙ (λ z. put k (put (o + 1) zs (row-was z) ∷ []) (inv z))
        ∙ ap (λ (r : List ℕ). put k (raised_row i o r ∷ []) (done (raised_row i o) [] (rows s n xs) k)) (sym (get_d_rows s n k [] xs h))
        ∙ done_more (raised_row i o) [] (rows s n xs) k (omega (arith, length-rows s n xs))
