-- A row of places that is moved down, with another place.
-- Assumes nothing.
use Rattle.std.proofs.Common.{◌≡◌, sym, ap, ◌∙◌, List, [], ◌∷◌, map, ◌++◌, ℕ, ◌+◌, ◌-◌, ◌*◌, ◌≤◌, ◌<◌, arith, length, get_or, drop, length-append, take_at, drop_at}
use Rattle.storage.specs.Rows.Part.{part, put}
use Rattle.storage.specs.Rows.Digits.{le_nat, le_bytes}
use Rattle.storage.specs.Rows.Rows.{rows}
use Rattle.storage.proofs.RowsLaws.Parts.{put-put-prev, length_part, drop-part}
use Rattle.storage.proofs.RowsLaws.Digits.{length-le_bytes, le_nat-le_bytes}
use Rattle.storage.proofs.RowsLaws.Rows.{rows-put-one, row-end}
use Rattle.storage.proofs.RowsLaws.Views.{map-put}
use Rattle.storage.specs.Refs.Refs.{Ref, ref, ref_of, refs}
use Rattle.storage.proofs.RefsLaws.Places.{ref-at}

-- a row that is a place and the bytes after it
first_two : (v : ℕ) (own : List ℕ) → part 0 2 (le_bytes 2 v ++ own) ≡ le_bytes 2 v
unfolding part
first_two v own = take_at (le_bytes 2 v) own 2 (length-le_bytes 2 v)

after_two : (v : ℕ) (own : List ℕ) → drop 2 (le_bytes 2 v ++ own) ≡ own
after_two v own = drop_at (le_bytes 2 v) own 2 (length-le_bytes 2 v)

-- row i of places, moved down to row j with another place
pub row_moved : (s n i j v : ℕ) (d : Ref) (e : List ℕ) → 2 ≤ s → i < n → j < n → n * s ≤ length e → v < 65536
    → refs s n (put (j * s) (le_bytes 2 v) (put (j * s + 2) (part (i * s + 2) (s - 2) e) e)) ≡ put j (ref v (get_or (refs s n e) i d).own ∷ []) (refs s n e)
unfolding refs ref_of
row_moved s n i j v d e w li lj h b =
    let own : List ℕ = part (i * s + 2) (s - 2) e in
    let lo : length own ≡ s - 2 = length_part (i * s + 2) (s - 2) e (omega (arith, row-end s n i li)) in
    let row : List ℕ = le_bytes 2 v ++ own in
    let lr : length row ≡ s = omega (arith, length-append (le_bytes 2 v) own, length-le_bytes 2 v) in
    let p : le_nat (part 0 2 row) ≡ v = ap le_nat (first_two v own) ∙ le_nat-le_bytes 2 v b in
    let o : drop 2 row ≡ (get_or (map ref_of (rows s n e)) i d).own = after_two v own ∙ sym (ap (λ (r : Ref). r.own) (ref-at s n i d e li) ∙ drop-part (i * s) 2 s e w) in
    ap (λ (x : List ℕ). map ref_of (rows s n x)) (put-put-prev (j * s) (j * s + 2) (le_bytes 2 v) own e (omega (arith, length-le_bytes 2 v)) (omega (arith, row-end s n j lj)))
    ∙ ap (map ref_of) (rows-put-one s j n row e lr lj h)
    ∙ map-put ref_of j (row ∷ []) (rows s n e)
    ∙ (λ k. put j (ref (p k) (o k) ∷ []) (map ref_of (rows s n e)))
