-- Rows of places as they lie in a slice, and what a store does to them.
-- Assumes nothing.
use Rattle.std.proofs.Common.{◌≡◌, refl, sym, ap, ◌∙◌, subst, ◌⊎◌, inl, inr, List, [], ◌∷◌, map, ◌++◌, ℕ, zero, suc, ◌+◌, ◌*◌, ◌≤◌, ◌<◌, eq-or-lt_of_le, add-zero, arith, length, get_or, take, drop}
use lib.ListN.{length-map}
use Rattle.storage.specs.Rows.Part.{part, put}
use Rattle.storage.specs.Rows.Digits.{le_nat, le_bytes}
use Rattle.storage.specs.Rows.Rows.{rows, opened}
use Rattle.storage.proofs.RowsLaws.Parts.{part-part, part-put, length_part, drop-put}
use Rattle.storage.proofs.RowsLaws.Digits.{length-le_bytes, le_nat-le_bytes}
use Rattle.storage.proofs.RowsLaws.Rows.{length-rows, get_d_rows, take-rows, rows-field, rows-opened, row-end}
use Rattle.storage.proofs.RowsLaws.Views.{map-put, map-take, map-gap}
use Rattle.storage.specs.Refs.Refs.{Ref, ref, ref_of, refs, places}

-- an element of a mapped list, whatever the defaults
pub get_or-map-in : {A B : Type 0} (f : A → B) (l : List A) (i : ℕ) (d : B) (b : A) → i < length l → get_or (map f l) i d ≡ f (get_or l i b)
get_or-map-in f [] i d b h = absurd (omega arith)
get_or-map-in f (x ∷ l) zero d b h = refl
get_or-map-in f (x ∷ l) (suc i) d b h = get_or-map-in f l i d b (omega arith)

pub length-refs : (s n : ℕ) (e : List ℕ) → length (refs s n e) ≡ n
unfolding refs
length-refs s n e = length-map (rows s n e) ref_of ∙ length-rows s n e

pub length-places : (s n : ℕ) (e : List ℕ) → length (places (refs s n e)) ≡ n
length-places s n e = length-map (refs s n e) (λ (r : Ref). r.place) ∙ length-refs s n e

-- row i
pub ref-at : (s n i : ℕ) (d : Ref) (e : List ℕ) → i < n → get_or (refs s n e) i d ≡ ref_of (part (i * s) s e)
unfolding refs
ref-at s n i d e l =
    get_or-map-in ref_of (rows s n e) i d [] (omega (arith, length-rows s n e)) ∙ ap ref_of (get_d_rows s n i [] e l)

-- the first j of n rows
pub refs-first : (s j n : ℕ) (e : List ℕ) → j ≤ n → refs s j e ≡ take j (refs s n e)
unfolding refs
refs-first s j n e h = ap (map ref_of) (sym (take-rows s j n e h)) ∙ map-take ref_of j (rows s n e)

-- the place of row i, as it lies in the slice
pub place_in : (s n i : ℕ) (d : Ref) (e : List ℕ) → 2 ≤ s → i < n → (get_or (refs s n e) i d).place ≡ le_nat (part (i * s) 2 e)
unfolding ref_of
place_in s n i d e w l =
    ap (λ (r : Ref). r.place) (ref-at s n i d e l)
    ∙ ap le_nat (part-part 0 2 (i * s) s e (omega arith) ∙ ap (λ (a : ℕ). part a 2 e) (add-zero (i * s)))

pub place_at : (s n i : ℕ) (e : List ℕ) → 2 ≤ s → i < n → get_or (places (refs s n e)) i 0 ≡ le_nat (part (i * s) 2 e)
place_at s n i e w l =
    get_or-map-in (λ (r : Ref). r.place) (refs s n e) i 0 (ref 0 []) (omega (arith, length-refs s n e)) ∙ place_in s n i (ref 0 []) e w l

-- a place that is stored in row i
pub store-place : (s n i v : ℕ) (d : Ref) (e : List ℕ) → 2 ≤ s → i < n → n * s ≤ length e → v < 65536
    → refs s n (put (i * s) (le_bytes 2 v) e) ≡ put i (ref v (get_or (refs s n e) i d).own ∷ []) (refs s n e)
unfolding refs ref_of
store-place s n i v d e w l h b =
    let row : List ℕ = part (i * s) s e in
    let lr : length row ≡ s = length_part (i * s) s e (omega (arith, row-end s n i l)) in
    let p : le_nat (part 0 2 (put 0 (le_bytes 2 v) row)) ≡ v = ap le_nat (part-put 0 2 (le_bytes 2 v) row (length-le_bytes 2 v) (omega arith)) ∙ le_nat-le_bytes 2 v b in
    let o : drop 2 (put 0 (le_bytes 2 v) row) ≡ drop 2 row = drop-put 2 0 (le_bytes 2 v) row (omega (arith, length-le_bytes 2 v)) (omega arith) in
    ap (λ (a : ℕ). map ref_of (rows s n (put a (le_bytes 2 v) e))) (sym (add-zero (i * s)))
    ∙ ap (map ref_of) (rows-field s i n 0 (le_bytes 2 v) e (omega (arith, length-le_bytes 2 v)) l h)
    ∙ map-put ref_of i (put 0 (le_bytes 2 v) row ∷ []) (rows s n e)
    ∙ (λ k. put i (ref (p k) (o k) ∷ []) (map ref_of (rows s n e)))
    ∙ ap (λ (r : Ref). put i (ref v r.own ∷ []) (map ref_of (rows s n e))) (sym (ref-at s n i d e l))

-- the first i places are below m
pub record BelowTo (m : ℕ) (ps : List ℕ) (i : ℕ) : Type 0 where
  pub to : (j : ℕ) → j < i → get_or ps j 0 < m

pub below_more : (m : ℕ) (ps : List ℕ) (i : ℕ) → BelowTo m ps i → get_or ps i 0 < m → BelowTo m ps (i + 1)
below_more m ps i b h = record { to = λ j l. by-j j (eq-or-lt_of_le (omega arith)) }
  where
    by-j : (j : ℕ) → (j ≡ i) ⊎ (j < i) → get_or ps j 0 < m
    by-j j (inl e) = subst (λ (t : ℕ). get_or ps t 0 < m) (sym e) h
    by-j j (inr l) = b.to j l

-- the rows with a gap at j, which holds what stood there
pub refs-opened : (s n j : ℕ) (e : List ℕ) → j ≤ n → (n + 1) * s ≤ length e
    → refs s (n + 1) (opened s n j e) ≡ take j (refs s n e) ++ (ref_of (part (j * s) s e) ∷ drop j (refs s n e))
unfolding refs
refs-opened s n j e h l = ap (map ref_of) (rows-opened s n j e h l) ∙ map-gap ref_of j (part (j * s) s e) (rows s n e)
