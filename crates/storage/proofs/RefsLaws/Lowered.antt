-- Link numbers after a link went: one that is left names the same row; and an entry anew among numbers with rows beside them.
-- Assumes nothing.
use Rattle.std.proofs.Common.{◌≡◌, refl, ap, ◌∙◌, ◌⊎◌, inl, inr, List, [], ◌∷◌, ◌++◌, ℕ, zero, suc, ◌+◌, ◌-◌, ◌≤◌, ◌<◌, le_of_suc-le-suc, not-suc-le-zero, arith, lt-ltb, le-ltb, length, take, drop, get_or, get_or-take, get_or-drop, get_or-append-add, length-take-le}
use lib.ListN.{get_or-append}
use Rattle.storage.specs.Rows.Part.{put}
use Rattle.storage.specs.Refs.Refs.{Ref, ref}
use Rattle.storage.specs.Refs.Numbers.{pairs, lowered}
use Rattle.storage.proofs.RefsLaws.Shifts.{low_or_high}

pub lowered-low : (i l : ℕ) → l < i → lowered i l ≡ l
unfolding lowered
lowered-low i l h = simp (lt-ltb l i h)

pub lowered-high : (i l : ℕ) → i ≤ l → lowered i l ≡ l - 1
unfolding lowered
lowered-high i l h = simp (le-ltb l i h)

-- the row that a number other than i names is the same one after row i went
pub named-lowered : {A : Type 0} (d : A) (i l : ℕ) (xs : List A) → i < length xs → (l ≡ i → ⊥) → get_or (take i xs ++ drop (suc i) xs) (lowered i l) d ≡ get_or xs l d
named-lowered {A} d i l xs h n = go (low_or_high i l)
  where
    go : (l < i) ⊎ (i ≤ l) → get_or (take i xs ++ drop (suc i) xs) (lowered i l) d ≡ get_or xs l d
    go (inl b) =
        ap (λ (k : ℕ). get_or (take i xs ++ drop (suc i) xs) k d) (lowered-low i l b)
        ∙ get_or-append (take i xs) (drop (suc i) xs) d l (omega (arith, length-take-le i xs (omega arith)))
        ∙ get_or-take i xs l d b
    go (inr b) =
        let above : i < l = by_cases in
        let e : l - 1 ≡ length (take i xs) + (l - suc i) = omega (arith, length-take-le i xs (omega arith)) in
        let g : suc i + (l - suc i) ≡ l = omega arith in
        ap (λ (k : ℕ). get_or (take i xs ++ drop (suc i) xs) k d) (lowered-high i l b ∙ e)
        ∙ get_or-append-add (take i xs) (drop (suc i) xs) (l - suc i) d
        ∙ get_or-drop (suc i) xs (l - suc i) d
        ∙ ap (λ (k : ℕ). get_or xs k d) g
      where
        by_cases : i < l
        by_cases = go2 (low_or_high (suc i) l)
          where
            go2 : (l < suc i) ⊎ (suc i ≤ l) → i < l
            go2 (inl q) = absurd (n (let e : l ≡ i = omega arith in e))
            go2 (inr q) = omega arith

-- an entry anew
pub pairs-put : (x : ℕ) (row : List ℕ) (j : ℕ) (ls : List ℕ) (rs : List (List ℕ)) → j < length ls → j < length rs
    → pairs ref (put j (x ∷ []) ls) (put j (row ∷ []) rs) ≡ put j (ref x row ∷ []) (pairs ref ls rs)
unfolding pairs put
pairs-put x row j [] rs h g = absurd (not-suc-le-zero h)
pairs-put x row j (l ∷ ls) [] h g = absurd (not-suc-le-zero g)
pairs-put x row zero (l ∷ ls) (r ∷ rs) h g = refl
pairs-put x row (suc j) (l ∷ ls) (r ∷ rs) h g = ap (λ (t : List Ref). ref l r ∷ t) (pairs-put x row j ls rs (le_of_suc-le-suc h) (le_of_suc-le-suc g))
