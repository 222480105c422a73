-- Identifiers in order: where each differs from the next, no two are the same.
-- Assumes nothing.
use Rattle.std.proofs.Common.{◌≡◌, refl, sym, ap, ◌∙◌, ◌⊎◌, inl, inr, Bool, true, false, List, ℕ, ◌+◌, ◌-◌, ◌≤◌, ◌<◌, eq-or-lt_of_le, arith, eqb, length, get_or, eqb-true}
use borrow.Author.Tests.{eqb-false}
use Rattle.std.specs.List.Sorted.{IsPermutation, IsSortedByKey}
use Rattle.std.specs.List.{IsDistinct}
use Rattle.std.specs.Ordering.{nat_cmp}
use Rattle.std.proofs.lemmas.List.Sorted.{IsPermutation-sym, IsNonDecreasingBy-from_sort}
use Rattle.std.proofs.lemmas.Map.Keys.{IsDistinct-from_apart, apart_from_distinct, IsDistinct-IsPermutation}
use Rattle.storage.specs.Rows.Ident.{id_of}
use Rattle.storage.specs.declared.rows.id.Id.{Id}
use Rattle.storage.specs.Buckets.{Differ}

-- each of the first i differs from the next
pub record UpTo (ids : List Id) (i : ℕ) : Type 0 where
  pub next : (k : ℕ) (d : Id) → k + 1 < i → id_of (get_or ids k d) ≡ id_of (get_or ids (k + 1) d) → ⊥

same : Id → Id → Bool
same x y = eqb (id_of x) (id_of y)

flips : (m n : ℕ) → eqb m n ≡ eqb n m
flips m n = by (eqb m n) (eqb n m) refl refl
  where
    by : (r s : Bool) → eqb m n ≡ r → eqb n m ≡ s → r ≡ s
    by true true e f = refl
    by false false e f = refl
    by true false e f = absurd (eqb-false n m f (sym (eqb-true m n e)))
    by false true e f = absurd (eqb-false m n e (sym (eqb-true n m f)))

pub apart : (r : Bool) (m n : ℕ) → eqb m n ≡ r → (m ≡ n → ⊥) → eqb m n ≡ false
apart true m n e f = absurd (f (eqb-true m n e))
apart false m n e f = e

differ-distinct : (ids : List Id) → Differ ids → IsDistinct same ids
unfolding same
differ-distinct ids w = IsDistinct-from_apart same ids (λ i j d l m. apart (eqb (id_of (get_or ids i d)) (id_of (get_or ids j d))) (id_of (get_or ids i d)) (id_of (get_or ids j d)) refl (w.differ i j d l m))

distinct-differ : (ids : List Id) → IsDistinct same ids → Differ ids
unfolding same
distinct-differ ids w = record { differ = λ i j d l m e. eqb-false (id_of (get_or ids i d)) (id_of (get_or ids j d)) (apart_from_distinct same ids i j d w l m) e }

-- what differs does so in another order
pub differ-moved : (xs ys : List Id) → IsPermutation xs ys → Differ xs → Differ ys
unfolding same
differ-moved xs ys p w = distinct-differ ys (IsDistinct-IsPermutation same (λ x y. flips (id_of x) (id_of y)) xs ys p (differ-distinct xs w))

pub differ-back : (xs ys : List Id) → IsPermutation xs ys → Differ ys → Differ xs
differ-back xs ys p w = differ-moved ys xs (IsPermutation-sym xs ys p) w

-- in order, and each differs from the next: no two are the same
pub ordered-differ : (ys : List Id) → IsSortedByKey id_of nat_cmp ys → UpTo ys (length ys) → Differ ys
ordered-differ ys o u = record { differ = go }
  where
    up : (i j : ℕ) (d : Id) → i ≤ j → j < length ys → id_of (get_or ys i d) ≤ id_of (get_or ys j d)
    up = IsNonDecreasingBy-from_sort id_of ys o

    go : (i j : ℕ) (d : Id) → i < j → j < length ys → id_of (get_or ys i d) ≡ id_of (get_or ys j d) → ⊥
    go i j d l m e = u.next i d (omega arith) (omega (arith, up i (i + 1) d (omega arith) (omega arith), up (i + 1) j d (omega arith) m, e))

-- a neighbour that is the same: not all differ
pub same-not : (xs ys : List Id) (i : ℕ) (d : Id) → IsPermutation xs ys → 1 ≤ i → i < length ys → id_of (get_or ys (i - 1) d) ≡ id_of (get_or ys i d) → Differ xs → ⊥
same-not xs ys i d p h l e w = (differ-moved xs ys p w).differ (i - 1) i d (omega arith) l e

-- none is: all differ
pub none-same : (xs ys : List Id) (i : ℕ) → IsPermutation xs ys → IsSortedByKey id_of nat_cmp ys → UpTo ys i → length ys ≤ i → Differ xs
none-same xs ys i p o u l = differ-back xs ys p (ordered-differ ys o (record { next = λ k d h. u.next k d (omega arith) }))

pub upto-start : (ids : List Id) → UpTo ids 1
upto-start ids = record { next = λ k d l. absurd (omega arith) }

pub upto-more : (ids : List Id) (i : ℕ) → 1 ≤ i → UpTo ids i → ((d : Id) → id_of (get_or ids (i - 1) d) ≡ id_of (get_or ids i d) → ⊥) → UpTo ids (i + 1)
upto-more ids i h u n = record { next = λ k d l. by-k k d l (eq-or-lt_of_le (omega arith)) }
  where
    by-k : (k : ℕ) (d : Id) → k + 1 < i + 1 → (k + 1 ≡ i) ⊎ (k + 1 < i) → id_of (get_or ids k d) ≡ id_of (get_or ids (k + 1) d) → ⊥
    by-k k d l (inl t) e = let t2 : k ≡ i - 1 = omega arith in n d (ap (λ v. id_of (get_or ids v d)) (sym t2) ∙ e ∙ ap (λ v. id_of (get_or ids v d)) t)
    by-k k d l (inr t) e = u.next k d t e
