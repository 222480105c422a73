-- A key below all keys of a map is not in it; what a filtered map has at a key; the test of two keys in either order.
use Rattle.std.proofs.Common.{ℕ, ◌≡◌, refl, sym, ap, ◌∙◌, Bool, true, [], ◌∷◌, arith, ltb, eqb, ltb-true, lt-ltb, eqb-true, eq-eqb, ne_eqb, if◌then◌else◌, Option, Some, None}
use borrow.Author.Tests.{eqb-false}
use Rattle.storage.specs.Lists.Base.{all, filter, ascending}
use Rattle.storage.specs.Lists.Map.{Map, Entry, entry, keys, lookup, remove}
use Rattle.storage.proofs.ListsLaws.MapLaws.{cases, and_left, and_right, all_head, all_tail}
use Rattle.storage.proofs.ListsLaws.ListLaws.{keys-filter-all}

pub eqb-sym : (a b : ℕ) → eqb a b ≡ eqb b a
eqb-sym a b =
    cases (eqb a b) (λ p. p ∙ sym (eq-eqb b a (sym (eqb-true a b p))))
    (λ p. p ∙ sym (ne_eqb b a (λ q. eqb-false a b p (sym q))))

module _ {A : Type 0} where
  -- a key below all keys
  pub lookup_absent : (k : ℕ) (m : Map A) → all (ltb k) (keys m) ≡ true → lookup k m ≡ None
  unfolding lookup all
  lookup_absent k [] a = refl
  lookup_absent k (e ∷ m) a =
      rw (ne_eqb k e.key (λ q. omega (arith, ltb-true k e.key (all_head (ltb k) e.key (keys m) a)))) (lookup_absent k m (all_tail (ltb k) e.key (keys m) a))

  pub above-all : (k j : ℕ) (m : Map A) → ltb k j ≡ true → all (ltb j) (keys m) ≡ true → all (ltb k) (keys m) ≡ true
  unfolding all
  above-all k j [] h a = refl
  above-all k j (e ∷ m) h a =
      rw (lt-ltb k e.key (omega (arith, ltb-true k j h, ltb-true j e.key (all_head (ltb j) e.key (keys m) a)))) (above-all k j m h (all_tail (ltb j) e.key (keys m) a))

  pub remove_absent : (k : ℕ) (m : Map A) → all (ltb k) (keys m) ≡ true → remove k m ≡ m
  unfolding remove all
  remove_absent k [] a = refl
  remove_absent k (e ∷ m) a =
      rw (ne_eqb k e.key (λ q. omega (arith, ltb-true k e.key (all_head (ltb k) e.key (keys m) a))))
      (ap (λ (l : Map A). e ∷ l) (remove_absent k m (all_tail (ltb k) e.key (keys m) a)))

  filter-absent : (f : Entry A → Bool) (k : ℕ) (m : Map A) → all (ltb k) (keys m) ≡ true → lookup k (filter f m) ≡ None
  filter-absent f k m a = lookup_absent k (filter f m) (keys-filter-all (ltb k) f m a)

  -- of the entry at the key
  unfoldable pub passes : (Entry A → Bool) → ℕ → Option A → Option A
  passes f k None = None
  passes f k (Some v) = if f (entry k v) then Some v else None

  pub lookup-filter : (f : Entry A → Bool) (k : ℕ) (m : Map A) → ascending (keys m) ≡ true → lookup k (filter f m) ≡ passes f k (lookup k m)
  unfolding lookup filter ascending passes
  lookup-filter f k [] h = refl
  lookup-filter f k (e ∷ m) h =
      cases (eqb k e.key)
      (λ q. rw q (rw (eqb-true k e.key q) (cases (f e) (λ t. rw t (rw (eq-eqb e.key e.key refl) refl)) (λ t. rw t (filter-absent f e.key m above)))))
      (λ q. rw q (cases (f e) (λ t. rw t (rw q (lookup-filter f k m rest))) (λ t. rw t (lookup-filter f k m rest))))
    where
      above : all (ltb e.key) (keys m) ≡ true
      above = and_left (all (ltb e.key) (keys m)) (ascending (keys m)) h

      rest : ascending (keys m) ≡ true
      rest = and_right (all (ltb e.key) (keys m)) (ascending (keys m)) h
