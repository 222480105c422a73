-- Tests of a list told by its places: each element passes, each number stands once.
use Rattle.std.proofs.Common.{ℕ, zero, suc, ◌<◌, zero-le, suc-le-suc, ◌≡◌, refl, sym, ap, Bool, true, false, not, List, [], ◌∷◌, le_of_suc-le-suc, not-suc-le-zero, eq-eqb, ne_eqb, eqb, length, get_or}
use borrow.Author.Tests.{not-true}
use Rattle.storage.specs.Lists.Base.{all, member, once}
use Rattle.storage.proofs.ListsLaws.MapLaws.{cases, true≢, and_left, and_right, and_intro, all_head, all_tail, all_cons}

-- a test that holds of every element, by the elements
pub all-at : {A : Type 0} (f : A → Bool) (d : A) (xs : List A) → all f xs ≡ true → (i : ℕ) → i < length xs → f (get_or xs i d) ≡ true
all-at f d [] h i l = absurd (not-suc-le-zero l)
all-at f d (x ∷ xs) h zero l = all_head f x xs h
all-at f d (x ∷ xs) h (suc i) l = all-at f d xs (all_tail f x xs h) i (le_of_suc-le-suc l)

pub at_all : {A : Type 0} (f : A → Bool) (d : A) (xs : List A) → ((i : ℕ) → i < length xs → f (get_or xs i d) ≡ true) → all f xs ≡ true
unfolding all
at_all f d [] h = refl
at_all f d (x ∷ xs) h = all_cons f x xs (h 0 (suc-le-suc zero-le)) (at_all f d xs (λ i l. h (suc i) (suc-le-suc l)))

-- a number that stands at no place
pub member-not : (n : ℕ) (xs : List ℕ) → ((i : ℕ) → i < length xs → n ≡ get_or xs i 0 → ⊥) → member n xs ≡ false
unfolding member
member-not n [] h = refl
member-not n (x ∷ xs) h = rw (ne_eqb n x (h 0 (suc-le-suc zero-le))) (member-not n xs (λ i l. h (suc i) (suc-le-suc l)))

pub not-member : (n : ℕ) (xs : List ℕ) → member n xs ≡ false → (i : ℕ) → i < length xs → n ≡ get_or xs i 0 → ⊥
unfolding member
not-member n [] h i l e = not-suc-le-zero l
not-member n (x ∷ xs) h zero l e = true≢ (sym (rw (eq-eqb n x e) at h))
not-member n (x ∷ xs) h (suc i) l e =
    cases (eqb n x) (λ p. true≢ (sym (rw p at h))) (λ p. not-member n xs (rw p at h) i (le_of_suc-le-suc l) e)

-- each number stands at one place
pub once-of : (xs : List ℕ) → ((p q : ℕ) → p < q → q < length xs → get_or xs p 0 ≡ get_or xs q 0 → ⊥) → once xs ≡ true
unfolding once
once-of [] h = refl
once-of (x ∷ xs) h =
    and_intro (ap not (member-not x xs (λ i l e. h 0 (suc i) (suc-le-suc zero-le) (suc-le-suc l) e)))
    (once-of xs (λ p q l g e. h (suc p) (suc q) (suc-le-suc l) (suc-le-suc g) e))

pub of-once : (xs : List ℕ) → once xs ≡ true → (p q : ℕ) → p < q → q < length xs → get_or xs p 0 ≡ get_or xs q 0 → ⊥
unfolding once
of-once [] h p q l g e = not-suc-le-zero g
of-once (x ∷ xs) h p zero l g e = not-suc-le-zero l
of-once (x ∷ xs) h zero (suc q) l g e = not-member x xs (not-true (member x xs) (and_left (not (member x xs)) (once xs) h)) q (le_of_suc-le-suc g) e
of-once (x ∷ xs) h (suc p) (suc q) l g e = of-once xs (and_right (not (member x xs)) (once xs) h) p q (le_of_suc-le-suc l) (le_of_suc-le-suc g) e
