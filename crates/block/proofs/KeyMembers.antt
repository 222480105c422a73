-- What the place of a key says of the set, or of the map: whether it is there.
-- Assumes nothing.
use Rattle.block.proofs.Words.{◌≡◌, refl, sym, ap, true, false, Result, Ok, Err, List, [], ◌∷◌, ℕ, zero, suc, ◌<◌, zero-le, suc-le-suc, not-suc-le-zero, arith, eq-eqb, ne_eqb, ltb-true, ltb-false, ltb, eqb, length, get_or, ascending, Map, entry, keys, has, cases, Here, Between, FoundIs, up_of, lookup-here, lookup-between}
use Rattle.std.proofs.Common.{is_some}
use Rattle.std.specs.Result.{is_ok}
use Rattle.storage.specs.Lists.Base.{member}

at-member : (k i : ℕ) (ks : List ℕ) → i < length ks → get_or ks i 0 ≡ k → member k ks ≡ true
unfolding member
at-member k i [] w e = absurd (not-suc-le-zero w)
at-member k zero (x ∷ ks) w e = rw (eq-eqb k x (sym e)) refl
at-member k (suc i) (x ∷ ks) w e =
    cases (eqb k x) (λ t. rw t refl) (λ t. rw t (at-member k i ks (omega arith) e))

no_member : (k : ℕ) (ks : List ℕ) → ((j : ℕ) → j < length ks → get_or ks j 0 ≡ k → ⊥) → member k ks ≡ false
unfolding member
no_member k [] h = refl
no_member k (x ∷ ks) h =
    rw (ne_eqb k x (λ e. h 0 (suc-le-suc zero-le) (sym e))) (no_member k ks (λ j w e. h (suc j) (suc-le-suc w) e))

pub member-here : (k i : ℕ) (ks : List ℕ) → Here ks k i → member k ks ≡ true
member-here k i ks h = at-member k i ks h.within h.same

pub member-between : (k i : ℕ) (ks : List ℕ) → Between ks k i → member k ks ≡ false
member-between k i ks b =
    no_member k ks (λ j w e. cases (ltb j i)
    (λ t. omega (arith, b.below j (ltb-true j i t)))
    (λ t. omega (arith, b.above j (ltb-false j i t) w)))

-- what a search tells
pub found-member : (k : ℕ) (ks : List ℕ) (r : Result ℕ ℕ) → FoundIs ks k r → is_ok r ≡ member k ks
found-member k ks (Ok i) h = sym (member-here k i ks h)
found-member k ks (Err i) b = sym (member-between k i ks b)

pub found-has : {A : Type 0} (k : ℕ) (d : A) (m : Map A) (r : Result ℕ ℕ) → ascending (keys m) ≡ true → FoundIs (keys m) k r → is_ok r ≡ has k m
found-has k d m (Ok i) up h = sym (ap is_some (lookup-here k i (entry 0 d) m (up_of (keys m) up) h))
found-has k d m (Err i) up b = sym (ap is_some (lookup-between k i m b))
