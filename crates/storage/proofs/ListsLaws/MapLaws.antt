-- The laws of `specs/Map.antt`: what `insert` and `remove` do to `lookup`, and that the keys stay ascending.
use Rattle.std.proofs.Common.{ℕ, ◌<◌, ◌≡◌, refl, ap, subst, Bool, true, false, ◌&&◌, List, [], ◌∷◌, arith, ltb, eqb, ltb-true, ltb-false, eqb-true, eq-eqb, lt-ltb, if◌then◌else◌, Option, Some, None}
use borrow.Author.Tests.{eqb-false}
use Rattle.storage.specs.Lists.Base.{all, ascending}
use Rattle.storage.specs.Lists.Map.{Map, keys, lookup, insert, remove}

-- by the two values of a test
pub cases {ℓ} : {P : Type ℓ} (b : Bool) → (b ≡ true → P) → (b ≡ false → P) → P
cases true f g = f refl
cases false f g = g refl

-- a number other than k is other than what equals k
pub eqb-other : (j k n : ℕ) → eqb j k ≡ false → eqb k n ≡ true → eqb j n ≡ false
eqb-other j k n h q = rw (eqb-true k n q) at h

pub true≢ {ℓ} : {P : Type ℓ} → false ≡ true → P
true≢ e = absurd (subst code e tt)
  where
    code : Bool → Type 0
    code true = ⊥
    code false = Unit {0}

pub and_left : (a b : Bool) → (a && b) ≡ true → a ≡ true
and_left true b h = refl
and_left false b h = h

pub and_right : (a b : Bool) → (a && b) ≡ true → b ≡ true
and_right true b h = h
and_right false b h = true≢ h

pub and_intro : {a b : Bool} → a ≡ true → b ≡ true → (a && b) ≡ true
and_intro p q = rw (p, q)

-- all pass the test: the first, and the others
pub all_head : {B : Type 0} (f : B → Bool) (x : B) (xs : List B) → all f (x ∷ xs) ≡ true → f x ≡ true
unfolding all
all_head f x xs h = cases (f x) (λ p. p) (λ p. true≢ (rw p at h))

pub all_tail : {B : Type 0} (f : B → Bool) (x : B) (xs : List B) → all f (x ∷ xs) ≡ true → all f xs ≡ true
unfolding all
all_tail f x xs h = cases (f x) (λ p. rw p at h) (λ p. true≢ (rw p at h))

pub all_cons : {B : Type 0} (f : B → Bool) (x : B) (xs : List B) → f x ≡ true → all f xs ≡ true → all f (x ∷ xs) ≡ true
unfolding all
all_cons f x xs p q = rw p q

-- above a number: above a lower one
pub all_above : (x y : ℕ) (l : List ℕ) → x < y → all (ltb y) l ≡ true → all (ltb x) l ≡ true
unfolding all
all_above x y [] h a = refl
all_above x y (n ∷ l) h a =
    let p : ltb y n ≡ true = all_head (ltb y) n l a in
    all_cons (ltb x) n l (lt-ltb x n (omega (arith, ltb-true y n p))) (all_above x y l h (all_tail (ltb y) n l a))

module _ {A : Type 0} where
  pub lookup-insert-same : (k : ℕ) (v : A) (m : Map A) → lookup k (insert k v m) ≡ Some v
  unfolding lookup insert
  lookup-insert-same k v [] = rw (eq-eqb k k refl)
  lookup-insert-same k v (e ∷ m) =
      cases (ltb k e.key) (λ p. rw p (rw (eq-eqb k k refl)))
      (λ p. cases (eqb k e.key) (λ q. rw (p, q) (rw (eq-eqb k k refl)))
      (λ q. rw (p, q) (rw q (lookup-insert-same k v m))))

  pub lookup-insert-other : (j k : ℕ) (v : A) (m : Map A) → eqb j k ≡ false → lookup j (insert k v m) ≡ lookup j m
  unfolding lookup insert
  lookup-insert-other j k v [] h = rw h
  lookup-insert-other j k v (e ∷ m) h =
      cases (ltb k e.key) (λ p. rw p (rw h))
      (λ p. cases (eqb k e.key) (λ q. rw (p, q) (rw (h, eqb-other j k e.key h q)))
      (λ q. rw (p, q) (ap (λ (o : Option A). if eqb j e.key then Some e.value else o) (lookup-insert-other j k v m h))))

  pub lookup-remove-same : (k : ℕ) (m : Map A) → lookup k (remove k m) ≡ None
  unfolding lookup remove
  lookup-remove-same k [] = refl
  lookup-remove-same k (e ∷ m) =
      cases (eqb k e.key) (λ q. rw q (lookup-remove-same k m)) (λ q. rw q (rw q (lookup-remove-same k m)))

  pub lookup-remove-other : (j k : ℕ) (m : Map A) → eqb j k ≡ false → lookup j (remove k m) ≡ lookup j m
  unfolding lookup remove
  lookup-remove-other j k [] h = refl
  lookup-remove-other j k (e ∷ m) h =
      cases (eqb k e.key) (λ q. rw q (rw (eqb-other j k e.key h q) (lookup-remove-other j k m h)))
      (λ q. rw q (ap (λ (o : Option A). if eqb j e.key then Some e.value else o) (lookup-remove-other j k m h)))

  -- what is below the key put in and below all others is below all
  all_insert : (x k : ℕ) (v : A) (m : Map A) → ltb x k ≡ true → all (ltb x) (keys m) ≡ true → all (ltb x) (keys (insert k v m)) ≡ true
  unfolding all insert
  all_insert x k v [] h a = rw h
  all_insert x k v (e ∷ m) h a =
      cases (ltb k e.key) (λ p. rw p (all_cons (ltb x) k (e.key ∷ keys m) h a))
      (λ p. cases (eqb k e.key) (λ q. rw (p, q) (all_cons (ltb x) k (keys m) h (all_tail (ltb x) e.key (keys m) a)))
      (λ q. rw (p, q) (all_cons (ltb x) e.key (keys (insert k v m)) (all_head (ltb x) e.key (keys m) a)
      (all_insert x k v m h (all_tail (ltb x) e.key (keys m) a)))))

  -- `insert` keeps the keys ascending
  pub ascending-insert : (k : ℕ) (v : A) (m : Map A) → ascending (keys m) ≡ true → ascending (keys (insert k v m)) ≡ true
  unfolding ascending insert all
  ascending-insert k v [] h = refl
  ascending-insert k v (e ∷ m) h =
      cases (ltb k e.key)
      (λ p. rw p (and_intro (all_cons (ltb k) e.key (keys m) p (all_above k e.key (keys m) (ltb-true k e.key p) above)) h))
      (λ p. cases (eqb k e.key)
      (λ q. rw (p, q) (rw (eqb-true k e.key q) h))
      (λ q. rw (p, q) (and_intro (all_insert e.key k v m (lt-ltb e.key k (lower p q)) above) (ascending-insert k v m rest))))
    where
      above : all (ltb e.key) (keys m) ≡ true
      above = and_left (all (ltb e.key) (keys m)) (ascending (keys m)) h

      rest : ascending (keys m) ≡ true
      rest = and_right (all (ltb e.key) (keys m)) (ascending (keys m)) h

      lower : ltb k e.key ≡ false → eqb k e.key ≡ false → e.key < k
      lower p q = omega (arith, ltb-false k e.key p, eqb-false k e.key q)

  all_remove : (f : ℕ → Bool) (k : ℕ) (m : Map A) → all f (keys m) ≡ true → all f (keys (remove k m)) ≡ true
  unfolding all remove
  all_remove f k [] a = refl
  all_remove f k (e ∷ m) a =
      cases (eqb k e.key) (λ q. rw q (all_remove f k m (all_tail f e.key (keys m) a)))
      (λ q. rw q (all_cons f e.key (keys (remove k m)) (all_head f e.key (keys m) a) (all_remove f k m (all_tail f e.key (keys m) a))))

  -- `remove` keeps the keys ascending
  pub ascending-remove : (k : ℕ) (m : Map A) → ascending (keys m) ≡ true → ascending (keys (remove k m)) ≡ true
  unfolding ascending remove
  ascending-remove k [] h = refl
  ascending-remove k (e ∷ m) h =
      cases (eqb k e.key) (λ q. rw q (ascending-remove k m rest))
      (λ q. rw q (and_intro (all_remove (ltb e.key) k m above) (ascending-remove k m rest)))
    where
      above : all (ltb e.key) (keys m) ≡ true
      above = and_left (all (ltb e.key) (keys m)) (ascending (keys m)) h

      rest : ascending (keys m) ≡ true
      rest = and_right (all (ltb e.key) (keys m)) (ascending (keys m)) h
