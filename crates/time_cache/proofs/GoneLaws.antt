-- The keys that `expire_until` removes (`popped`): just those that were there and are no more, each once; at the same instant none is removed twice.
-- Assumes nothing.
use Rattle.std.proofs.Common.{Option, Some, None, is_some, if◌then◌else◌, ℕ, ◌≤◌, arith, ◌≡◌, refl, ap, ◌∙◌, Bool, true, false, not, ◌&&◌, ◌⊎◌, inl, inr, List, [], ◌∷◌, ◌++◌, eqb-true, eqb, leb, length}
use Rattle.storage.specs.Lists.Base.{member, once}
use Rattle.storage.specs.Lists.Map.{Map, lookup, has, remove}
use Rattle.storage.proofs.ListsLaws.MapLaws.{cases, lookup-remove-same, lookup-remove-other}
use Rattle.time_cache.specs.TimeCache.{Timed, Expiry, Cache, holds, expires_at, pop, due, later, pop_all, popped, expire_until, expired_keys}

-- what is left is not due
due-later : (now : ℕ) (xs : List Expiry) → due now (later now xs) ≡ []
unfolding due later
due-later now [] = refl
due-later now (x ∷ xs) = cases (leb x.time now) (λ p. rw p (due-later now xs)) (λ p. rw (p, p) refl)

-- no more are due than there are
due-few : (now : ℕ) (xs : List Expiry) → length (due now xs) ≤ length xs
unfolding due
due-few now [] = omega arith
due-few now (x ∷ xs) = cases (leb x.time now) (λ p. rw p (omega (arith, due-few now xs))) (λ p. rw p (omega arith))

module _ {A : Type 0} where
  -- nor do more keys go than entries pop
  popped-few : (xs : List Expiry) (m : Map (Timed A)) → length (popped xs m) ≤ length xs
  unfolding popped
  popped-few [] m = omega arith
  popped-few (x ∷ xs) m = cases (expires_at x.time (lookup x.key m)) (λ p. rw p (omega (arith, popped-few xs (pop x m)))) (λ p. rw p (omega (arith, popped-few xs (pop x m))))

  pub expired-few : (now : ℕ) (c : Cache A) → length (expired_keys now c) ≤ length c.expiry
  unfolding expired_keys
  expired-few now c = omega (arith, popped-few (due now c.expiry) c.entries, due-few now c.expiry)

  pub pop_all-snoc : (xs : List Expiry) (x : Expiry) (m : Map (Timed A)) → pop_all (xs ++ (x ∷ [])) m ≡ pop x (pop_all xs m)
  unfolding pop_all
  pop_all-snoc [] x m = refl
  pop_all-snoc (y ∷ xs) x m = pop_all-snoc xs x (pop y m)

  pub popped-snoc : (xs : List Expiry) (x : Expiry) (m : Map (Timed A))
      → popped (xs ++ (x ∷ [])) m ≡ popped xs m ++ (if expires_at x.time (lookup x.key (pop_all xs m)) then x.key ∷ [] else [])
  unfolding popped pop_all
  popped-snoc [] x m = refl
  popped-snoc (y ∷ xs) x m =
      cases (expires_at y.time (lookup y.key m))
      (λ p. rw p (ap (λ (l : List ℕ). y.key ∷ l) (popped-snoc xs x (pop y m))))
      (λ p. rw p (popped-snoc xs x (pop y m)))

  -- a row that takes nothing out, and one that does
  pub pop-not : (x : Expiry) (m : Map (Timed A)) → expires_at x.time (lookup x.key m) ≡ false → pop x m ≡ m
  unfolding pop
  pop-not x m h = rw h

  pub pop-yes : (x : Expiry) (m : Map (Timed A)) → expires_at x.time (lookup x.key m) ≡ true → pop x m ≡ remove x.key m
  unfolding pop
  pop-yes x m h = rw h

  -- a key is gone, or is as it was
  pop-lookup : (k : ℕ) (x : Expiry) (m : Map (Timed A)) → (lookup k (pop x m) ≡ None) ⊎ (lookup k (pop x m) ≡ lookup k m)
  pop-lookup k x m =
      cases (expires_at x.time (lookup x.key m))
      (λ p. cases (eqb k x.key)
      (λ q. inl (ap (lookup k) (pop-yes x m p) ∙ ap (λ (j : ℕ). lookup j (remove x.key m)) (eqb-true k x.key q) ∙ lookup-remove-same x.key m))
      (λ q. inr (ap (lookup k) (pop-yes x m p) ∙ lookup-remove-other k x.key m q)))
      (λ p. inr (ap (lookup k) (pop-not x m p)))

  then-lookup : (k : ℕ) (a b c : Map (Timed A)) → (lookup k c ≡ None) ⊎ (lookup k c ≡ lookup k b) → (lookup k b ≡ None) ⊎ (lookup k b ≡ lookup k a)
      → (lookup k c ≡ None) ⊎ (lookup k c ≡ lookup k a)
  then-lookup k a b c (inl p) q = inl p
  then-lookup k a b c (inr p) (inl q) = inl (p ∙ q)
  then-lookup k a b c (inr p) (inr q) = inr (p ∙ q)

  pub gone-or-kept : (k : ℕ) (xs : List Expiry) (m : Map (Timed A)) → (lookup k (pop_all xs m) ≡ None) ⊎ (lookup k (pop_all xs m) ≡ lookup k m)
  unfolding pop_all
  gone-or-kept k [] m = inr refl
  gone-or-kept k (x ∷ xs) m = then-lookup k m (pop x m) (pop_all xs (pop x m)) (gone-or-kept k xs (pop x m)) (pop-lookup k x m)

  -- what did not expire at a time does not once Some are gone
  pub still-not : (t k : ℕ) (l m : Map (Timed A)) → (lookup k l ≡ None) ⊎ (lookup k l ≡ lookup k m) → expires_at t (lookup k m) ≡ false → expires_at t (lookup k l) ≡ false
  unfolding expires_at
  still-not t k l m (inl p) h = ap (expires_at t) p
  still-not t k l m (inr p) h = ap (expires_at t) p ∙ h

  -- what is gone stays gone
  stays-gone : (k : ℕ) (l m : Map (Timed A)) → (lookup k l ≡ None) ⊎ (lookup k l ≡ lookup k m) → lookup k m ≡ None → has k l ≡ false
  stays-gone k l m (inl p) h = ap is_some p
  stays-gone k l m (inr p) h = ap is_some (p ∙ h)

  there : (t : ℕ) (o : Option (Timed A)) → expires_at t o ≡ true → is_some o ≡ true
  unfolding expires_at
  there t None h = h
  there t (Some v) h = refl

  -- the keys told are those that were there and are no more
  pub popped-member : (k : ℕ) (xs : List Expiry) (m : Map (Timed A)) → member k (popped xs m) ≡ (has k m && not (has k (pop_all xs m)))
  unfolding popped pop_all member
  popped-member k [] m = None-gone (has k m)
    where
      None-gone : (b : Bool) → false ≡ (b && not b)
      None-gone true = refl
      None-gone false = refl
  popped-member k (x ∷ xs) m =
      cases (expires_at x.time (lookup x.key m))
      (λ p. rw p (cases (eqb k x.key)
      (λ q. let e : k ≡ x.key = eqb-true k x.key q in
      let h : has k m ≡ true = ap (λ (j : ℕ). has j m) e ∙ there x.time (lookup x.key m) p in
      let g : has k (pop_all xs (pop x m)) ≡ false = stays-gone k (pop_all xs (pop x m)) (pop x m) (gone-or-kept k xs (pop x m))
      (ap (lookup k) (pop-yes x m p) ∙ ap (λ (j : ℕ). lookup j (remove x.key m)) e ∙ lookup-remove-same x.key m) in
      rw (q, h, g) refl)
      (λ q. rw q (popped-member k xs (pop x m) ∙ ap (λ (o : Option (Timed A)). is_some o && not (has k (pop_all xs (pop x m)))) (ap (lookup k) (pop-yes x m p) ∙ lookup-remove-other k x.key m q)))))
      (λ p. rw p (popped-member k xs (pop x m) ∙ ap (λ (o : Option (Timed A)). is_some o && not (has k (pop_all xs (pop x m)))) (ap (lookup k) (pop-not x m p))))

  -- each once
  pub popped-once : (xs : List Expiry) (m : Map (Timed A)) → once (popped xs m) ≡ true
  unfolding popped once
  popped-once [] m = refl
  popped-once (x ∷ xs) m =
      cases (expires_at x.time (lookup x.key m))
      (λ p. let g : has x.key (pop x m) ≡ false = ap is_some (ap (lookup x.key) (pop-yes x m p) ∙ lookup-remove-same x.key m) in
      rw p (rw (popped-member x.key xs (pop x m)) (rw g (popped-once xs (pop x m)))))
      (λ p. rw p (popped-once xs (pop x m)))

  -- the same, of `expire_until`
  pub expired-member : (now k : ℕ) (c : Cache A) → member k (expired_keys now c) ≡ (holds k c && not (holds k (expire_until now c)))
  unfolding expired_keys expire_until
  expired-member now k c = popped-member k (due now c.expiry) c.entries

  pub expired-once : (now : ℕ) (c : Cache A) → once (expired_keys now c) ≡ true
  unfolding expired_keys
  expired-once now c = popped-once (due now c.expiry) c.entries

  -- at the same instant there is nothing more to tell
  pub expired-twice : (now : ℕ) (c : Cache A) → expired_keys now (expire_until now c) ≡ []
  unfolding expired_keys expire_until popped
  expired-twice now c = ap (λ (l : List Expiry). popped l (pop_all (due now c.expiry) c.entries)) (due-later now c.expiry)
