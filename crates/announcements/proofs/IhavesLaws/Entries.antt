-- The entries that count: those whose identifier is not known, each at its first place in the message.
-- Assumes nothing.
use Rattle.announcements.proofs.Words.{◌≡◌, refl, sym, ap, ◌∙◌, Bool, true, false, not, ◌||◌, List, [], ◌∷◌, ◌++◌, map, ℕ, ◌≤◌, zero-le, suc-le-suc, arith, length, eqb, eqb-true, if◌then◌else◌, Option, Some, None, is_some, cases, Ihave}
use Rattle.storage.specs.Lists.Base.{member, filter}
use Rattle.decide.specs.NewIds.{new_ids}
use Rattle.announcements.specs.Ihaves.Entries.{new_entries, round_of}

-- the identifiers of these entries, the last first, before those seen
unfoldable back : List Ihave → List ℕ → List ℕ
back [] seen = seen
back (x ∷ xs) seen = back xs (x.id ∷ seen)

either : (a b : Bool) (o : Option ℕ) (r : ℕ) → (is_some o || (if a then true else b)) ≡ (is_some (if a then Some r else o) || b)
either true b None r = refl
either true b (Some q) r = refl
either false b o r = refl

back-member : (i : ℕ) (xs : List Ihave) (seen : List ℕ) → member i (back xs seen) ≡ (is_some (round_of i xs) || member i seen)
unfolding back member round_of
back-member i [] seen = refl
back-member i (x ∷ xs) seen = back-member i xs (x.id ∷ seen) ∙ either (eqb i x.id) (member i seen) (round_of i xs) x.round

no-more : (b : Bool) → (b || false) ≡ b
no-more true = refl
no-more false = refl

or-cases-same : (a b c : Bool) → (a || (if b then true else c)) ≡ (b || (a || c))
or-cases-same true true c = refl
or-cases-same true false c = refl
or-cases-same false true c = refl
or-cases-same false false c = refl

module _ (known : ℕ → Bool) where
  append : (seen : List ℕ) (xs ys : List Ihave) → new_entries known seen (xs ++ ys) ≡ new_entries known seen xs ++ new_entries known (back xs seen) ys
  unfolding new_entries back
  append seen [] ys = refl
  append seen (x ∷ xs) ys =
      cases (known x.id || member x.id seen)
      (λ e. rw e (append (x.id ∷ seen) xs ys))
      (λ e. rw e (ap (λ (l : List Ihave). x ∷ l) (append (x.id ∷ seen) xs ys)))

  -- what one entry more adds
  pub entries-more : (x : Ihave) (xs : List Ihave) → new_entries known [] (xs ++ (x ∷ [])) ≡ new_entries known [] xs ++ (if known x.id || is_some (round_of x.id xs) then [] else x ∷ [])
  unfolding new_entries member
  entries-more x xs =
      append [] xs (x ∷ [])
      ∙ ap (λ (b : Bool). new_entries known [] xs ++ (if known x.id || b then [] else x ∷ [])) (back-member x.id xs [] ∙ no-more (is_some (round_of x.id xs)))

  -- only known-or-seen counts
  entries-same : (s t : List ℕ) → ((i : ℕ) → (known i || member i s) ≡ (known i || member i t)) → (hs : List Ihave) → new_entries known s hs ≡ new_entries known t hs
  unfolding new_entries
  entries-same s t w [] = refl
  entries-same s t w (h ∷ hs) = rw (w h.id, entries-same (h.id ∷ s) (h.id ∷ t) (more h) hs) refl
    where
      more : (h : Ihave) (i : ℕ) → (known i || member i (h.id ∷ s)) ≡ (known i || member i (h.id ∷ t))
      more h i = unfold member in (or-cases-same (known i) (eqb i h.id) (member i s) ∙ ap (λ (b : Bool). eqb i h.id || b) (w i) ∙ sym (or-cases-same (known i) (eqb i h.id) (member i t)))

  -- one that is known or seen may be seen again
  seen-again : (i : ℕ) (seen : List ℕ) → (known i || member i seen) ≡ true → (j : ℕ) → (known j || member j seen) ≡ (known j || member j (i ∷ seen))
  unfolding member
  seen-again i seen e j =
      cases (eqb j i)
      (λ q. ap (λ (k : ℕ). known k || member k seen) (eqb-true j i q) ∙ e ∙ sym (rw q (or-true (known j))))
      (λ q. rw q refl)
    where
      or-true : (b : Bool) → (b || true) ≡ true
      or-true true = refl
      or-true false = refl

  -- of the entries that count each counts
  pub entries-again : (seen : List ℕ) (hs : List Ihave) → new_entries known seen (new_entries known seen hs) ≡ new_entries known seen hs
  unfolding new_entries
  entries-again seen [] = refl
  entries-again seen (h ∷ hs) =
      cases (known h.id || member h.id seen)
      (λ e. rw e (entries-same seen (h.id ∷ seen) (seen-again h.id seen e) (new_entries known (h.id ∷ seen) hs) ∙ entries-again (h.id ∷ seen) hs))
      (λ e. rw e (rw e (ap (λ (l : List Ihave). h ∷ l) (entries-again (h.id ∷ seen) hs))))

  -- their rounds are those of the message
  rounds-seen : (j : ℕ) (seen : List ℕ) (hs : List Ihave) → round_of j (new_entries known seen hs) ≡ (if known j || member j seen then None else round_of j hs)
  unfolding new_entries round_of
  rounds-seen j seen [] = cases (known j || member j seen) (λ e. rw e refl) (λ e. rw e refl)
  rounds-seen j seen (h ∷ hs) =
      cases (known h.id || member h.id seen)
      (λ e. rw e (rounds-seen j (h.id ∷ seen) hs ∙ skipped e))
      (λ e. rw e (ap (λ (o : Option ℕ). if eqb j h.id then Some h.round else o) (rounds-seen j (h.id ∷ seen) hs) ∙ kept e))
    where
      skipped : (known h.id || member h.id seen) ≡ true → (if known j || member j (h.id ∷ seen) then None else round_of j hs) ≡ (if known j || member j seen then None else (if eqb j h.id then Some h.round else round_of j hs))
      skipped e =
          cases (eqb j h.id)
          (λ q. ap (λ (b : Bool). if b then None else round_of j hs) (sym (seen-again h.id seen e j))
          ∙ ap (λ (b : Bool). if b then None else round_of j hs) (ap (λ (k : ℕ). known k || member k seen) (eqb-true j h.id q) ∙ e)
          ∙ sym (ap (λ (b : Bool). if b then None else (if eqb j h.id then Some h.round else round_of j hs)) (ap (λ (k : ℕ). known k || member k seen) (eqb-true j h.id q) ∙ e)))
          (λ q. ap (λ (b : Bool). if b then None else round_of j hs) (sym (seen-again h.id seen e j)) ∙ rw q refl)

      kept : (known h.id || member h.id seen) ≡ false → (if eqb j h.id then Some h.round else (if known j || member j (h.id ∷ seen) then None else round_of j hs)) ≡ (if known j || member j seen then None else (if eqb j h.id then Some h.round else round_of j hs))
      kept e =
          cases (eqb j h.id)
          (λ q. rw q (sym (ap (λ (b : Bool). if b then None else Some h.round) (ap (λ (k : ℕ). known k || member k seen) (eqb-true j h.id q) ∙ e))))
          (λ q. rw q (unfold member in (rw q refl)))

  pub entries-rounds : (j : ℕ) (hs : List Ihave) → round_of j (new_entries known [] hs) ≡ (if known j then None else round_of j hs)
  unfolding member
  entries-rounds j hs = rounds-seen j [] hs ∙ ap (λ (b : Bool). if b then None else round_of j hs) (no-more (known j))

  -- no more than there are entries
  few-seen : (seen : List ℕ) (hs : List Ihave) → length (new_entries known seen hs) ≤ length hs
  unfolding new_entries
  few-seen seen [] = zero-le
  few-seen seen (h ∷ hs) =
      cases (known h.id || member h.id seen)
      (λ e. rw e (omega (arith, few-seen (h.id ∷ seen) hs)))
      (λ e. rw e (suc-le-suc (few-seen (h.id ∷ seen) hs)))

  pub entries-few : (hs : List Ihave) → length (new_entries known [] hs) ≤ length hs
  entries-few hs = few-seen [] hs

-- the identifiers that are new by a further test
module _ (known further : ℕ → Bool) where
  either-known : (a b c d : Bool) → (a || c) ≡ true → ((a || b) || c) ≡ true
  either-known true b c d e = refl
  either-known false true c d e = refl
  either-known false false c d e = e

  first : (a b : Bool) → (a || b) ≡ false → a ≡ false
  first false b e = refl
  first true b e = e

  second : (a b : Bool) → (a || b) ≡ false → b ≡ false
  second false b e = e
  second true true e = e
  second true false e = refl

  ids-seen : (seen : List ℕ) (hs : List Ihave) → new_ids (λ i. known i || further i) seen hs ≡ map (λ h. h.id) (filter (λ h. not (further h.id)) (new_entries known seen hs))
  unfolding new_ids new_entries filter
  ids-seen seen [] = refl
  ids-seen seen (h ∷ hs) =
      cases (known h.id || member h.id seen)
      (λ e. rw (e, either-known (known h.id) (further h.id) (member h.id seen) true e) (ids-seen (h.id ∷ seen) hs))
      (λ e. rw e (rw (first (known h.id) (member h.id seen) e, second (known h.id) (member h.id seen) e)
      (cases (further h.id)
      (λ f. rw f (ids-seen (h.id ∷ seen) hs))
      (λ f. rw f (ap (λ (l : List ℕ). h.id ∷ l) (ids-seen (h.id ∷ seen) hs))))))

  pub ids-new : (hs : List Ihave) → new_ids (λ i. known i || further i) [] hs ≡ map (λ h. h.id) (filter (λ h. not (further h.id)) (new_entries known [] hs))
  ids-new hs = ids-seen [] hs

-- entries of identifiers that pass a test
module _ (f : ℕ → Bool) where
  pub rounds-filter : (j : ℕ) (hs : List Ihave) → round_of j (filter (λ h. f h.id) hs) ≡ (if f j then round_of j hs else None)
  unfolding filter round_of
  rounds-filter j [] = cases (f j) (λ e. rw e refl) (λ e. rw e refl)
  rounds-filter j (h ∷ hs) =
      cases (eqb j h.id)
      (λ q. cases (f h.id)
      (λ e. rw e (rw q (sym (rw (ap f (eqb-true j h.id q) ∙ e) refl))))
      (λ e. rw e (rounds-filter j hs ∙ rw (ap f (eqb-true j h.id q) ∙ e) refl)))
      (λ q. cases (f h.id)
      (λ e. rw e (rw q (rounds-filter j hs)))
      (λ e. rw e (rw q (rounds-filter j hs))))
