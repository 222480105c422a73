-- Marks, one identifier after the other.
-- Assumes nothing.
use Rattle.announcements.proofs.Words.{◌≡◌, refl, sym, ap, ◌∙◌, ◌⊎◌, inl, inr, ⊎_elim, Bool, true, false, ◌||◌, List, [], ◌∷◌, ◌++◌, ℕ, ◌+◌, ◌*◌, ◌%◌, ◌^◌, ◌<◌, arith, eqb-true, eqb, length, get_or, set, length-set, get_or-set_same, get_or-set_other, eqb-false, cases, true≢, any_append, any-one, or_cases, Ihave}
use Rattle.std.specs.Prelude.{◌/◌}
use Rattle.announcements.specs.QueuedRows.{among}
use Rattle.announcements.specs.Marks.{place_of, Covers}

-- the place of an identifier goes by its last word
pub place-last : (m q w : ℕ) → w < 2 ^ 64 → w * m % 2 ^ 64 / 2 ^ 52 ≡ place_of m (q * 2 ^ 64 + w)
unfolding place_of
place-last m q w h = let e : (q * 2 ^ 64 + w) % 2 ^ 64 ≡ w = omega arith in ap (λ (v : ℕ). v * m % 2 ^ 64 / 2 ^ 52) (sym e)

pub place-in : (m id : ℕ) → place_of m id < 4096
unfolding place_of
place-in m id = omega arith

module _ {m : ℕ} {known : ℕ → Bool} {mark : ℕ} {marks : List ℕ} (c : Covers m known mark marks) where
  -- what is known only if it was known before
  pub covers-same : (after : ℕ → Bool) → ((j : ℕ) → after j ≡ true → known j ≡ true) → Covers m after mark marks
  covers-same after f = record { told = λ j h. c.told j (f j h); long = c.long }

  -- one identifier more is marked
  pub covers_more : (id : ℕ) (after : ℕ → Bool) → ((j : ℕ) → after j ≡ true → (known j ≡ true) ⊎ (j ≡ id)) → Covers m after mark (set marks (place_of m id) mark)
  covers_more id after f = record {
    told = λ j h.
        cases (eqb (place_of m j) (place_of m id))
        (λ e. ap (λ (n : ℕ). get_or (set marks (place_of m id) mark) n 0) (eqb-true (place_of m j) (place_of m id) e) ∙ get_or-set_same marks (place_of m id) mark 0 within)
        (λ e. get_or-set_other marks (place_of m id) (place_of m j) mark 0 (eqb-false (place_of m j) (place_of m id) e) ∙ ⊎_elim (λ k. c.told j k) (λ s. absurd (eqb-false (place_of m j) (place_of m id) e (ap (place_of m) s))) (f j h));
    long = length-set marks (place_of m id) mark ∙ c.long;
  }
    where
      within : place_of m id < length marks
      within = omega (arith, c.long, place-in m id)

  -- an identifier without its mark is not known
  pub covers-clear : (id : ℕ) → (get_or marks (place_of m id) 0 ≡ mark → ⊥) → known id ≡ false
  covers-clear id e = on (known id) refl
    where
      on : (b : Bool) → known id ≡ b → b ≡ false
      on true h = absurd (e (c.told id h))
      on false h = refl

pub covers-none : (m : ℕ) (known : ℕ → Bool) (mark : ℕ) (marks : List ℕ) → length marks ≡ 4096 → ((j : ℕ) → known j ≡ false) → Covers m known mark marks
covers-none m known mark marks l f = record { told = λ j h. true≢ (sym (f j) ∙ h); long = l }

-- of what is handed back, one identifier more
pub among-known : (a : Bool) (hs : List Ihave) (x : Ihave) (j : ℕ) → (a || among j (hs ++ (x ∷ []))) ≡ true → ((a || among j hs) ≡ true) ⊎ (j ≡ x.id)
among-known true hs x j h = inl refl
among-known false hs x j h =
    ⊎_elim (λ b. inl b) (λ b. inr (sym (eqb-true x.id j b)))
    (or_cases (among j hs) (eqb x.id j) (ap (λ (b : Bool). among j hs || b) (sym (any-one (λ y. eqb y.id j) x)) ∙ sym (any_append (λ y. eqb y.id j) hs (x ∷ [])) ∙ h))
