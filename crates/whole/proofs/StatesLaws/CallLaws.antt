-- A saving and a return, answer by answer.
-- Assumes nothing.
use Rattle.whole.proofs.Words.{Some, None, Result, Ok, Err, is_ok, ◌≡◌, refl, sym, ap, ◌∙◌, subst, ◌⊎◌, inl, inr, Bool, true, false, List, [], ◌∷◌, ℕ, ◌+◌, ◌-◌, ◌*◌, ◌≤◌, ◌<◌, eq-or-lt_of_le, arith, le-leb, length, get_or, lt-leb, Entry, entry, lookup, part, put, Counts}
use Rattle.std.proofs.lemmas.Bool.{true≢false}
use Rattle.refusal.specs.Numbers.{number_of, answer_of}
use Rattle.refusal.specs.declared.Refusal.{Refusal}
use Rattle.refusal.specs.declared.Refusal.TheVariants.{BlockNotWhole, AreaNotWhole}
use Rattle.whole.specs.Held.{whole_block}
use Rattle.whole.specs.States.Kept.{Kept, keep}
use Rattle.whole.specs.States.Area.{row_bytes, area_bytes, counts_at, kept_at, slots, kept, kept_in, area_holds, no_room, save, or_unknown, go_back}
use Rattle.whole.specs.States.Calls.{Placed, area_asked, Saves, save_number, area_left, Returns, return_number, block_left, counts_left}
use Rattle.whole.proofs.StatesLaws.AreaLaws.{nobody, length-slots, get_or-slots}
use Rattle.whole.proofs.StatesLaws.HoldsLaws.{holds_of, holds_same, length-kept, kept-it, kept-sized}
use Rattle.whole.proofs.StatesLaws.KeepLaws.{At, keep-put, named-there, named-not, saved-bytes}

-- a place that is not the last
pub less : {i k : ℕ} → i ≤ k → (i ≡ k → ⊥) → i < k
less {i} {k} h n = go (eq-or-lt_of_le h)
  where
    go : (i ≡ k) ⊎ (i < k) → i < k
    go (inl e) = absurd (n e)
    go (inr l) = l

-- the place that the code found
pub at_of : (n : ℕ) (area : List ℕ) (name i : ℕ) → Placed (kept area) name area i → At name (kept_in n area) i
unfolding kept_in kept_at
at_of n area name i p =
    let l : length (slots n area (kept area)) ≡ kept area = length-slots n area (kept area) in record {
      within = omega (arith, p.within);
      before = λ j h e. p.before j h (ap (λ (x : Entry Kept). x.key) (sym (get_or-slots n area (kept area) j (omega (arith, h, p.within)))) ∙ e);
      found = λ h. ap (λ (x : Entry Kept). x.key) (get_or-slots n area (kept area) i (omega (arith, h))) ∙ p.found (omega (arith, h));
    }

-- a fifth name: all four are kept, and it is none of them
pub room-none : (name : ℕ) (ks : List (Entry Kept)) → At name ks (length ks) → 4 ≤ length ks → no_room name ks ≡ true
unfolding no_room
room-none name ks a h = rw (named-not name ks a, le-leb 4 (length ks) h)

pub room-some : (name : ℕ) (ks : List (Entry Kept)) (i : ℕ) → At name ks i → i < 4 → no_room name ks ≡ false
unfolding no_room
room-some name ks i a h = go (eq-or-lt_of_le a.within)
  where
    go : (i ≡ length ks) ⊎ (i < length ks) → no_room name ks ≡ false
    go (inl e) =
        let end : At name ks (length ks) = subst (At name ks) e a in
        rw (named-not name ks end, lt-leb 4 (length ks) (omega arith))
    go (inr l) = rw (named-there name ks i a l)

-- what questions 5 and 17 answer
module _ (block area : List ℕ) where
  asked-5 : whole_block block ≡ false → area_asked block area ≡ Err BlockNotWhole
  unfolding area_asked
  asked-5 w = rw w refl

  asked-17 : whole_block block ≡ true → area_holds (length block) area ≡ false → area_asked block area ≡ Err AreaNotWhole
  unfolding area_asked
  asked-17 w h = rw (w, h) refl

  asked-0 : whole_block block ≡ true → area_holds (length block) area ≡ true → area_asked block area ≡ Ok (kept area)
  unfolding area_asked
  asked-0 w h = rw (w, h) refl

  told : Result ℕ Refusal → ℕ
  told (Ok k) = k
  told (Err r) = 0

  -- both are answered yes
  pub asked_yes : (k : ℕ) → area_asked block area ≡ Ok k → (whole_block block ≡ true) × (area_holds (length block) area ≡ true) × (k ≡ kept area)
  unfolding told
  asked_yes k e = go (whole_block block) refl (area_holds (length block) area) refl
    where
      go : (a : Bool) → whole_block block ≡ a → (b : Bool) → area_holds (length block) area ≡ b → (whole_block block ≡ true) × (area_holds (length block) area ≡ true) × (k ≡ kept area)
      go false w b h = absurd (true≢false (ap is_ok (sym e ∙ asked-5 w)))
      go true w false h = absurd (true≢false (ap is_ok (sym e ∙ asked-17 w h)))
      go true w true h = (w, h, ap told (sym e ∙ asked-0 w h))

  -- what holds of both refusals holds of the one that is answered
  pub asked_no : (r : Refusal) (P : ℕ → Type 0) → area_asked block area ≡ Err r → (whole_block block ≡ false → P 5) → (whole_block block ≡ true → area_holds (length block) area ≡ false → P 17) → P (number_of r)
  asked_no r P e p q = go (whole_block block) refl (area_holds (length block) area) refl
    where
      go : (a : Bool) → whole_block block ≡ a → (b : Bool) → area_holds (length block) area ≡ b → P (number_of r)
      go false w b h = subst P (ap answer_of (sym (asked-5 w) ∙ e)) (p w)
      go true w false h = subst P (ap answer_of (sym (asked-17 w h) ∙ e)) (q w h)
      go true w true h = absurd (true≢false (ap is_ok (sym (asked-0 w h) ∙ e)))

module _ (block : List ℕ) (counts : Counts) (area : List ℕ) (name : ℕ) where
  abbrev n : ℕ
  n = length block

  abbrev ks : List (Entry Kept)
  ks = kept_in n area

  abbrev x : Entry Kept
  x = entry name (record { counts = counts; block = block })

  saves-5 : whole_block block ≡ false → Saves block counts area name area 5 0
  unfolding save save_number area_left
  saves-5 w = record { number = rw w refl; long = refl; left = rw w refl }

  saves-17 : whole_block block ≡ true → area_holds n area ≡ false → Saves block counts area name area 17 0
  unfolding save save_number area_left
  saves-17 w h = record { number = rw (w, h) refl; long = refl; left = rw (w, h) refl }

  pub saves-refused : (r : Refusal) → area_asked block area ≡ Err r → Saves block counts area name area (number_of r) 0
  saves-refused r e = asked_no block area r (λ n. Saves block counts area name area n 0) e saves-5 saves-17

  long_kept : length ks ≡ kept area
  long_kept = length-kept n area

  pub saves-16 : whole_block block ≡ true → area_holds n area ≡ true → Placed (kept area) name area 4 → Saves block counts area name area 16 0
  unfolding save save_number area_left
  saves-16 w h p =
      let l : length ks ≡ 4 = omega (arith, long_kept, p.within, (holds_of n area h).few) in
      let full : no_room name ks ≡ true = room-none name ks (subst (At name ks) (sym l) (at_of n area name 4 p)) (omega arith) in
      record { number = rw (w, h, full) refl; long = refl; left = rw (w, h, full) refl }

  pub saves-0 : whole_block block ≡ true → area_holds n area ≡ true → (i c : ℕ) → Placed (kept area) name area i → i < 4 → c ≡ i + 1 + (kept area - (i + 1))
      → Saves block counts area name (put 255 (c ∷ []) (put (256 + n * i) block (put (26 * i) (row_bytes x) area))) 0 0
  unfolding save save_number area_left
  saves-0 w h i c p r e = record { number = rw (w, h, room) refl; long = refl; left = rw (w, h, room) bytes }
    where
      there : At name ks i
      there = at_of n area name i p

      room : no_room name ks ≡ false
      room = room-some name ks i there r

      few : length ks ≤ 4
      few = omega (arith, long_kept, (holds_of n area h).few)

      bytes : put 255 (c ∷ []) (put (256 + n * i) block (put (26 * i) (row_bytes x) area)) ≡ area_bytes (length area) (keep x ks)
      bytes =
          ap (λ (t : List ℕ). put 255 (c ∷ []) (put (256 + n * i) block (put (26 * i) (row_bytes x) t))) (holds_same n area h)
          ∙ saved-bytes n (length area) (holds_of n area h).long ks few (kept-sized n area h) x refl i there.within r c (e ∙ ap (λ (m : ℕ). i + 1 + (m - (i + 1))) (sym long_kept))
          ∙ ap (area_bytes (length area)) (sym (keep-put name x refl ks i there))

  returns-5 : whole_block block ≡ false → Returns block counts area name block counts 5 0
  unfolding go_back return_number block_left counts_left
  returns-5 w = record { number = rw w refl; long = refl; back = rw w refl; left = rw w refl }

  returns-17 : whole_block block ≡ true → area_holds n area ≡ false → Returns block counts area name block counts 17 0
  unfolding go_back return_number block_left counts_left
  returns-17 w h = record { number = rw (w, h) refl; long = refl; back = rw (w, h) refl; left = rw (w, h) refl }

  pub returns-refused : (r : Refusal) → area_asked block area ≡ Err r → Returns block counts area name block counts (number_of r) 0
  returns-refused r e = asked_no block area r (λ n. Returns block counts area name block counts n 0) e returns-5 returns-17

  pub returns-15 : whole_block block ≡ true → area_holds n area ≡ true → Placed (kept area) name area (kept area) → Returns block counts area name block counts 15 0
  unfolding go_back return_number block_left counts_left or_unknown
  returns-15 w h p =
      let e : lookup name ks ≡ None = named-not name ks (subst (At name ks) (sym long_kept) (at_of n area name (kept area) p)) in
      record { number = rw (w, h, e) refl; long = refl; back = rw (w, h, e) refl; left = rw (w, h, e) refl }

  pub returns-0 : whole_block block ≡ true → area_holds n area ≡ true → (i : ℕ) → Placed (kept area) name area i → i < kept area
      → Returns block counts area name (part (256 + n * i) n area) (counts_at area (26 * i)) 0 0
  unfolding go_back return_number block_left counts_left or_unknown kept_at
  returns-0 w h i p l = record {
    number = rw (w, h, there) refl;
    long = refl;
    back = rw (w, h, there) (ap (λ (k : Entry Kept). k.value.block) (sym it));
    left = rw (w, h, there) (ap (λ (k : Entry Kept). k.value.counts) (sym it));
  }
    where
      there : lookup name ks ≡ Some (get_or ks i nobody).value
      there = named-there name ks i (at_of n area name i p) (omega (arith, long_kept))

      it : get_or ks i nobody ≡ kept_at n area i
      it = kept-it n area i l
