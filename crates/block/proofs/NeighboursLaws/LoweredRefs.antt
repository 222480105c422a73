-- Numbers with rows beside them after a link went: what is read from them, and that they are below one link less.
-- Assumes nothing.
use Rattle.block.proofs.Words.{◌≡◌, refl, sym, ap, ◌∙◌, subst, ◌⊎◌, inl, inr, Bool, true, false, not, List, [], ◌∷◌, map, ℕ, zero, suc, ◌-◌, ◌≤◌, ◌<◌, zero-le, suc-le-suc, le_of_suc-le-suc, not-suc-le-zero, arith, eq-eqb, ne_eqb, eqb-true, eqb, length, take, get_or, if◌then◌else◌, Map, Entry, entry, cases, true≢, length-filter, count-length, le_nat, rows, Ascending, length-rows, Ref, ref, places, Below, low_or_high, stays}
use borrow.Author.Tests.{eqb-false}
use lib.ListN.{length-map}
use Rattle.storage.specs.Lists.Base.{filter}
use Rattle.storage.specs.Lists.Map.{remove}
use Rattle.storage.proofs.ListsLaws.KeyLaws.{eqb-sym}
use Rattle.protocol.specs.Push.{for_peer}
use Rattle.protocol.specs.Neighbours.{without_announcer, without_notes}
use Rattle.block.specs.View.{half_at, id_at, peer_of, note_of, hop_of, round_of}
use Rattle.storage.specs.Refs.Numbers.{pairs, numbered, lowered, lower, lower_all}
use Rattle.block.specs.Neighbours.Lowered.{without_peer}
use Rattle.block.proofs.NeighboursLaws.LoweredLaws.{read_by, pairs-read}
use Rattle.storage.proofs.RefsLaws.Lowered.{lowered-low, lowered-high, named-lowered}

differs : (a b : ℕ) → not (eqb a b) ≡ true → a ≡ b → ⊥
differs a b h e = true≢ (sym (ap not (eq-eqb a b e)) ∙ h)

below_rest : (m l : ℕ) (ls : List ℕ) → Below m (l ∷ ls) → Below m ls
below_rest m l ls b = record { below = λ i h. b.below (suc i) (suc-le-suc h) }

below-cons : (m l : ℕ) (ls : List ℕ) → l < m → Below m ls → Below m (l ∷ ls)
below-cons m l ls h b = record { below = go }
  where
    go : (i : ℕ) → i < length (l ∷ ls) → get_or (l ∷ ls) i 0 < m
    go zero q = h
    go (suc i) q = b.below i (le_of_suc-le-suc q)

-- a number other than i, below one less
lowered-below : (i m l : ℕ) → i < m → l < m → (l ≡ i → ⊥) → lowered i l < m - 1
lowered-below i m l h q n = go (low_or_high i l)
  where
    go : (l < i) ⊎ (i ≤ l) → lowered i l < m - 1
    go (inl b) = subst (λ (k : ℕ). k < m - 1) (sym (lowered-low i l b)) (omega arith)
    go (inr b) = go2 (low_or_high (suc i) l)
      where
        go2 : (l < suc i) ⊎ (suc i ≤ l) → lowered i l < m - 1
        go2 (inl c) = absurd (n (let e : l ≡ i = omega arith in e))
        go2 (inr c) = subst (λ (k : ℕ). k < m - 1) (sym (lowered-high i l b)) (omega arith)

below_step : (i m : ℕ) (r : Ref) (rs : List Ref) (x : Bool) → (x ≡ true → lowered i r.place < m) → Below m (places (map (lower i) rs)) → Below m (places (map (lower i) (if x then r ∷ rs else rs)))
below_step i m r rs true h b = below-cons m (lowered i r.place) (places (map (lower i) rs)) (h refl) b
below_step i m r rs false h b = b

pub below-lowered : (i m : ℕ) → i < m → (rs : List Ref) → Below m (places rs) → Below (m - 1) (places (lower_all i rs))
unfolding lower_all filter
below-lowered i m h [] b = record { below = λ j q. absurd (not-suc-le-zero q) }
below-lowered i m h (r ∷ rs) b =
    below_step i (m - 1) r (filter (stays i) rs) (stays i r)
    (λ e. lowered-below i m r.place h (b.below 0 (suc-le-suc zero-le)) (differs r.place i e))
    (below-lowered i m h rs (below_rest m r.place (places rs) b))

pub length-lowered : (i : ℕ) (rs : List Ref) → length (lower_all i rs) ≤ length rs
unfolding lower_all
length-lowered i rs = omega (arith, length-map (filter (stays i) rs) (lower i), length-filter (stays i) rs, count-length (stays i) rs)

-- what is read from what is left, where g reads a lowered number as f the number, and t tells those that are not of link i
module _ {A : Type 0} (f g : ℕ → List ℕ → A) (t : A → Bool) (i m : ℕ)
    (same : (l : ℕ) (row : List ℕ) → l < m → (l ≡ i → ⊥) → g (lowered i l) row ≡ f l row)
    (test : (l : ℕ) (row : List ℕ) → l < m → t (f l row) ≡ not (eqb l i)) where
  read_step : (r : Ref) (rs : List Ref) (vs : List A) (x : Bool) → (x ≡ true → g (lowered i r.place) r.own ≡ f r.place r.own)
      → map (read_by g) (map (lower i) rs) ≡ vs → map (read_by g) (map (lower i) (if x then r ∷ rs else rs)) ≡ (if x then read_by f r ∷ vs else vs)
  read_step r rs vs true s e = λ k. s refl k ∷ e k
  read_step r rs vs false s e = e

  pub refs-lowered : (rs : List Ref) → Below m (places rs) → map (read_by g) (lower_all i rs) ≡ filter t (map (read_by f) rs)
  unfolding lower_all filter
  refs-lowered [] b = refl
  refs-lowered (r ∷ rs) b =
      let q : r.place < m = b.below 0 (suc-le-suc zero-le) in
      read_step r (filter (stays i) rs) (filter t (map (read_by f) rs)) (stays i r)
      (λ e. same r.place r.own q (differs r.place i e))
      (refs-lowered rs (below_rest m r.place (places rs) b))
      ∙ ap (λ (x : Bool). if x then read_by f r ∷ filter t (map (read_by f) rs) else filter t (map (read_by f) rs)) (sym (test r.place r.own q))

-- taken out of a map by its key
remove-step : {A : Type 0} (e : Entry A) (m n : Map A) (x : Bool) → m ≡ n → (if x then m else e ∷ m) ≡ (if not x then e ∷ n else n)
remove-step e m n true h = h
remove-step {A} e m n false h = ap (λ (t : Map A). e ∷ t) h

pub remove-filter : {A : Type 0} (p : ℕ) (m : Map A) → remove p m ≡ filter (λ (e : Entry A). not (eqb e.key p)) m
unfolding remove filter
remove-filter p [] = refl
remove-filter {A} p (e ∷ m) =
    remove-step e (remove p m) (filter (λ (e : Entry A). not (eqb e.key p)) m) (eqb p e.key) (remove-filter p m)
    ∙ ap (λ (x : Bool). if not x then e ∷ filter (λ (e : Entry A). not (eqb e.key p)) m else filter (λ (e : Entry A). not (eqb e.key p)) m) (eqb-sym p e.key)

-- two places of ascending peers are one where their peers are one
pub peer-test : (ps : List ℕ) → Ascending ps → (l i : ℕ) → l < length ps → i < length ps → eqb (peer_of ps l) (peer_of ps i) ≡ eqb l i
peer-test ps up l i q h =
    cases (eqb l i)
    (λ e. eq-eqb (peer_of ps l) (peer_of ps i) (ap (peer_of ps) (eqb-true l i e)) ∙ sym e)
    (λ e. ne_eqb (peer_of ps l) (peer_of ps i) (λ z. apart (low_or_high i l) (eqb-false l i e) z) ∙ sym e)
  where
    apart : (l < i) ⊎ (i ≤ l) → (l ≡ i → ⊥) → peer_of ps l ≡ peer_of ps i → ⊥
    apart (inl b) n z = omega (arith, up.up l i b h)
    apart (inr b) n z = go (low_or_high (suc i) l)
      where
        go : (l < suc i) ⊎ (suc i ≤ l) → ⊥
        go (inl c) = n (let e : l ≡ i = omega arith in e)
        go (inr c) = omega (arith, up.up i l c q)

-- without the peer at i
module _ (i : ℕ) (ps : List ℕ) (up : Ascending ps) (h : i < length ps) where
  abbrev p : ℕ
  p = peer_of ps i

  abbrev rest : List ℕ
  rest = without_peer i ps

  test-peer : (l : ℕ) → l < length ps → not (eqb (peer_of ps l) p) ≡ not (eqb l i)
  test-peer l q = ap not (peer-test ps up l i q h)

  same-note : (l : ℕ) (row : List ℕ) → l < length ps → (l ≡ i → ⊥) → note_of rest (lowered i l) row ≡ note_of ps l row
  unfolding note_of
  same-note l row q n = ap (λ (x : ℕ). record { peer = x; id = id_at 0 row; round = half_at 32 row }) (named-lowered 0 i l ps h n)

  test-note : (l : ℕ) (row : List ℕ) → l < length ps → not (for_peer p (note_of ps l row)) ≡ not (eqb l i)
  unfolding note_of
  test-note l row q = test-peer l q

  same-hop : (l : ℕ) (row : List ℕ) → l < length ps → (l ≡ i → ⊥) → hop_of rest (lowered i l) row ≡ hop_of ps l row
  unfolding hop_of
  same-hop l row q n = ap (λ (x : ℕ). record { peer = x; round = le_nat row }) (named-lowered 0 i l ps h n)

  test-hop : (l : ℕ) (row : List ℕ) → l < length ps → not (eqb (hop_of ps l row).peer p) ≡ not (eqb l i)
  unfolding hop_of
  test-hop l row q = test-peer l q

  same-round : (l : ℕ) (row : List ℕ) → l < length ps → (l ≡ i → ⊥) → round_of rest (lowered i l) row ≡ round_of ps l row
  unfolding round_of
  same-round l row q n = ap (λ (x : ℕ). entry x (le_nat row)) (named-lowered 0 i l ps h n)

  test-round : (l : ℕ) (row : List ℕ) → l < length ps → not (eqb (round_of ps l row).key p) ≡ not (eqb l i)
  unfolding round_of
  test-round l row q = test-peer l q

  -- notes, announcers, grafts
  pub notes-lowered : (rs : List Ref) → Below (length ps) (places rs) → map (read_by (note_of rest)) (lower_all i rs) ≡ without_notes p (map (read_by (note_of ps)) rs)
  unfolding without_notes
  notes-lowered rs b = refs-lowered (note_of ps) (note_of rest) (λ n. not (for_peer p n)) i (length ps) same-note test-note rs b

  pub hops-lowered : (rs : List Ref) → Below (length ps) (places rs) → map (read_by (hop_of rest)) (lower_all i rs) ≡ without_announcer p (map (read_by (hop_of ps)) rs)
  unfolding without_announcer
  hops-lowered rs b = refs-lowered (hop_of ps) (hop_of rest) (λ n. not (eqb n.peer p)) i (length ps) same-hop test-hop rs b

  pub rounds-lowered : (rs : List Ref) → Below (length ps) (places rs) → map (read_by (round_of rest)) (lower_all i rs) ≡ remove p (map (read_by (round_of ps)) rs)
  rounds-lowered rs b =
      refs-lowered (round_of ps) (round_of rest) (λ (e : Entry ℕ). not (eqb e.key p)) i (length ps) same-round test-round rs b
      ∙ sym (remove-filter p (map (read_by (round_of ps)) rs))

-- the numbers, of numbers with rows beside them
pub places-pairs : (ls : List ℕ) (rs : List (List ℕ)) → length ls ≤ length rs → places (pairs ref ls rs) ≡ ls
unfolding pairs
places-pairs [] rs h = refl
places-pairs (l ∷ ls) [] h = absurd (not-suc-le-zero h)
places-pairs (l ∷ ls) (r ∷ rs) h = ap (λ (t : List ℕ). l ∷ t) (places-pairs ls rs (le_of_suc-le-suc h))

take-few : (n : ℕ) (xs : List ℕ) → length (take n xs) ≤ n
take-few zero xs = zero-le
take-few (suc n) [] = zero-le
take-few (suc n) (x ∷ xs) = suc-le-suc (take-few n xs)

pub places-numbered : (s n : ℕ) (c b : List ℕ) → places (numbered ref s n c b) ≡ take n c
unfolding numbered
places-numbered s n c b = places-pairs (take n c) (rows s n b) (omega (arith, take-few n c, length-rows s n b))

pub numbered-few : (s n : ℕ) (c b : List ℕ) → length (numbered ref s n c b) ≤ n
numbered-few s n c b =
    omega (arith, length-map (numbered ref s n c b) (λ (r : Ref). r.place), ap length (places-numbered s n c b), take-few n c)

-- what is read, by way of the pairs
pub numbered-read : {A : Type 0} (f : ℕ → List ℕ → A) (s n : ℕ) (c b : List ℕ) → numbered f s n c b ≡ map (read_by f) (numbered ref s n c b)
unfolding numbered
numbered-read f s n c b = sym (pairs-read f (take n c) (rows s n b))
