-- One pass over the record for all links: a number for each.
-- Assumes nothing.
use Rattle.payloads.proofs.Words.{◌≡◌, refl, sym, ap, ◌∙◌, ◌⊎◌, inl, inr, Bool, true, false, not, ◌&&◌, ◌||◌, List, [], ◌∷◌, ◌++◌, ℕ, suc, ◌+◌, ◌≤◌, ◌<◌, arith, add-one, leb-true, leb-false, le-leb, lt-ltb, le-ltb, ne_eqb, eqb, leb, ltb, length, take, get_or, set, take-suc, take_all, get_or-set_same, get_or-set_other, if◌then◌else◌, keys, cases, State, Note, for_peer, state_of, LinksAscend, peer_at, Head, LinkSet}
use Rattle.std.proofs.Common.{subst}
use borrow.Author.Tests.{lt-leb}
use Rattle.storage.proofs.RowsLaws.Ids.{tri}
use Rattle.storage.specs.Lists.Base.{count, any}
use Rattle.time_cache.proofs.Orders.{up_of}
use Rattle.protocol.specs.Push.{notes}
use Rattle.block.specs.NoteSteps.{note}
use Rattle.block.proofs.LinkLaws.{count-peers}
use Rattle.block.proofs.Scans.{keys-apart}
use Rattle.payloads.specs.Eager.Targets.{hands_back}
use Rattle.payloads.specs.Eager.Scan.{seen_after, seen, wants_note, FirstMarks, SeenFor, Wants}

-- a number more of an array
pub set_more : (P : ℕ → ℕ → Type 0) (m : List ℕ) (i v : ℕ) → i < length m → ((l : ℕ) → l < i → P l (get_or m l 0)) → P i v → (l : ℕ) → l < i + 1 → P l (get_or (set m i v) l 0)
set_more P m i v h each new l q = by_place (tri l i)
  where
    by_place : (l < i) ⊎ ((l ≡ i) ⊎ (i < l)) → P l (get_or (set m i v) l 0)
    by_place (inl b) = subst (P l) (sym (get_or-set_other m i l v 0 (λ (e : l ≡ i). omega arith))) (each l b)
    by_place (inr (inl e)) = subst (λ (n : ℕ). P n (get_or (set m i v) n 0)) (sym e) (subst (P i) (sym (get_or-set_same m i v 0 h)) new)
    by_place (inr (inr g)) = absurd (let z : l < l = omega arith in omega arith)

module _ (p id : ℕ) where
  -- one note

  pub seen-full : (n : Note) (m : ℕ) → 256 ≤ m → seen_after p id n m ≡ m
  unfolding seen_after
  seen-full n m h = ap (λ (b : Bool). if b then m else if notes p id n then 256 else if for_peer p n then m + 1 else m) (le-leb 256 m h)

  pub seen_other : (n : Note) (m : ℕ) → eqb n.peer p ≡ false → seen_after p id n m ≡ m
  unfolding seen_after
  seen_other n m e = (λ k. if leb 256 m then m else if e k && eqb n.id id then 256 else if e k then m + 1 else m) ∙ on (leb 256 m)
    where
      on : (b : Bool) → (if b then m else m) ≡ m
      on true = refl
      on false = refl

  pub seen_same : (n : Note) (m : ℕ) → m < 256 → eqb n.peer p ≡ true → eqb n.id id ≡ true → seen_after p id n m ≡ 256
  unfolding seen_after
  seen_same n m h e i = λ k. if lt-leb 256 m h k then m else if e k && i k then 256 else if e k then m + 1 else m

  pub seen_one : (n : Note) (m : ℕ) → m < 256 → eqb n.peer p ≡ true → eqb n.id id ≡ false → seen_after p id n m ≡ m + 1
  unfolding seen_after
  seen_one n m h e i = λ k. if lt-leb 256 m h k then m else if e k && i k then 256 else if e k then m + 1 else m

  -- a list

  seen-snoc : (ns : List Note) (n : Note) (m : ℕ) → seen p id (ns ++ (n ∷ [])) m ≡ seen_after p id n (seen p id ns m)
  unfolding seen
  seen-snoc [] n m = refl
  seen-snoc (x ∷ ns) n m = seen-snoc ns n (seen_after p id x m)

  seen_more : (ds : List Note) (i : ℕ) (d : Note) (m : ℕ) → i < length ds → seen p id (take (i + 1) ds) m ≡ seen_after p id (get_or ds i d) (seen p id (take i ds) m)
  seen_more ds i d m h =
      ap (λ (n : ℕ). seen p id (take n ds) m) (add-one i)
      ∙ ap (λ (l : List Note). seen p id l m) (take-suc ds i d h)
      ∙ seen-snoc (take i ds) (get_or ds i d) m

  seen-stays : (ds : List Note) (m : ℕ) → 256 ≤ m → seen p id ds m ≡ m
  unfolding seen
  seen-stays [] m h = refl
  seen-stays (n ∷ ds) m h = ap (seen p id ds) (seen-full n m h) ∙ seen-stays ds m h

  or-true : (b : Bool) → (b || true) ≡ true
  or-true true = refl
  or-true false = refl

  or-false : (b : Bool) → (b || false) ≡ b
  or-false true = refl
  or-false false = refl

  -- 256 is reached where the peer has 256, or one is of the identifier
  seen_test : (ds : List Note) (m : ℕ) → leb 256 (seen p id ds m) ≡ (leb 256 (m + count (for_peer p) ds) || any (notes p id) ds)
  unfolding seen count any
  seen_test [] m =
      let z : m ≡ m + 0 = omega arith in
      ap (leb 256) z ∙ sym (or-false (leb 256 (m + 0)))
  seen_test (n ∷ ds) m =
      cases (leb 256 m)
      (λ f. ap (leb 256) (seen-stays (n ∷ ds) m (leb-true 256 m f)) ∙ f
      ∙ sym (ap (λ (b : Bool). b || any (notes p id) (n ∷ ds)) (le-leb 256 (m + count (for_peer p) (n ∷ ds)) (omega (arith, leb-true 256 m f)))))
      (λ f. cases (eqb n.peer p)
      (λ e. cases (eqb n.id id)
      (λ i. ap (λ (x : ℕ). leb 256 (seen p id ds x)) (seen_same n m (leb-false 256 m f) e i)
      ∙ ap (leb 256) (seen-stays ds 256 (omega arith))
      ∙ sym (rw (e, i) (or-true (leb 256 (m + suc (count (for_peer p) ds))))))
      (λ i. ap (λ (x : ℕ). leb 256 (seen p id ds x)) (seen_one n m (leb-false 256 m f) e i)
      ∙ seen_test ds (m + 1)
      ∙ rw (e, i) (ap (λ (x : ℕ). leb 256 x || any (notes p id) ds) (plain m (count (for_peer p) ds)))))
      (λ e. ap (λ (x : ℕ). leb 256 (seen p id ds x)) (seen_other n m e) ∙ seen_test ds m ∙ rw e refl))
    where
      plain : (a b : ℕ) → a + 1 + b ≡ a + suc b
      plain a b = omega arith

  below-not : (x : ℕ) → ltb x 256 ≡ not (leb 256 x)
  below-not x =
      cases (leb 256 x) (λ f. le-ltb x 256 (leb-true 256 x f) ∙ sym (ap not f)) (λ f. lt-ltb x 256 (leb-false 256 x f) ∙ sym (ap not f))

  -- what the number of a link tells at the end
  pub seen-tells : (b : Bool) (ds : List Note) → ltb (seen p id ds (if b then 0 else 256)) 256 ≡ (b && not (leb 256 (count (for_peer p) ds) || any (notes p id) ds))
  seen-tells true ds =
      let z : 0 + count (for_peer p) ds ≡ count (for_peer p) ds = omega arith in
      below-not (seen p id ds 0) ∙ ap not (seen_test ds 0 ∙ ap (λ (x : ℕ). leb 256 x || any (notes p id) ds) z)
  seen-tells false ds = ap (λ (x : ℕ). ltb x 256) (seen-stays ds 256 (omega arith))

-- the pass: after i notes each link has its number
pub record SeenSofar (h : Head) (xs : List ℕ) (id : ℕ) (marks : List ℕ) (i : ℕ) (r : List ℕ) : Type 0 where
  pub each : (l : ℕ) → l < h.live.links → get_or r l 0 ≡ seen (peer_at (state_of h xs) l) id (take i (state_of h xs).dropped) (get_or marks l 0)

module _ (h : Head) (xs : List ℕ) (up : LinksAscend h xs) (id : ℕ) where
  abbrev s : State
  s = state_of h xs

  abbrev ds : List Note
  ds = s.dropped

  pub seen_start : (m : List ℕ) → SeenSofar h xs id m 0 m
  unfolding seen
  seen_start m = record { each = λ l q. refl }

  pub seen_end : (m r : List ℕ) (i : ℕ) → length ds ≤ i → SeenSofar h xs id m i r → SeenFor s h.live.links id m r
  seen_end m r i q so = record { each = λ l k. so.each l k ∙ ap (λ (ns : List Note). seen (peer_at s l) id ns (get_or m l 0)) (take_all i ds q) }

  module _ (m₀ m : List ℕ) (i x : ℕ) (q : i < length ds) (b : x < h.live.links) (e : (get_or ds i (note 0 0 0)).peer ≡ peer_at s x) (so : SeenSofar h xs id m₀ i m) where
    apart : (l : ℕ) → l < h.live.links → (l ≡ x → ⊥) → eqb (get_or ds i (note 0 0 0)).peer (peer_at s l) ≡ false
    apart l k n =
        let c : length (keys s.links) ≡ h.live.links = count-peers h xs in
        ne_eqb (get_or ds i (note 0 0 0)).peer (peer_at s l) (λ z. keys-apart (keys s.links) l x (up_of (keys s.links) up) (omega arith) (omega arith) n (sym z ∙ e))

    -- the link of note i is seen once more, and no other
    seen_step : (r : List ℕ) → get_or r x 0 ≡ seen_after (peer_at s x) id (get_or ds i (note 0 0 0)) (get_or m x 0) → ((l : ℕ) → (l ≡ x → ⊥) → get_or r l 0 ≡ get_or m l 0) → SeenSofar h xs id m₀ (i + 1) r
    seen_step r here others = record { each = λ l k. by_place l k (tri l x) }
      where
        same : (l : ℕ) → l < h.live.links → (l ≡ x → ⊥) → get_or r l 0 ≡ seen (peer_at s l) id (take (i + 1) ds) (get_or m₀ l 0)
        same l k n =
            others l n ∙ so.each l k
            ∙ sym (seen_more (peer_at s l) id ds i (note 0 0 0) (get_or m₀ l 0) q ∙ seen_other (peer_at s l) id (get_or ds i (note 0 0 0)) (seen (peer_at s l) id (take i ds) (get_or m₀ l 0)) (apart l k n))

        by_place : (l : ℕ) → l < h.live.links → (l < x) ⊎ ((l ≡ x) ⊎ (x < l)) → get_or r l 0 ≡ seen (peer_at s l) id (take (i + 1) ds) (get_or m₀ l 0)
        by_place l k (inl g) = same l k (λ z. omega arith)
        by_place l k (inr (inr g)) = same l k (λ z. omega arith)
        by_place l k (inr (inl z)) =
            subst (λ (n : ℕ). get_or r n 0 ≡ seen (peer_at s n) id (take (i + 1) ds) (get_or m₀ n 0)) (sym z)
            (here ∙ ap (seen_after (peer_at s x) id (get_or ds i (note 0 0 0))) (so.each x b) ∙ sym (seen_more (peer_at s x) id ds i (note 0 0 0) (get_or m₀ x 0) q))

    pub seen-passed : 256 ≤ get_or m x 0 → SeenSofar h xs id m₀ (i + 1) m
    seen-passed f = seen_step m (sym (seen-full (peer_at s x) id (get_or ds i (note 0 0 0)) (get_or m x 0) f)) (λ l n. refl)

    pub seen-set : (v : ℕ) → x < length m → v ≡ seen_after (peer_at s x) id (get_or ds i (note 0 0 0)) (get_or m x 0) → SeenSofar h xs id m₀ (i + 1) (set m x v)
    seen-set v k z = seen_step (set m x v) (get_or-set_same m x v 0 k ∙ z) (λ l n. get_or-set_other m x l v 0 n)

-- both together
pub wants : (to : LinkSet) (rooms : List ℕ) (id : ℕ) (s : State) (n : ℕ) (m r : List ℕ) → FirstMarks to rooms n m → SeenFor s n id m r → Wants to rooms id s n r
unfolding wants_note
wants to rooms id s n m r a b = record {
  each = λ l q.
      ap (λ (x : ℕ). ltb x 256) (b.each l q ∙ ap (seen (peer_at s l) id s.dropped) (a.each l q))
      ∙ seen-tells (peer_at s l) id (hands_back to rooms l) s.dropped;
}
