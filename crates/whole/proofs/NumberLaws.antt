-- Lists of link numbers: below a bound and ascending, or each once; and what they tell of the peers that the numbers stand for.
-- Assumes nothing.
use Rattle.whole.proofs.Words.{◌≡◌, refl, sym, ap, ◌∙◌, subst, ◌⊎◌, inl, inr, Bool, true, false, not, ◌&&◌, List, [], ◌∷◌, map, ℕ, ◌+◌, ◌-◌, ◌≤◌, ◌<◌, zero-le, eq-or-lt_of_le, arith, ltb-true, lt-ltb, le-ltb, eq-eqb, ne_eqb, ltb, eqb, length, get_or, cases, and_left, and_right, and_intro, all_head, all_tail, once-of, of-once, up_of, of-up, below_of, of-below, peer_of, neighbour-here}
use Rattle.storage.specs.Lists.Base.{all, member, ascending, once}
use Rattle.storage.specs.Lists.Map.{keys}
use Rattle.storage.proofs.RowsLaws.Ids.{tri}
use Rattle.storage.proofs.RowsLaws.Sorted.{AscendTo, ascend-start, ascend-more, ascend-done, ascend-not}
use Rattle.storage.specs.Refs.Once.{TellsNumbers}
use Rattle.storage.proofs.RefsLaws.Places.{BelowTo, below_more}
use Rattle.protocol.specs.Links.{Links}
use Rattle.protocol.specs.Whole.{neighbours}
use Rattle.whole.specs.Held.{all_below}
use Rattle.whole.proofs.AllLaws.{cons-all}

-- the first j numbers are below m and ascend, and `least` is one more than the last of them
pub record Climb (m : ℕ) (b : List ℕ) (j least : ℕ) : Type 0 where
  pub low : BelowTo m b j
  pub up : AscendTo b j
  pub none : j ≡ 0 → least ≡ 0
  pub last : (p : ℕ) → j ≡ p + 1 → least ≡ get_or b p 0 + 1

-- a test that fails
fails : (a b : Bool) → ((a && b) ≡ true → ⊥) → false ≡ (a && b)
fails a b n = cases (a && b) (λ p. absurd (n p)) (λ p. sym p)

module _ (m : ℕ) (b : List ℕ) (j least : ℕ) (c : Climb m b j least) where
  module _ (k : ℕ) (e : k ≡ get_or b j 0) where
    pub climb-more : k < m → least ≤ k → Climb m b (j + 1) (k + 1)
    climb-more h g = record {
      low = below_more m b j c.low (omega arith);
      up = by-j (eq-or-lt_of_le zero-le);
      none = λ q. absurd (omega arith);
      last = λ p q. ap (λ (n : ℕ). n + 1) (e ∙ ap (λ (n : ℕ). get_or b n 0) (let s : j ≡ p = omega arith in s));
    }
      where
        by-j : (0 ≡ j) ⊎ (0 < j) → AscendTo b (j + 1)
        by-j (inl z) = subst (λ (n : ℕ). AscendTo b (n + 1)) z (ascend-start b)
        by-j (inr pos) = ascend-more b j pos c.up (omega (arith, c.last (j - 1) (omega arith)))

    pub climb-high : j < length b → m ≤ k → false ≡ (all_below m b && ascending b)
    climb-high l h =
        fails (all_below m b) (ascending b) (λ p. omega (arith, (below_of m b (and_left (all_below m b) (ascending b) p)).below j l))

    pub climb-low : j < length b → k < least → false ≡ (all_below m b && ascending b)
    climb-low l h = by-j (eq-or-lt_of_le zero-le)
      where
        by-j : (0 ≡ j) ⊎ (0 < j) → false ≡ (all_below m b && ascending b)
        by-j (inl z) = absurd (omega (arith, c.none (sym z)))
        by-j (inr pos) =
            fails (all_below m b) (ascending b)
            (λ p. ascend-not b j pos l (omega (arith, c.last (j - 1) (omega arith))) (up_of b (and_right (all_below m b) (ascending b) p)))

  pub climb-done : length b ≤ j → true ≡ (all_below m b && ascending b)
  climb-done h =
      sym (and_intro (of-below m b (record { below = λ i l. c.low.to i (omega arith) }))
      (of-up b (ascend-done b j (length b) refl h c.up)))

-- below a number, and each once
pub tells-numbers : (m : ℕ) (xs : List ℕ) (r : Bool) → TellsNumbers m xs r → r ≡ (all_below m xs && once xs)
tells-numbers m xs true n = sym (and_intro (of-below m xs (record { below = n.below })) (once-of xs n.once))
tells-numbers m xs false n =
    fails (all_below m xs) (once xs)
    (λ p. n (record { below = (below_of m xs (and_left (all_below m xs) (once xs) p)).below; once = of-once xs (and_right (all_below m xs) (once xs) p) }))

-- the peers that link numbers stand for, where the links ascend
module _ (l : Links) (up : ascending (keys l) ≡ true) where
  abbrev ps : List ℕ
  ps = keys l

  abbrev m : ℕ
  m = length ps

  same-order : (a b : ℕ) → a < m → b < m → ltb (peer_of ps a) (peer_of ps b) ≡ ltb a b
  same-order a b ha hb = by_place (tri a b)
    where
      by_place : (a < b) ⊎ ((a ≡ b) ⊎ (b < a)) → ltb (peer_of ps a) (peer_of ps b) ≡ ltb a b
      by_place (inl h) = lt-ltb (peer_of ps a) (peer_of ps b) ((up_of ps up).up a b h hb) ∙ sym (lt-ltb a b h)
      by_place (inr (inl h)) = le-ltb (peer_of ps a) (peer_of ps b) (omega (arith, ap (peer_of ps) h)) ∙ sym (le-ltb a b (omega arith))
      by_place (inr (inr h)) = le-ltb (peer_of ps a) (peer_of ps b) (omega (arith, (up_of ps up).up b a h ha)) ∙ sym (le-ltb a b (omega arith))

  pub same-peer : (a b : ℕ) → a < m → b < m → eqb (peer_of ps a) (peer_of ps b) ≡ eqb a b
  same-peer a b ha hb = by_place (tri a b)
    where
      by_place : (a < b) ⊎ ((a ≡ b) ⊎ (b < a)) → eqb (peer_of ps a) (peer_of ps b) ≡ eqb a b
      by_place (inl h) = ne_eqb (peer_of ps a) (peer_of ps b) (λ q. omega (arith, (up_of ps up).up a b h hb)) ∙ sym (ne_eqb a b (λ q. omega arith))
      by_place (inr (inl h)) = eq-eqb (peer_of ps a) (peer_of ps b) (ap (peer_of ps) h) ∙ sym (eq-eqb a b h)
      by_place (inr (inr h)) = ne_eqb (peer_of ps a) (peer_of ps b) (λ q. omega (arith, (up_of ps up).up b a h ha)) ∙ sym (ne_eqb a b (λ q. omega arith))

  first-low : (n : ℕ) (ns : List ℕ) → all_below m (n ∷ ns) ≡ true → n < m
  first-low n ns b = ltb-true n m (all_head (λ k. ltb k m) n ns b)

  rest-low : (n : ℕ) (ns : List ℕ) → all_below m (n ∷ ns) ≡ true → all_below m ns ≡ true
  rest-low n ns b = all_tail (λ k. ltb k m) n ns b

  -- they are neighbours
  pub peers-neighbours : (ns : List ℕ) → all_below m ns ≡ true → neighbours l (map (peer_of ps) ns) ≡ true
  unfolding neighbours all
  peers-neighbours [] b = refl
  peers-neighbours (n ∷ ns) b =
      rw (neighbour-here (peer_of ps n) n l (up_of ps up) (record { within = first-low n ns b; same = refl })) (peers-neighbours ns (rest-low n ns b))

  above_same : (n : ℕ) (ns : List ℕ) → n < m → all_below m ns ≡ true → all (ltb (peer_of ps n)) (map (peer_of ps) ns) ≡ all (ltb n) ns
  unfolding all
  above_same n [] h b = refl
  above_same n (k ∷ ns) h b =
      cons-all (ltb (peer_of ps n)) (peer_of ps k) (map (peer_of ps) ns)
      ∙ (λ i. same-order n k h (first-low k ns b) i && above_same n ns h (rest-low k ns b) i)
      ∙ sym (cons-all (ltb n) k ns)

  -- they ascend where the numbers do
  pub peers-ascend : (ns : List ℕ) → all_below m ns ≡ true → ascending (map (peer_of ps) ns) ≡ ascending ns
  unfolding ascending
  peers-ascend [] b = refl
  peers-ascend (n ∷ ns) b = λ i. above_same n ns (first-low n ns b) (rest-low n ns b) i && peers-ascend ns (rest-low n ns b) i

  member-same : (n : ℕ) (ns : List ℕ) → n < m → all_below m ns ≡ true → member (peer_of ps n) (map (peer_of ps) ns) ≡ member n ns
  unfolding member
  member-same n [] h b = refl
  member-same n (k ∷ ns) h b =
      rw (same-peer n k h (first-low k ns b)) (cases (eqb n k) (λ p. rw p) (λ p. rw p (member-same n ns h (rest-low k ns b))))

  -- each stands once where the numbers do
  pub peers-once : (ns : List ℕ) → all_below m ns ≡ true → once (map (peer_of ps) ns) ≡ once ns
  unfolding once
  peers-once [] b = refl
  peers-once (n ∷ ns) b = λ i. not (member-same n ns (first-low n ns b) (rest-low n ns b) i) && peers-once ns (rest-low n ns b) i
