-- The rows of a link, which stand together in a grouped table.
-- Assumes nothing.
use Rattle.announcements.proofs.Words.{◌≡◌, ℕ, zero, suc, ◌<◌, ◌≤◌, length, sym, ◌∙◌, ap, arith, true, false, List, [], ◌∷◌, ◌++◌, get_or, take, add-one, ◌⊎◌, inl, inr, All, eq-eqb, ne_eqb, All-nil, All-push, All-weaker, All-same, get_or-map, ascending, Entry, keys, Ihave, State, Note, for_peer, queued_for, Mark, peer_at, note, note_at, Column, map-at}
use Rattle.std.proofs.lemmas.List.{length-map, map-append}
use Rattle.std.proofs.lemmas.Bool.{cases_order}
use Rattle.std.proofs.Math.Seq.{take_all}
use Rattle.time_cache.proofs.Orders.{up_of}
use Rattle.block.proofs.Scans.{keys-apart}
use Rattle.steps.specs.Groups.{places, part, Grouped}
use Rattle.steps.proofs.GroupsLaws.PlaceLaws.{hit, miss, places_none}
use Rattle.announcements.specs.QueuedRows.{ihave_of, ihaves_at, Mine}
use Rattle.announcements.proofs.OnDispatchLaws.QueueLaws.{queued-more, queued-same, queued-none}

module _ (s : State) (ns : List Note) (column : List ℕ) (c : Column s ns column) where
  pub column-long : length column ≡ length ns
  column-long = sym (length-map column (peer_at s)) ∙ ap length (sym c.peers) ∙ length-map ns (λ (n : Note). n.peer)

  pub below-links : (n : ℕ) → length s.links ≤ n → All (λ l. l < n) column
  below-links n w = All-weaker (λ l. l < length s.links) (λ l. l < n) (λ l q. omega (arith, q, w)) column c.below

  -- the peer of a row is that of its link
  row-peer : (i : ℕ) → i < length ns → (note_at ns i).peer ≡ peer_at s (get_or column i 0)
  row-peer i q =
      sym (get_or-map (λ (n : Note). n.peer) ns i (note 0 0 0))
      ∙ ap (λ (ps : List ℕ). get_or ps i 0) c.peers
      ∙ map-at (peer_at s) column i (omega (arith, q, column-long))

  module _ (up : ascending (keys s.links) ≡ true) (l : ℕ) (low : l < length s.links) where
    for-link : (i : ℕ) → i < length ns → get_or column i 0 ≡ l → for_peer (peer_at s l) (note_at ns i) ≡ true
    for-link i q e = eq-eqb (note_at ns i).peer (peer_at s l) (row-peer i q ∙ ap (peer_at s) e)

    for-other : (i : ℕ) → i < length ns → (get_or column i 0 ≡ l → ⊥) → for_peer (peer_at s l) (note_at ns i) ≡ false
    for-other i q f =
        let k : length (keys s.links) ≡ length s.links = length-map s.links (λ (e : Entry Mark). e.key) in
        let b : get_or column i 0 < length s.links = c.below i 0 (omega (arith, q, column-long)) in
        ne_eqb (note_at ns i).peer (peer_at s l)
        (λ z. keys-apart (keys s.links) (get_or column i 0) l (up_of (keys s.links) up) (omega (arith, b, k)) (omega (arith, low, k)) f (sym (row-peer i q) ∙ z))

    abbrev Placed : ℕ → Type 0
    Placed n = ihaves_at ns (places l n column) ≡ queued_for (peer_at s l) (take n ns)

    module _ (n : ℕ) (w : suc n ≤ length ns) (so : Placed n) where
      placed-hit : get_or column n 0 ≡ l → Placed (suc n)
      placed-hit e =
          ap (λ (m : ℕ). ihaves_at ns (places l m column)) (sym (add-one n))
          ∙ ap (ihaves_at ns) (hit column l n e)
          ∙ map-append (λ (j : ℕ). ihave_of (note_at ns j)) (places l n column) (n ∷ [])
          ∙ ap (λ (hs : List Ihave). hs ++ (ihave_of (note_at ns n) ∷ [])) so
          ∙ sym (queued-more (peer_at s l) ns n (omega (arith, w)) (for-link n (omega (arith, w)) e))
          ∙ ap (λ (m : ℕ). queued_for (peer_at s l) (take m ns)) (add-one n)

      placed-miss : (get_or column n 0 ≡ l → ⊥) → Placed (suc n)
      placed-miss f =
          ap (λ (m : ℕ). ihaves_at ns (places l m column)) (sym (add-one n))
          ∙ ap (ihaves_at ns) (miss column l n f)
          ∙ so
          ∙ sym (queued-same (peer_at s l) ns n (omega (arith, w)) (for-other n (omega (arith, w)) f))
          ∙ ap (λ (m : ℕ). queued_for (peer_at s l) (take m ns)) (add-one n)

      placed-next : (get_or column n 0 ≡ l) ⊎ ((get_or column n 0 < l) ⊎ (l < get_or column n 0)) → Placed (suc n)
      placed-next (inl e) = placed-hit e
      placed-next (inr (inl h)) = placed-miss (λ e. omega (arith, e, h))
      placed-next (inr (inr h)) = placed-miss (λ e. omega (arith, e, h))

    placed : (n : ℕ) → n ≤ length ns → Placed n
    placed zero w = ap (ihaves_at ns) (places_none column l) ∙ sym (queued-none (peer_at s l))
    placed (suc n) w = placed-next n w (placed n (omega (arith, w))) (cases_order (get_or column n 0) l)

    -- rows, of the peer of the link
    abbrev Own : ℕ → Type 0
    Own i = (i < length ns) × ((note_at ns i).peer ≡ peer_at s l)

    module _ (n : ℕ) (w : suc n ≤ length ns) (so : All Own (places l n column)) where
      owned-hit : get_or column n 0 ≡ l → All Own (places l (suc n) column)
      owned-hit e = All-same Own (places l (suc n) column) (places l n column ++ (n ∷ [])) (ap (λ (m : ℕ). places l m column) (sym (add-one n)) ∙ hit column l n e)
          (All-push Own (places l n column) n so (omega (arith, w), row-peer n (omega (arith, w)) ∙ ap (peer_at s) e))

      owned-miss : (get_or column n 0 ≡ l → ⊥) → All Own (places l (suc n) column)
      owned-miss f = All-same Own (places l (suc n) column) (places l n column) (ap (λ (m : ℕ). places l m column) (sym (add-one n)) ∙ miss column l n f) so

      owned-next : (get_or column n 0 ≡ l) ⊎ ((get_or column n 0 < l) ⊎ (l < get_or column n 0)) → All Own (places l (suc n) column)
      owned-next (inl e) = owned-hit e
      owned-next (inr (inl h)) = owned-miss (λ e. omega (arith, e, h))
      owned-next (inr (inr h)) = owned-miss (λ e. omega (arith, e, h))

    owned : (n : ℕ) → n ≤ length ns → All Own (places l n column)
    owned zero w = All-same Own (places l 0 column) [] (places_none column l) (All-nil Own)
    owned (suc n) w = owned-next n w (owned n (omega (arith, w))) (cases_order (get_or column n 0) l)

    module _ (rows starts : List ℕ) (g : Grouped column rows starts) (few : length s.links ≤ 32) where
      part-owned : All Own (part rows starts l)
      part-owned = All-same Own (part rows starts l) (places l (length column) column) (g.each l (omega (arith, low, few))) (owned (length column) (omega (arith, column-long)))

      pub mine : Mine s ns l (part rows starts l)
      mine = record {
        among = All-weaker Own (λ i. i < length ns) (λ i q. q.0) (part rows starts l) part-owned;
        mine = ap (ihaves_at ns) (g.each l (omega (arith, low, few))) ∙ placed (length column) (omega (arith, column-long)) ∙ ap (queued_for (peer_at s l)) (take_all (length column) ns (omega (arith, column-long)));
      }

      pub own-peer : All (λ i. (note_at ns i).peer ≡ peer_at s l) (part rows starts l)
      own-peer = All-weaker Own (λ i. (note_at ns i).peer ≡ peer_at s l) (λ i q. q.1) (part rows starts l) part-owned
