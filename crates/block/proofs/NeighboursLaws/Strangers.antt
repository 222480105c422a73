-- A peer that is no neighbour has left no trace: nothing changes when it goes.
-- Assumes nothing.
use Rattle.block.proofs.Words.{◌≡◌, refl, sym, ap, ◌∙◌, Bool, true, false, not, ◌&&◌, List, [], ◌∷◌, map, ℕ, eqb-true, eqb, if◌then◌else◌, is_empty, all, once, ascending, Map, Entry, entry, keys, remove, cases, true≢, and_left, and_right, all_head, all_tail, all-imp, all_map, filter-all, Timed, Links, is_neighbour, State, Note, Hop, Grafts}
use borrow.Author.Tests.{not-true}
use Rattle.protocol.specs.Links.{link_down}
use Rattle.protocol.specs.Push.{for_peer}
use Rattle.protocol.specs.Whole.{neighbours, announcers_whole, grafts_whole}
use Rattle.protocol.specs.Neighbours.{without_announcer, forget_announcer, without_notes, without_graft, forget_grafted, forget_peer}
use Rattle.protocol.specs.Consistent.{by_neighbour, CoreOf}
use Rattle.block.proofs.NeighboursLaws.LoweredRefs.{remove-filter}

module _ (p : ℕ) (l : Links) (away : is_neighbour p l ≡ false) where
  other : (q : ℕ) → is_neighbour q l ≡ true → not (eqb q p) ≡ true
  other q h = cases (eqb q p) (λ e. true≢ (sym away ∙ ap (λ (n : ℕ). is_neighbour n l) (sym (eqb-true q p e)) ∙ h)) (λ e. ap not e)

  notes-stay : (ns : List Note) → all (by_neighbour l) ns ≡ true → without_notes p ns ≡ ns
  unfolding without_notes
  notes-stay ns a = filter-all (λ n. not (for_peer p n)) ns (all-imp (by_neighbour l) (λ n. not (for_peer p n)) (λ n. other n.peer) ns a)

  hops-stay : (hs : List Hop) → neighbours l (map (λ h. h.peer) hs) ≡ true → without_announcer p hs ≡ hs
  unfolding without_announcer neighbours
  hops-stay hs a =
      filter-all (λ h. not (eqb h.peer p)) hs
      (all-imp (λ h. is_neighbour h.peer l) (λ h. not (eqb h.peer p)) (λ h. other h.peer) hs (sym (all_map (λ q. is_neighbour q l) (λ h. h.peer) hs) ∙ a))

  announcers-last : (e : Entry (List Hop)) → announcers_whole l e ≡ true → neighbours l (map (λ h. h.peer) e.value) ≡ true
  unfolding announcers_whole
  announcers-last e h = and_right (not (is_empty e.value) && once (map (λ h. h.peer) e.value)) (neighbours l (map (λ h. h.peer) e.value)) h

  announcers-first : (e : Entry (List Hop)) → announcers_whole l e ≡ true → is_empty e.value ≡ false
  unfolding announcers_whole
  announcers-first e h =
      not-true (is_empty e.value) (and_left (not (is_empty e.value)) (once (map (λ h. h.peer) e.value))
      (and_left (not (is_empty e.value) && once (map (λ h. h.peer) e.value)) (neighbours l (map (λ h. h.peer) e.value)) h))

  missing-step : (e : Entry (List Hop)) (m n : Map (List Hop)) (hs : List Hop) (x : Bool) → x ≡ false → hs ≡ e.value → m ≡ n → (if x then m else entry e.key hs ∷ m) ≡ e ∷ n
  missing-step e m n hs true h q f = true≢ (sym h)
  missing-step e m n hs false h q f = λ k. entry e.key (q k) ∷ f k

  missing-stay : (m : Map (List Hop)) → all (announcers_whole l) m ≡ true → forget_announcer p m ≡ m
  unfolding forget_announcer
  missing-stay [] a = refl
  missing-stay (e ∷ m) a =
      let q : without_announcer p e.value ≡ e.value = hops-stay e.value (announcers-last e (all_head (announcers_whole l) e m a)) in
      let x : is_empty (without_announcer p e.value) ≡ false = ap is_empty q ∙ announcers-first e (all_head (announcers_whole l) e m a) in
      missing-step e (forget_announcer p m) m (without_announcer p e.value) (is_empty (without_announcer p e.value)) x q (missing-stay m (all_tail (announcers_whole l) e m a))

  grafts-last : (e : Entry (Timed Grafts)) → grafts_whole l e ≡ true → neighbours l (keys e.value.value.peers) ≡ true
  unfolding grafts_whole
  grafts-last e h = and_right (ascending (keys e.value.value.peers)) (neighbours l (keys e.value.value.peers)) h

  rounds-stay : (m : Map ℕ) → neighbours l (keys m) ≡ true → remove p m ≡ m
  unfolding neighbours
  rounds-stay m a =
      remove-filter p m
      ∙ filter-all (λ (e : Entry ℕ). not (eqb e.key p)) m
      (all-imp (λ (e : Entry ℕ). is_neighbour e.key l) (λ (e : Entry ℕ). not (eqb e.key p)) (λ e. other e.key) m (sym (all_map (λ q. is_neighbour q l) (λ (e : Entry ℕ). e.key) m) ∙ a))

  grafts-stay : (m : Map (Timed Grafts)) → all (grafts_whole l) m ≡ true → map (without_graft p) m ≡ m
  unfolding without_graft
  grafts-stay [] a = refl
  grafts-stay (e ∷ m) a =
      let q : remove p e.value.value.peers ≡ e.value.value.peers = rounds-stay e.value.value.peers (grafts-last e (all_head (grafts_whole l) e m a)) in
      λ k. entry e.key (record { expires = e.value.expires; value = record { first = e.value.value.first; kept = e.value.value.kept; peers = q k } }) ∷ grafts-stay m (all_tail (grafts_whole l) e m a) k

pub stranger : (p : ℕ) (s : State) → is_neighbour p s.links ≡ false → remove p s.links ≡ s.links → CoreOf s → forget_peer p s ≡ s
unfolding forget_peer forget_grafted link_down
stranger p s away out c = λ k. record {
  settings = s.settings;
  limits = s.limits;
  links = out k;
  queue = notes-stay p s.links away s.queue c.queued k;
  dropped = notes-stay p s.links away s.dropped c.recorded k;
  missing = missing-stay p s.links away s.missing c.announcing k;
  received = s.received;
  grafted = record { entries = grafts-stay p s.links away s.grafted.entries c.grafting k; expiry = s.grafted.expiry };
  cache = s.cache;
  timers = s.timers;
  init = s.init;
}
