-- The grafted peers of a message: in order, neighbours, and no more than the links.
-- Assumes nothing.
use Rattle.block.proofs.Words.{None, ◌≡◌, refl, sym, ap, ◌∙◌, Bool, true, false, not, ◌&&◌, List, [], ◌∷◌, ℕ, ◌≤◌, ◌<◌, arith, ltb-true, ne_eqb, leb, ltb, length, get_or, get_or-map, all, Map, Entry, entry, keys, insert, has, and_left, and_right, and_intro, all_head, all_tail, all_map, Ascending, Between, Timed, up_of, Mark, is_neighbour, State, Grafts}
use lib.ListN.{length-map}
use Rattle.storage.specs.Lists.Base.{any, member, once, ascending}
use Rattle.storage.proofs.ListsLaws.Places.{all-at}
use Rattle.protocol.specs.Gossips.{graft_out}
use Rattle.protocol.specs.Whole.{grafts_whole}
use Rattle.protocol.proofs.ConsistentTables.{Grafted, to-grafted, grafted-insert}
use Rattle.block.specs.LinkSteps.{peer_at}
use Rattle.block.proofs.LinkLaws.{neighbour-here}
use Rattle.block.proofs.Few.{once-few}
use Rattle.block.proofs.AnnounceLaws.{insert-long}
use Rattle.block.specs.Caches.GraftSteps.{grafted_at, grafts_at, Grafting}

-- numbers that ascend stand once
above-out : (x : ℕ) (xs : List ℕ) → all (ltb x) xs ≡ true → member x xs ≡ false
unfolding member
above-out x [] h = refl
above-out x (y ∷ ys) h = rw (ne_eqb x y (λ e. omega (arith, ltb-true x y (all_head (ltb x) y ys h)))) (above-out x ys (all_tail (ltb x) y ys h))

ascending-once : (ks : List ℕ) → ascending ks ≡ true → once ks ≡ true
unfolding ascending once
ascending-once [] h = refl
ascending-once (x ∷ xs) h =
    and_intro (ap not (above-out x xs (and_left (all (ltb x) xs) (ascending xs) h))) (ascending-once xs (and_right (all (ltb x) xs) (ascending xs) h))

-- the peer of a link is a neighbour
pub link_near : (s : State) (link : ℕ) → Grafting s → link < length s.links → is_neighbour (peer_at s link) s.links ≡ true
link_near s link g q =
    neighbour-here (peer_at s link) link s.links (up_of (keys s.links) g.links_up) (record { within = omega (arith, length-map s.links (λ (e : Entry Mark). e.key)); same = refl })

module _ (s : State) (g : Grafting s) (i : ℕ) (q : i < length s.grafted.entries) where
  abbrev peers : Map ℕ
  peers = (grafts_at s i).peers

  grafts-whole : Grafted s.links peers
  grafts-whole =
      let d : Entry (Timed Grafts) = entry 0 (record { expires = 0; value = record { first = None; kept = None; peers = [] } }) in
      to-grafted s.links (grafted_at s i) (all-at (grafts_whole s.links) d s.grafted.entries g.whole i q)

  pub peers-ascend : ascending (keys peers) ≡ true
  peers-ascend = grafts-whole.up

  pub peers-up : Ascending (keys peers)
  peers-up = up_of (keys peers) peers-ascend

  pub key-at : (j : ℕ) → get_or (keys peers) j 0 ≡ (get_or peers j (entry 0 0)).key
  key-at j = get_or-map (λ (e : Entry ℕ). e.key) peers j (entry 0 0)

  -- a peer of a link that is not among them finds room
  pub peers-few : (link j : ℕ) → length s.links ≤ 32 → link < length s.links → Between (keys peers) (peer_at s link) j → length peers < 32
  peers-few link j few ql b =
      let p : ℕ = peer_at s link in
      let m : Map ℕ = insert p 0 peers in
      let w : Grafted s.links m = grafted-insert s.links p 0 peers (link_near s link g ql) grafts-whole in
      let most : length (keys m) ≤ length s.links = once-few s.links (keys m) (ascending-once (keys m) w.up) (all_map (λ n. has n s.links) (λ (e : Entry ℕ). e.key) m ∙ w.near) in
      omega (arith, most, length-map m (λ (e : Entry ℕ). e.key), insert-long p j 0 0 peers peers-up b)

-- a graft is out
pub out-away : (sender round : ℕ) (m : Map ℕ) (t : Bool) → any (λ e. leb e.value round) m ≡ true → t ≡ has sender m → not t ≡ graft_out sender round m
unfolding graft_out
out-away sender round m t w e = ap not e ∙ ap (λ (b : Bool). b && not (has sender m)) (sym w)

pub out_none : (sender round : ℕ) (m : Map ℕ) → any (λ e. leb e.value round) m ≡ false → false ≡ graft_out sender round m
unfolding graft_out
out_none sender round m w = ap (λ (b : Bool). b && not (has sender m)) (sym w)

pub out-empty : (sender round : ℕ) → false ≡ graft_out sender round []
unfolding graft_out any
out-empty sender round = refl
