-- The peers for whom something is queued are among the links: noting link by link is noting peer by peer.
-- Assumes nothing.
use Rattle.announcements.proofs.Words.{◌≡◌, refl, sym, ap, ◌∙◌, Bool, true, false, ◌||◌, List, [], ◌∷◌, ◌++◌, map, ℕ, ◌<◌, arith, ltb-true, eqb-true, eq-eqb, ne_eqb, ltb, eqb, eqb-false, all, keys, cases, true≢, and_left, and_right, all_head, all_tail, or_left, or_right, Ihave, Links, is_neighbour, Note, Batch, add_notes, Piece, peer_pieces, has-member}
use Rattle.storage.specs.Lists.Base.{filter, member, ascending}
use Rattle.storage.specs.Lists.Map.{insert_key}
use Rattle.protocol.specs.Ticks.{queued_for, queued_peers}
use Rattle.protocol.specs.Consistent.{by_neighbour}
use Rattle.protocol.proofs.ConsistentTables.{queued-near}
use Rattle.decide.specs.RecordGrowth.{add_batches}
use Rattle.decide.specs.Pieces.{pieces}
use Rattle.announcements.proofs.OnDispatchLaws.QueueLaws.{notes-none}

-- members

member-lt : (k x : ℕ) (xs : List ℕ) → all (ltb k) xs ≡ true → member x xs ≡ true → k < x
unfolding member
member-lt k x [] a m = true≢ m
member-lt k x (y ∷ ys) a m =
    cases (eqb x y)
    (λ e. omega (arith, eqb-true x y e, ltb-true k y (all_head (ltb k) y ys a)))
    (λ e. member-lt k x ys (all_tail (ltb k) y ys a) (rw e at m))

member-here : (k : ℕ) (ks : List ℕ) → member k (k ∷ ks) ≡ true
unfolding member
member-here k ks = rw (eq-eqb k k refl) refl

member-later : (x k : ℕ) (ks : List ℕ) → member x ks ≡ true → member x (k ∷ ks) ≡ true
unfolding member
member-later x k ks m = cases (eqb x k) (λ e. rw e refl) (λ e. rw e m)

member-tail : (x k : ℕ) (ks : List ℕ) → member x (k ∷ ks) ≡ true → (x ≡ k → ⊥) → member x ks ≡ true
unfolding member
member-tail x k ks m n = rw (ne_eqb x k n) at m

member-not : (x k : ℕ) (ks : List ℕ) → (x ≡ k → ⊥) → member x ks ≡ false → member x (k ∷ ks) ≡ false
unfolding member
member-not x k ks n m = rw (ne_eqb x k n) m

all-member : (f : ℕ → Bool) (xs : List ℕ) (x : ℕ) → all f xs ≡ true → member x xs ≡ true → f x ≡ true
unfolding member
all-member f [] x a m = true≢ m
all-member f (y ∷ ys) x a m =
    cases (eqb x y)
    (λ e. ap f (eqb-true x y e) ∙ all_head f y ys a)
    (λ e. all-member f ys x (all_tail f y ys a) (rw e at m))

ascending-above : (k : ℕ) (ks : List ℕ) → ascending (k ∷ ks) ≡ true → all (ltb k) ks ≡ true
unfolding ascending
ascending-above k ks a = and_left (all (ltb k) ks) (ascending ks) a

ascending-rest : (k : ℕ) (ks : List ℕ) → ascending (k ∷ ks) ≡ true → ascending ks ≡ true
unfolding ascending
ascending-rest k ks a = and_right (all (ltb k) ks) (ascending ks) a

-- what is below the first of them is none of them
above : (k q : ℕ) (qs : List ℕ) → ascending (q ∷ qs) ≡ true → k < q → (x : ℕ) → member x (q ∷ qs) ≡ true → x ≡ k → ⊥
above k q qs b l x m z =
    cases (eqb x q)
    (λ e. omega (arith, eqb-true x q e))
    (λ e. omega (arith, member-lt q x qs (ascending-above q qs b) (member-tail x q qs m (eqb-false x q e))))

outside : (k q : ℕ) (qs : List ℕ) → ascending (q ∷ qs) ≡ true → k < q → member k (q ∷ qs) ≡ false
outside k q qs b l = cases (member k (q ∷ qs)) (λ e. absurd (above k q qs b l k e refl)) (λ e. e)

-- batches of more peers, where those of the others are empty

module _ (c : ℕ → Bool) (batch : ℕ → List Ihave) where
  abbrev pub batch_for : ℕ → Batch
  batch_for p = record { peer = p; ihaves = batch p }

  skip-empty : (k : ℕ) (bs : List Batch) (ds : List Note) → batch k ≡ [] → add_batches c (batch_for k ∷ bs) ds ≡ add_batches c bs ds
  unfolding add_batches
  skip-empty k bs ds e = ap (add_batches c bs) (ap (λ (hs : List Ihave). add_notes c k hs ds) e ∙ notes-none c k ds)

  first-batch : (k : ℕ) (bs : List Batch) (ds : List Note) → add_batches c (batch_for k ∷ bs) ds ≡ add_batches c bs (add_notes c k (batch k) ds)
  unfolding add_batches
  first-batch k bs ds = refl

  pub batches-among : (ks qs : List ℕ) → ascending ks ≡ true → ascending qs ≡ true → ((x : ℕ) → member x qs ≡ true → member x ks ≡ true)
      → ((x : ℕ) → member x ks ≡ true → member x qs ≡ false → batch x ≡ []) → (ds : List Note) → add_batches c (map batch_for ks) ds ≡ add_batches c (map batch_for qs) ds
  batches-among [] [] a b within away ds = refl
  batches-among [] (q ∷ qs) a b within away ds = true≢ (unfold member in (within q (member-here q qs)))
  batches-among (k ∷ ks) [] a b within away ds =
      skip-empty k (map batch_for ks) ds (away k (member-here k ks) (unfold member in refl))
      ∙ batches-among ks [] (ascending-rest k ks a) b (λ x m. true≢ (unfold member in m)) (λ x m n. away x (member-later x k ks m) n) ds
  batches-among (k ∷ ks) (q ∷ qs) a b within away ds =
      cases (eqb k q)
      (λ e.
      let s : k ≡ q = eqb-true k q e in
      first-batch k (map batch_for ks) ds
      ∙ batches-among ks qs (ascending-rest k ks a) (ascending-rest q qs b)
      (λ x m. member-tail x k ks (within x (member-later x q qs m)) (λ z. omega (arith, member-lt q x qs (ascending-above q qs b) m)))
      (λ x m n. away x (member-later x k ks m) (member-not x q qs (λ z. omega (arith, member-lt k x ks (ascending-above k ks a) m)) n))
      (add_notes c k (batch k) ds)
      ∙ ap (λ (x : ℕ). add_batches c (map batch_for qs) (add_notes c x (batch x) ds)) s
      ∙ sym (first-batch q (map batch_for qs) ds))
      (λ e.
      let n : k ≡ q → ⊥ = eqb-false k q e in
      let l : k < q = member-lt k q ks (ascending-above k ks a) (member-tail q k ks (within q (member-here q qs)) (λ z. n (sym z))) in
      skip-empty k (map batch_for ks) ds (away k (member-here k ks) (outside k q qs b l))
      ∙ batches-among ks (q ∷ qs) (ascending-rest k ks a) b
      (λ x m. member-tail x k ks (within x m) (λ z. above k q qs b l x m z))
      (λ x m w. away x (member-later x k ks m) w)
      ds)

-- the IHaves to more peers, where there are none to the others

module _ (k : ℕ) (ns : List Note) where
  skip-pieces : (p : ℕ) (ps : List ℕ) → peer_pieces k ns p ≡ [] → pieces (p ∷ ps) k ns ≡ pieces ps k ns
  unfolding pieces
  skip-pieces p ps e = ap (λ (xs : List Piece). xs ++ pieces ps k ns) e

  first_pieces : (p : ℕ) (ps : List ℕ) → pieces (p ∷ ps) k ns ≡ peer_pieces k ns p ++ pieces ps k ns
  unfolding pieces
  first_pieces p ps = refl

  pub pieces-among : (ks qs : List ℕ) → ascending ks ≡ true → ascending qs ≡ true → ((x : ℕ) → member x qs ≡ true → member x ks ≡ true)
      → ((x : ℕ) → member x ks ≡ true → member x qs ≡ false → peer_pieces k ns x ≡ []) → pieces ks k ns ≡ pieces qs k ns
  pieces-among [] [] a b within away = refl
  pieces-among [] (q ∷ qs) a b within away = true≢ (unfold member in (within q (member-here q qs)))
  pieces-among (j ∷ ks) [] a b within away =
      skip-pieces j ks (away j (member-here j ks) (unfold member in refl))
      ∙ pieces-among ks [] (ascending-rest j ks a) b (λ x m. true≢ (unfold member in m)) (λ x m n. away x (member-later x j ks m) n)
  pieces-among (j ∷ ks) (q ∷ qs) a b within away =
      cases (eqb j q)
      (λ e.
      let s : j ≡ q = eqb-true j q e in
      first_pieces j ks
      ∙ ap (λ (xs : List Piece). peer_pieces k ns j ++ xs) (pieces-among ks qs (ascending-rest j ks a) (ascending-rest q qs b)
      (λ x m. member-tail x j ks (within x (member-later x q qs m)) (λ z. omega (arith, member-lt q x qs (ascending-above q qs b) m)))
      (λ x m n. away x (member-later x j ks m) (member-not x q qs (λ z. omega (arith, member-lt j x ks (ascending-above j ks a) m)) n)))
      ∙ ap (λ (x : ℕ). peer_pieces k ns x ++ pieces qs k ns) s
      ∙ sym (first_pieces q qs))
      (λ e.
      let n : j ≡ q → ⊥ = eqb-false j q e in
      let l : j < q = member-lt j q ks (ascending-above j ks a) (member-tail q j ks (within q (member-here q qs)) (λ z. n (sym z))) in
      skip-pieces j ks (away j (member-here j ks) (outside j q qs b l))
      ∙ pieces-among ks (q ∷ qs) (ascending-rest j ks a) b
      (λ x m. member-tail x j ks (within x m) (λ z. above j q qs b l x m z))
      (λ x m w. away x (member-later x j ks m) w))

-- who has nothing queued

member-insert_key : (j k : ℕ) (xs : List ℕ) → (eqb j k || member j xs) ≡ true → member j (insert_key k xs) ≡ true
unfolding member insert_key
member-insert_key j k [] h = cases (eqb j k) (λ e. rw e refl) (λ e. true≢ (rw e at h))
member-insert_key j k (x ∷ xs) h =
    cases (ltb k x) (λ l. rw l (cases (eqb j k) (λ e. rw e refl) (λ e. rw e (rw e at h))))
    (λ l. rw l (cases (eqb k x)
    (λ q. rw q (cases (eqb j k) (λ e. rw (eq-eqb j x (eqb-true j k e ∙ eqb-true k x q)) refl) (λ e. rw e at h)))
    (λ q. rw q (cases (eqb j x) (λ e. rw e refl) (λ e. rw e (member-insert_key j k xs (rw e at h)))))))

pub nothing-queued : (p : ℕ) (ns : List Note) → member p (queued_peers ns) ≡ false → queued_for p ns ≡ []
unfolding queued_for filter
nothing-queued p [] m = refl
nothing-queued p (n ∷ ns) m =
    cases (eqb n.peer p)
    (λ e. true≢ (sym m ∙ unfold queued_peers in (member-insert_key p n.peer (queued_peers ns) (or_left (eqb p n.peer) (member p (queued_peers ns)) (eq-eqb p n.peer (sym (eqb-true n.peer p e)))))))
    (λ e. rw e (unfold queued_for in (nothing-queued p ns (rest (member p (queued_peers ns)) refl))))
  where
    rest : (b : Bool) → member p (queued_peers ns) ≡ b → b ≡ false
    rest true e = true≢ (sym m ∙ unfold queued_peers in (member-insert_key p n.peer (queued_peers ns) (or_right (eqb p n.peer) (member p (queued_peers ns)) e)))
    rest false e = refl

pub queued-among : (l : Links) (ns : List Note) → all (by_neighbour l) ns ≡ true → (x : ℕ) → member x (queued_peers ns) ≡ true → member x (keys l) ≡ true
queued-among l ns h x m = sym (has-member x l) ∙ all-member (λ p. is_neighbour p l) (queued_peers ns) x (queued-near l ns h) m
