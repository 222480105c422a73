-- How many bytes the actions of a dispatch have: at most 50 for each queued announcement, and a timer.
-- Assumes nothing.
use Rattle.std.proofs.Common.{ℕ, zero, suc, ◌+◌, ◌*◌, ◌≤◌, ◌≡◌, refl, sym, ap, ◌∙◌, Bool, true, false, not, ◌&&◌, ◌||◌, List, [], ◌∷◌, ◌++◌, arith, eqb, leb, ltb, length, take, drop, length-append, take-append-drop, leb-true, le-leb, ltb-true, eqb-true, if◌then◌else◌}
use lib.ListN.{length-map}
use borrow.Author.Tests.{eqb-false}
use Rattle.storage.specs.Lists.Base.{filter, any, all, count, sum, ascending}
use Rattle.storage.proofs.ListsLaws.MapLaws.{cases, true≢, and_left, and_right, and_intro, all_head, all_tail, all_cons}
use Rattle.storage.proofs.ListsLaws.ListLaws.{length-filter}
use Rattle.postcard.specs.Number.{number_length}
use Rattle.postcard.specs.Message.{Ihave, IHave, AnnounceDropped, Sent}
use Rattle.postcard.proofs.Lengths.{number-few}
use Rattle.protocol.specs.State.{State, Note}
use Rattle.protocol.specs.Run.{Room}
use Rattle.protocol.specs.Push.{for_peer}
use Rattle.protocol.specs.Ticks.{per_message, chunks, queued_for, queued_peers}
use Rattle.protocol.proofs.ConsistentTables.{ascending-insert_key}
use Rattle.decide.specs.Lengths.{message_length, timer_length, action_length}
use Rattle.decide.specs.RecordGrowth.{cached_in}
use Rattle.decide.specs.Pieces.{Piece, numbered, peer_pieces, pieces, piece_taken, piece_actions}
use Rattle.decide.specs.ActionsAfter.{dispatch_actions}
use Rattle.output_size.proofs.Weights.{number-one, round-few, weight, sent-weight, tick-weight}

-- the round is a 16-bit number
abbrev pub short : Ihave → Bool
short h = leb h.round 65535

abbrev pub short_note : Note → Bool
short_note n = leb n.round 65535

-- not empty, with such rounds
unfoldable good : List Ihave → Bool
good hs = leb 1 (length hs) && all short hs

short-sum : (hs : List Ihave) → all short hs ≡ true → sum (λ h. 32 + number_length h.round) hs ≤ 35 * length hs
unfolding sum
short-sum [] a = omega arith
short-sum (h ∷ hs) a = omega (arith, round-few h.round (leb-true h.round 65535 (all_head short h hs a)), short-sum hs (all_tail short h hs a))

-- an IHave of these takes at most 50 bytes for each
piece-weight : (p : ℕ) (taken : Bool) (hs : List Ihave) → good hs ≡ true → action_length (Sent p taken (IHave hs)) ≤ 50 * length hs
unfolding message_length good
piece-weight p taken hs g =
    let some : 1 ≤ length hs = leb-true 1 (length hs) (and_left (leb 1 (length hs)) (all short hs) g) in
    let s : sum (λ h. 32 + number_length h.round) hs ≤ 35 * length hs = short-sum hs (and_right (leb 1 (length hs)) (all short hs) g) in
    cases (eqb (length hs) 1)
    (λ e. omega (arith, sent-weight p taken (IHave hs), s, eqb-true (length hs) 1 e, number-one (length hs) (omega (arith, eqb-true (length hs) 1 e))))
    (λ e. omega (arith, sent-weight p taken (IHave hs), s, some, eqb-false (length hs) 1 e, number-few (length hs)))

-- the announcements of pieces
abbrev announced : List Piece → ℕ
announced xs = sum (λ x. length x.ihaves) xs

never : (a b : Bool) → (a || true || b) ≡ false → ⊥
never true b e = true≢ (sym e)
never false b e = true≢ (sym e)

pieces-weight : (held : ℕ → Bool) (rooms : List Room) (flag : Bool) (xs : List Piece) → all (λ x. good x.ihaves) xs ≡ true → weight (piece_actions held rooms flag xs) ≤ 50 * announced xs + (if flag then 0 else 12)
unfolding piece_actions sum timer_length
pieces-weight held rooms true [] g = omega arith
pieces-weight held rooms false [] g = omega arith
pieces-weight held rooms true (x ∷ xs) g =
    let a = piece-weight x.peer (piece_taken rooms x) x.ihaves (all_head (λ x. good x.ihaves) x xs g) in
    cases (piece_taken rooms x || true || not (any (λ h. held h.id) x.ihaves))
    (λ c. rw c (omega (arith, a, pieces-weight held rooms true xs (all_tail (λ x. good x.ihaves) x xs g))))
    (λ c. absurd (never (piece_taken rooms x) (not (any (λ h. held h.id) x.ihaves)) c))
pieces-weight held rooms false (x ∷ xs) g =
    let a = piece-weight x.peer (piece_taken rooms x) x.ihaves (all_head (λ x. good x.ihaves) x xs g) in
    cases (piece_taken rooms x || false || not (any (λ h. held h.id) x.ihaves))
    (λ c. rw c (omega (arith, a, pieces-weight held rooms false xs (all_tail (λ x. good x.ihaves) x xs g))))
    (λ c. rw c (omega (arith, a, tick-weight 1000 AnnounceDropped refl, pieces-weight held rooms true xs (all_tail (λ x. good x.ihaves) x xs g))))

-- the pieces of one list

pub all-take : {A : Type 0} (f : A → Bool) (k : ℕ) (xs : List A) → all f xs ≡ true → all f (take k xs) ≡ true
unfolding all
all-take f zero xs h = refl
all-take f (suc k) [] h = refl
all-take f (suc k) (x ∷ xs) h = all_cons f x (take k xs) (all_head f x xs h) (all-take f k xs (all_tail f x xs h))

pub all-drop : {A : Type 0} (f : A → Bool) (k : ℕ) (xs : List A) → all f xs ≡ true → all f (drop k xs) ≡ true
unfolding all
all-drop f zero xs h = h
all-drop f (suc k) [] h = refl
all-drop f (suc k) (x ∷ xs) h = all-drop f k xs (all_tail f x xs h)

chunks-good : (n k : ℕ) (hs : List Ihave) → 1 ≤ k → all short hs ≡ true → all good (chunks n k hs) ≡ true
unfolding chunks good all
chunks-good zero k hs one h = refl
chunks-good (suc n) k [] one h = refl
chunks-good (suc n) zero (x ∷ hs) one h = absurd (omega (arith, one))
chunks-good (suc n) (suc k) (x ∷ hs) one h =
    all_cons good (take (suc k) (x ∷ hs)) (chunks n (suc k) (drop (suc k) (x ∷ hs)))
    (and_intro (le-leb 1 (length (x ∷ take k hs)) (omega arith)) (all-take short (suc k) (x ∷ hs) h))
    (chunks-good n (suc k) (drop (suc k) (x ∷ hs)) one (all-drop short (suc k) (x ∷ hs) h))

chunks-length : (n k : ℕ) (hs : List Ihave) → sum length (chunks n k hs) ≤ length hs
unfolding chunks sum
chunks-length zero k hs = omega arith
chunks-length (suc n) k [] = omega arith
chunks-length (suc n) k (h ∷ hs) =
    omega (arith, chunks-length n k (drop k (h ∷ hs)), length-append (take k (h ∷ hs)) (drop k (h ∷ hs)), ap length (take-append-drop k (h ∷ hs)))

numbered-good : (p k : ℕ) (cs : List (List Ihave)) → all good cs ≡ true → all (λ x. good x.ihaves) (numbered p k cs) ≡ true
unfolding numbered all
numbered-good p k [] h = refl
numbered-good p k (c ∷ cs) h = all_cons (λ x. good x.ihaves) (record { peer = p; nth = k; ihaves = c }) (numbered p (suc k) cs) (all_head good c cs h) (numbered-good p (suc k) cs (all_tail good c cs h))

numbered-length : (p k : ℕ) (cs : List (List Ihave)) → announced (numbered p k cs) ≡ sum length cs
unfolding numbered sum
numbered-length p k [] = refl
numbered-length p k (c ∷ cs) = omega (arith, numbered-length p (suc k) cs)

pub queued-short : (p : ℕ) (ns : List Note) → all short_note ns ≡ true → all short (queued_for p ns) ≡ true
unfolding queued_for filter all
queued-short p [] h = refl
queued-short p (n ∷ ns) h =
    cases (eqb n.peer p)
    (λ e. rw e (all_cons short (record { id = n.id; round = n.round }) (queued_for p ns) (all_head short_note n ns h) (queued-short p ns (all_tail short_note n ns h))))
    (λ e. rw e (queued-short p ns (all_tail short_note n ns h)))

queued-count : (p : ℕ) (ns : List Note) → length (queued_for p ns) ≡ count (for_peer p) ns
unfolding queued_for
queued-count p ns = length-map {B = Ihave} (filter (for_peer p) ns) (λ n. record { id = n.id; round = n.round }) ∙ length-filter (for_peer p) ns

-- all the pieces

pub all-append : {A : Type 0} (f : A → Bool) (xs ys : List A) → all f xs ≡ true → all f ys ≡ true → all f (xs ++ ys) ≡ true
all-append f [] ys h k = k
all-append f (x ∷ xs) ys h k = all_cons f x (xs ++ ys) (all_head f x xs h) (all-append f xs ys (all_tail f x xs h) k)

pieces-good : (ps : List ℕ) (k : ℕ) (ns : List Note) → 1 ≤ k → all short_note ns ≡ true → all (λ x. good x.ihaves) (pieces ps k ns) ≡ true
unfolding pieces peer_pieces all
pieces-good [] k ns one h = refl
pieces-good (p ∷ ps) k ns one h =
    all-append (λ x. good x.ihaves) (numbered p 1 (chunks (length ns) k (queued_for p ns))) (pieces ps k ns)
    (numbered-good p 1 (chunks (length ns) k (queued_for p ns)) (chunks-good (length ns) k (queued_for p ns) one (queued-short p ns h)))
    (pieces-good ps k ns one h)

announced-append : (xs ys : List Piece) → announced (xs ++ ys) ≡ announced xs + announced ys
unfolding sum
announced-append [] ys = omega arith
announced-append (x ∷ xs) ys = omega (arith, announced-append xs ys)

pieces-length : (ps : List ℕ) (k : ℕ) (ns : List Note) → announced (pieces ps k ns) ≤ sum (λ p. count (for_peer p) ns) ps
unfolding pieces peer_pieces sum
pieces-length [] k ns = omega arith
pieces-length (p ∷ ps) k ns =
    omega (
      arith,
      announced-append (numbered p 1 (chunks (length ns) k (queued_for p ns))) (pieces ps k ns),
      numbered-length p 1 (chunks (length ns) k (queued_for p ns)),
      chunks-length (length ns) k (queued_for p ns),
      queued-count p ns,
      pieces-length ps k ns,
    )

-- each queued announcement is of one peer

count-above : (y : ℕ) (xs : List ℕ) → all (ltb y) xs ≡ true → count (eqb y) xs ≡ 0
unfolding count
count-above y [] h = refl
count-above y (x ∷ xs) h =
    cases (eqb y x) (λ e. absurd (omega (arith, ltb-true y x (all_head (ltb y) x xs h), eqb-true y x e)))
    (λ e. rw e (count-above y xs (all_tail (ltb y) x xs h)))

count-once : (y : ℕ) (xs : List ℕ) → ascending xs ≡ true → count (eqb y) xs ≤ 1
unfolding count ascending
count-once y [] h = omega arith
count-once y (x ∷ xs) h =
    cases (eqb y x)
    (λ e. let z : count (eqb y) xs ≡ 0 = count-above y xs (rw (eqb-true y x e) (and_left (all (ltb x) xs) (ascending xs) h)) in rw e (omega (arith, z)))
    (λ e. rw e (count-once y xs (and_right (all (ltb x) xs) (ascending xs) h)))

one-more : (n : Note) (ns : List Note) (ps : List ℕ) → sum (λ p. count (for_peer p) (n ∷ ns)) ps ≡ count (eqb n.peer) ps + sum (λ p. count (for_peer p) ns) ps
unfolding sum count
one-more n ns [] = refl
one-more n ns (p ∷ ps) = cases (eqb n.peer p) (λ e. rw e (omega (arith, one-more n ns ps))) (λ e. rw e (omega (arith, one-more n ns ps)))

none-more : (ps : List ℕ) → sum (λ p. count (for_peer p) []) ps ≡ 0
unfolding sum count
none-more [] = refl
none-more (p ∷ ps) = omega (arith, none-more ps)

each-once : (ns : List Note) (ps : List ℕ) → ascending ps ≡ true → sum (λ p. count (for_peer p) ns) ps ≤ length ns
each-once [] ps h = omega (arith, none-more ps)
each-once (n ∷ ns) ps h = omega (arith, one-more n ns ps, count-once n.peer ps h, each-once ns ps h)

queued-ascending : (ns : List Note) → ascending (queued_peers ns) ≡ true
unfolding queued_peers
queued-ascending [] = unfold ascending in refl
queued-ascending (n ∷ ns) = ascending-insert_key n.peer (queued_peers ns) (queued-ascending ns)

pub dispatch-weight : (rooms : List Room) (s : State) → 1 ≤ per_message s.settings.max_message_size → all short_note s.queue ≡ true → weight (dispatch_actions rooms s) ≤ 50 * length s.queue + 12
unfolding dispatch_actions
dispatch-weight rooms s one h =
    let k : ℕ = per_message s.settings.max_message_size in
    let xs : List Piece = pieces (queued_peers s.queue) k s.queue in
    omega (arith, up s.timers.announce, pieces-weight (cached_in s.cache) rooms s.timers.announce xs (pieces-good (queued_peers s.queue) k s.queue one h), pieces-length (queued_peers s.queue) k s.queue, each-once s.queue (queued_peers s.queue) (queued-ascending s.queue))
  where
    up : (b : Bool) → (if b then 0 else 12) ≤ 12
    up true = omega arith
    up false = omega arith
