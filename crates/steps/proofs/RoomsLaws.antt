-- The link room of a peer, out of the numbers that a call brings.
use Rattle.steps.proofs.Words.{None, ℕ, zero, suc, ◌≤◌, ◌<◌, not-suc-le-zero, arith, ◌≡◌, refl, sym, ap, ◌∙◌, true, false, List, [], ◌∷◌, ◌++◌, leb, ltb, eqb, length, get_or, ltb-true, ltb-false, eq-eqb, ne_eqb, le-leb, all, Map, keys, has, cases, true≢, and_left, and_right, all_head, all_tail, is_neighbour, State, peer_at}
use lib.ListN.{length-map}
use Rattle.storage.specs.Lists.Base.{ascending, member}
use Rattle.storage.specs.Lists.Map.{lookup}
use Rattle.protocol.specs.Run.{Room}
use Rattle.decide.specs.Rooms.{kth_taken, first_room, room_for}
use Rattle.decide.proofs.Decide.{kth-room}
use Rattle.steps.specs.declared.call.Rooms.{Rooms}
use Rattle.steps.specs.Rooms.{room_at, room_entry, room_entries, stranger_entry, rooms_in}

-- links with the same peers stand for the same link room
pub same-rooms-in : (s t : State) (peer : ℕ) (rooms : Rooms) → keys s.links ≡ keys t.links → rooms_in s peer rooms ≡ rooms_in t peer rooms
unfolding rooms_in
same-rooms-in s t peer rooms e = rw e refl

-- a key is there where it is one of the keys
pub has-member : {A : Type 0} (k : ℕ) (m : Map A) → has k m ≡ member k (keys m)
unfolding lookup member
has-member k [] = refl
has-member k (e ∷ m) = cases (eqb k e.key) (λ p. rw p refl) (λ p. rw p (has-member k m))

-- what is below all is none of them
member-above : (p : ℕ) (ps : List ℕ) → all (ltb p) ps ≡ true → member p ps ≡ false
unfolding member
member-above p [] a = refl
member-above p (x ∷ xs) a =
    rw (ne_eqb p x (λ q. omega (arith, ltb-true p x (all_head (ltb p) x xs a)))) (member-above p xs (all_tail (ltb p) x xs a))

at_above : (p i : ℕ) (ps : List ℕ) → all (ltb p) ps ≡ true → i < length ps → p < get_or ps i 0
at_above p i [] a h = absurd (not-suc-le-zero h)
at_above p zero (x ∷ xs) a h = ltb-true p x (all_head (ltb p) x xs a)
at_above p (suc i) (x ∷ xs) a h = at_above p i xs (all_tail (ltb p) x xs a) (omega arith)

-- each of them is one of them
pub member-at : (i : ℕ) (ps : List ℕ) → i < length ps → member (get_or ps i 0) ps ≡ true
unfolding member
member-at i [] h = absurd (not-suc-le-zero h)
member-at zero (x ∷ xs) h = rw (eq-eqb x x refl) refl
member-at (suc i) (x ∷ xs) h = cases (eqb (get_or xs i 0) x) (λ p. rw p refl) (λ p. rw p (member-at i xs (omega arith)))

-- of a peer with no link, the entries of the links say nothing
first-skip : (p : ℕ) (ps ns : List ℕ) (more : List Room) → member p ps ≡ false → first_room p (room_entries ps ns ++ more) ≡ first_room p more
unfolding first_room room_entries room_entry member
first-skip p [] ns more h = refl
first-skip p (x ∷ xs) [] more h = cases (eqb p x) (λ e. true≢ (sym (rw e at h))) (λ e. rw e (first-skip p xs [] more (rw e at h)))
first-skip p (x ∷ xs) (n ∷ ns) more h =
    cases (eqb p x) (λ e. true≢ (sym (rw e at h)))
    (λ e. cases (ltb n 65536) (λ q. rw q (rw e (first-skip p xs ns more (rw e at h)))) (λ q. rw q (first-skip p xs ns more (rw e at h))))

-- of a peer with a link, the number beside it
first_entry : (i : ℕ) (ps ns : List ℕ) (more : List Room) → ascending ps ≡ true → i < length ps → first_room (get_or ps i 0) more ≡ None
    → first_room (get_or ps i 0) (room_entries ps ns ++ more) ≡ room_at (get_or ns i 0)
unfolding first_room room_entries room_entry ascending room_at
first_entry i [] ns more a h m = absurd (not-suc-le-zero h)
first_entry zero (x ∷ xs) [] more a h m = rw (eq-eqb x x refl) refl
first_entry (suc i) (x ∷ xs) [] more a h m =
    let b : i < length xs = omega arith in
    let d : x < get_or xs i 0 = at_above x i xs (and_left (all (ltb x) xs) (ascending xs) a) b in
    let e : eqb (get_or xs i 0) x ≡ false = ne_eqb (get_or xs i 0) x (λ q. omega arith) in
    rw e (first_entry i xs [] more (and_right (all (ltb x) xs) (ascending xs) a) b m)
first_entry zero (x ∷ xs) (n ∷ ns) more a h m =
    cases (ltb n 65536) (λ q. rw q (rw (eq-eqb x x refl) refl))
    (λ q. rw q (first-skip x xs ns more (member-above x xs (and_left (all (ltb x) xs) (ascending xs) a)) ∙ m))
first_entry (suc i) (x ∷ xs) (n ∷ ns) more a h m =
    let b : i < length xs = omega arith in
    let d : x < get_or xs i 0 = at_above x i xs (and_left (all (ltb x) xs) (ascending xs) a) b in
    let e : eqb (get_or xs i 0) x ≡ false = ne_eqb (get_or xs i 0) x (λ q. omega arith) in
    let r = first_entry i xs ns more (and_right (all (ltb x) xs) (ascending xs) a) b m in
    cases (ltb n 65536) (λ q. rw q (rw e r)) (λ q. rw q r)

-- of a peer with a link, the entry of the event's peer says nothing
first-stranger-other : (p : ℕ) (ps : List ℕ) (peer n : ℕ) → member p ps ≡ true → first_room p (stranger_entry ps peer n) ≡ None
unfolding first_room stranger_entry room_entry
first-stranger-other p ps peer n h =
    cases (member peer ps) (λ q. rw q refl)
    (λ q. rw q (cases (ltb n 65536)
    (λ r. rw r (rw (ne_eqb p peer (λ e. true≢ (sym q ∙ ap (λ (x : ℕ). member x ps) (sym e) ∙ h))) refl))
    (λ r. rw r refl)))

first-stranger-same : (ps : List ℕ) (peer n : ℕ) → member peer ps ≡ false → first_room peer (stranger_entry ps peer n) ≡ room_at n
unfolding first_room stranger_entry room_entry room_at
first-stranger-same ps peer n h = rw h (cases (ltb n 65536) (λ r. rw r (rw (eq-eqb peer peer refl) refl)) (λ r. rw r refl))

-- a number as a bound for the k-th send
room-for : (k n : ℕ) → k ≤ 65536 → room_for k (room_at n) ≡ leb k n
unfolding room_for room_at
room-for k n h = cases (ltb n 65536) (λ q. rw q refl) (λ q. rw q (sym (le-leb k n (omega (arith, ltb-false n 65536 q)))))

module _ (s : State) (peer : ℕ) (rooms : Rooms) where
  -- the room of link i
  pub first-link : (i : ℕ) → ascending (keys s.links) ≡ true → i < length s.links → first_room (peer_at s i) (rooms_in s peer rooms) ≡ room_at (get_or rooms.links i 0)
  unfolding rooms_in
  first-link i a h =
      let b : i < length (keys s.links) = omega (arith, length-map s.links (λ e. e.key)) in
      first_entry i (keys s.links) rooms.links (stranger_entry (keys s.links) peer rooms.stranger) a b
      (first-stranger-other (peer_at s i) (keys s.links) peer rooms.stranger (member-at i (keys s.links) b))

  -- "the k-th send of a call to a peer is taken when k ≤ room", of link i
  pub kth-link : (k i : ℕ) → ascending (keys s.links) ≡ true → i < length s.links → k ≤ 65536 → kth_taken k (peer_at s i) (rooms_in s peer rooms) ≡ leb k (get_or rooms.links i 0)
  kth-link k i a h f = kth-room k (peer_at s i) (rooms_in s peer rooms) ∙ ap (room_for k) (first-link i a h) ∙ room-for k (get_or rooms.links i 0) f

  -- the room of the event's peer, where it has no link
  pub first-stranger : is_neighbour peer s.links ≡ false → first_room peer (rooms_in s peer rooms) ≡ room_at rooms.stranger
  unfolding rooms_in
  first-stranger n =
      let q : member peer (keys s.links) ≡ false = sym (has-member peer s.links) ∙ n in
      first-skip peer (keys s.links) rooms.links (stranger_entry (keys s.links) peer rooms.stranger) q
      ∙ first-stranger-same (keys s.links) peer rooms.stranger q

  pub kth-stranger : (k : ℕ) → is_neighbour peer s.links ≡ false → k ≤ 65536 → kth_taken k peer (rooms_in s peer rooms) ≡ leb k rooms.stranger
  kth-stranger k n f = kth-room k peer (rooms_in s peer rooms) ∙ ap (room_for k) (first-stranger n) ∙ room-for k rooms.stranger f
