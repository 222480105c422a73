-- The targets of an eager push, link by link, and those of them that hand it back.
-- Assumes nothing.
use Rattle.payloads.proofs.Words.{◌≡◌, refl, sym, ap, ◌∙◌, Bool, true, false, not, ◌&&◌, List, [], ◌∷◌, ◌++◌, append-nil, ℕ, suc, ◌+◌, ◌≤◌, ◌<◌, arith, add-one, ne_eqb, eqb, leb, length, map, take, get_or, take-suc, take_all, All, if◌then◌else◌, get_or-map, ascending, Entry, entry, keys, cases, true≢, and_left, and_right, filter-append, Mark, eager, lazy, quiet, Links, is_eager, State, Room, kth_taken, link_at, peer_at, has_link, links_below, links_of, AllBelow, LinkSet, below-start, below-in, below-out, below-of, below-wider, each-below, rooms_of, Call}
use Rattle.std.proofs.Common.{subst}
use Rattle.std.proofs.lemmas.List.{map-append}
use borrow.Author.Tests.{not-true, not-false}
use lib.ListN.{length-map}
use Rattle.storage.specs.Lists.Base.{filter, member}
use Rattle.time_cache.proofs.Orders.{up_of}
use Rattle.protocol.specs.Links.{peers_marked, eager_peers}
use Rattle.protocol.specs.Push.{eager_targets}
use Rattle.decide.specs.Rooms.{back_peers}
use Rattle.block.proofs.Scans.{keys-apart}
use Rattle.payloads.specs.Eager.Targets.{is_target, hands_back}
use Rattle.payloads.specs.EagerPush.Targets.{link_peers, TargetsAre, push_backs}

if-append : {A : Type 0} (t : Bool) (x : A) (xs ys : List A) → (if t then x ∷ (xs ++ ys) else xs ++ ys) ≡ (if t then x ∷ xs else xs) ++ ys
if-append true x xs ys = refl
if-append false x xs ys = refl

marked_append : (f : Mark → Bool) (l m : Links) → peers_marked f (l ++ m) ≡ peers_marked f l ++ peers_marked f m
unfolding peers_marked
marked_append f [] m = refl
marked_append f (e ∷ l) m =
    ap (λ (t : List ℕ). if f e.value then e.key ∷ t else t) (marked_append f l m) ∙ if-append (f e.value) e.key (peers_marked f l) (peers_marked f m)

-- the room of each link is the number that the call brings
pub record Roomed (s : State) (call : Call) : Type 0 where
  pub first : (i : ℕ) → i < length s.links → kth_taken 1 (peer_at s i) (rooms_of call s) ≡ leb 1 (get_or call.rooms.now.links i 0)

-- the targets among some links

abbrev passes : ℕ → ℕ → List ℕ → ℕ → Bool
passes me sender skip p = not (eqb p me) && not (eqb p sender) && not (member p skip)

unfoldable pub targets_in : ℕ → ℕ → List ℕ → Links → List ℕ
targets_in me sender skip l = filter (passes me sender skip) (eager_peers l)

module _ (me sender : ℕ) (skip : List ℕ) where
  pub targets-append : (l m : Links) → targets_in me sender skip (l ++ m) ≡ targets_in me sender skip l ++ targets_in me sender skip m
  unfolding targets_in eager_peers
  targets-append l m =
      ap (filter (passes me sender skip)) (marked_append is_eager l m)
      ∙ filter-append (passes me sender skip) (peers_marked is_eager l) (peers_marked is_eager m)

  targets-one : (e : Entry Mark) → targets_in me sender skip (e ∷ []) ≡ (if is_eager e.value && passes me sender skip e.key then e.key ∷ [] else [])
  unfolding targets_in eager_peers peers_marked filter
  targets-one e = on e.value
    where
      on : (m : Mark) → filter (passes me sender skip) (if is_eager m then e.key ∷ [] else []) ≡ (if is_eager m && passes me sender skip e.key then e.key ∷ [] else [])
      on eager = unfold filter in refl
      on lazy = unfold filter in refl
      on quiet = unfold filter in refl

module _ (sender : ℕ) (skip : List ℕ) (s : State) where
  -- the targets among the first i links
  abbrev pub targets_to : ℕ → List ℕ
  targets_to i = targets_in s.settings.me sender skip (take i s.links)

  targets-none : targets_to 0 ≡ []
  unfolding targets_in eager_peers peers_marked filter
  targets-none = refl

  whole : targets_in s.settings.me sender skip s.links ≡ eager_targets sender skip s
  unfolding targets_in eager_targets
  whole = refl

  targets-all : (i : ℕ) → length s.links ≤ i → targets_to i ≡ eager_targets sender skip s
  targets-all i h = ap (targets_in s.settings.me sender skip) (take_all i s.links h) ∙ whole

  module _ (i : ℕ) (q : i < length s.links) where
    one : targets_in s.settings.me sender skip (link_at s i ∷ []) ≡ (if is_target sender skip s i then peer_at s i ∷ [] else [])
    unfolding is_target
    one =
        targets-one s.settings.me sender skip (link_at s i)
        ∙ ap (λ (p : ℕ). if is_eager (link_at s i).value && passes s.settings.me sender skip p then p ∷ [] else [])
        (sym (get_or-map (λ (e : Entry Mark). e.key) s.links i (entry 0 eager)))

    targets-more : targets_to (i + 1) ≡ targets_to i ++ (if is_target sender skip s i then peer_at s i ∷ [] else [])
    targets-more =
        ap targets_to (add-one i)
        ∙ ap (targets_in s.settings.me sender skip) (take-suc s.links i (entry 0 eager) q)
        ∙ targets-append s.settings.me sender skip (take i s.links) (link_at s i ∷ [])
        ∙ ap (λ (l : List ℕ). targets_to i ++ l) one

-- the peers of a set's links, link by link
module _ (to : LinkSet) (s : State) where
  -- those among the first i links
  abbrev pub first : ℕ → List ℕ
  first i = map (peer_at s) (links_below to i)

  pub first-none : first 0 ≡ []
  first-none = ap (map (peer_at s)) (below-start to)

  pub first-all : (i : ℕ) → i ≡ length s.links → length s.links ≤ 32 → AllBelow to (length s.links) → first i ≡ link_peers to s
  first-all i e q b = ap (map (peer_at s)) (ap (links_below to) e ∙ below-of to (length s.links) b q)

  -- link i is one more, or none
  pub first-in : (i : ℕ) → has_link to i ≡ true → first (i + 1) ≡ first i ++ (peer_at s i ∷ [])
  first-in i e = ap (map (peer_at s)) (below-in to i e) ∙ map-append (peer_at s) (links_below to i) (i ∷ [])

  pub first_out : (i : ℕ) → has_link to i ≡ false → first (i + 1) ≡ first i
  first_out i e = ap (map (peer_at s)) (below-out to i e)

-- the set of the targets, link by link
pub record TargetsSofar (sender : ℕ) (skip : List ℕ) (s : State) (i : ℕ) (to : LinkSet) : Type 0 where
  pub below : AllBelow to i
  pub same : targets_to sender skip s i ≡ link_peers to s

module _ (sender : ℕ) (skip : List ℕ) (s : State) where
  pub sofar-none : (to : LinkSet) → links_of to ≡ [] → AllBelow to 0 → TargetsSofar sender skip s 0 to
  sofar-none to e b = record { below = b; same = targets-none sender skip s ∙ sym (ap (map (peer_at s)) e) }

  pub sofar-all : (i : ℕ) (to : LinkSet) → i ≡ length s.links → TargetsSofar sender skip s i to → TargetsAre sender skip s to
  sofar-all i to e a = record { below = subst (AllBelow to) e a.below; same = sym (targets-all sender skip s i (omega (arith, e))) ∙ a.same }

  module _ (i : ℕ) (q : i < length s.links) (to : LinkSet) (a : TargetsSofar sender skip s i to) (t : Bool) (e : t ≡ is_target sender skip s i) where
    more : targets_to sender skip s (i + 1) ≡ targets_to sender skip s i ++ (if t then peer_at s i ∷ [] else [])
    more = targets-more sender skip s i q ∙ ap (λ (b : Bool). targets_to sender skip s i ++ (if b then peer_at s i ∷ [] else [])) (sym e)

    pub sofar-in : t ≡ true → (next : LinkSet) → links_of next ≡ links_of to ++ (i ∷ []) → AllBelow next (i + 1) → TargetsSofar sender skip s (i + 1) next
    sofar-in y next n b = record {
      below = b;
      same = more ∙ ap (λ (b : Bool). targets_to sender skip s i ++ (if b then peer_at s i ∷ [] else [])) y
          ∙ ap (λ (ps : List ℕ). ps ++ (peer_at s i ∷ [])) a.same
          ∙ sym (ap (map (peer_at s)) n ∙ map-append (peer_at s) (links_of to) (i ∷ []));
    }

    pub sofar-out : t ≡ false → TargetsSofar sender skip s (i + 1) to
    sofar-out n = record {
      below = below-wider to i (i + 1) a.below (omega arith);
      same = more ∙ ap (λ (b : Bool). targets_to sender skip s i ++ (if b then peer_at s i ∷ [] else [])) n ∙ append-nil (targets_to sender skip s i) ∙ a.same;
    }

-- those that hand it back

module _ (rooms : List Room) where
  pub back-append : (ps qs : List ℕ) → back_peers rooms (ps ++ qs) ≡ back_peers rooms ps ++ back_peers rooms qs
  unfolding back_peers
  back-append ps qs = filter-append (λ p. not (kth_taken 1 p rooms)) ps qs

  pub back-held : (p : ℕ) → kth_taken 1 p rooms ≡ false → back_peers rooms (p ∷ []) ≡ p ∷ []
  unfolding back_peers filter
  back-held p e = ap (λ (b : Bool). if not b then p ∷ [] else []) e

  pub back-taken : (p : ℕ) → kth_taken 1 p rooms ≡ true → back_peers rooms (p ∷ []) ≡ []
  unfolding back_peers filter
  back-taken p e = ap (λ (b : Bool). if not b then p ∷ [] else []) e

-- those among the first i links
abbrev pub backs_to : LinkSet → Call → State → ℕ → List ℕ
backs_to to call s i = back_peers (rooms_of call s) (first to s i)

module _ (to : LinkSet) (call : Call) (s : State) where
  abbrev backs : ℕ → List ℕ
  backs i = backs_to to call s i

  pub backs-none : backs 0 ≡ []
  unfolding back_peers filter
  backs-none = ap (back_peers (rooms_of call s)) (first-none to s)

  pub backs-all : (i : ℕ) → i ≡ length s.links → length s.links ≤ 32 → AllBelow to (length s.links) → backs i ≡ push_backs call to s
  backs-all i e q b = ap (back_peers (rooms_of call s)) (first-all to s i e q b)

  -- it is not pushed to
  pub backs-out : (i : ℕ) → has_link to i ≡ false → backs (i + 1) ≡ backs i
  backs-out i e = ap (back_peers (rooms_of call s)) (first_out to s i e)

  module _ (roomed : Roomed s call) (i : ℕ) (q : i < length s.links) where
    -- link i is pushed to, and has no room
    pub backs-held : has_link to i ≡ true → leb 1 (get_or call.rooms.now.links i 0) ≡ false → backs (i + 1) ≡ backs i ++ (peer_at s i ∷ [])
    backs-held e z =
        ap (back_peers (rooms_of call s)) (first-in to s i e)
        ∙ back-append (rooms_of call s) (first to s i) (peer_at s i ∷ [])
        ∙ ap (λ (l : List ℕ). backs i ++ l) (back-held (rooms_of call s) (peer_at s i) (roomed.first i q ∙ z))

    -- it is pushed to, and has room
    pub backs-taken : has_link to i ≡ true → leb 1 (get_or call.rooms.now.links i 0) ≡ true → backs (i + 1) ≡ backs i
    backs-taken e z =
        ap (back_peers (rooms_of call s)) (first-in to s i e)
        ∙ back-append (rooms_of call s) (first to s i) (peer_at s i ∷ [])
        ∙ ap (λ (l : List ℕ). backs i ++ l) (back-taken (rooms_of call s) (peer_at s i) (roomed.first i q ∙ z))
        ∙ append-nil (backs i)

    pub backs-yes : hands_back to call.rooms.now.links i ≡ true → backs (i + 1) ≡ backs i ++ (peer_at s i ∷ [])
    unfolding hands_back
    backs-yes e =
        backs-held (and_left (has_link to i) (not (leb 1 (get_or call.rooms.now.links i 0))) e)
        (not-true (leb 1 (get_or call.rooms.now.links i 0)) (and_right (has_link to i) (not (leb 1 (get_or call.rooms.now.links i 0))) e))

    pub backs-no : hands_back to call.rooms.now.links i ≡ false → backs (i + 1) ≡ backs i
    unfolding hands_back
    backs-no e =
        cases (has_link to i)
        (λ t. backs-taken t (not-false (leb 1 (get_or call.rooms.now.links i 0)) (sym (ap (λ (b : Bool). b && not (leb 1 (get_or call.rooms.now.links i 0))) t) ∙ e)))
        (backs-out i)

-- what passes a test was there
member-filter : (f : ℕ → Bool) (p : ℕ) (xs : List ℕ) → member p xs ≡ false → member p (filter f xs) ≡ false
unfolding member filter
member-filter f p [] e = refl
member-filter f p (x ∷ xs) e =
    cases (eqb p x)
    (λ y. true≢ (sym (rw y at e)))
    (λ n. cases (f x) (λ y. rw (y, n) (member-filter f p xs (rw n at e))) (λ y. rw y (member-filter f p xs (rw n at e))))

-- the peer of link i is none of those
member-apart : (f : ℕ → ℕ) (p i : ℕ) (ls : List ℕ) → ((j : ℕ) → j < i → (f j ≡ p → ⊥)) → All (λ j. j < i) ls → member p (map f ls) ≡ false
unfolding member
member-apart f p i [] apart a = refl
member-apart f p i (l ∷ ls) apart a = rw (ne_eqb p (f l) (λ e. apart l (a 0 0 (omega arith)) (sym e))) (member-apart f p i ls apart (λ k d q. a (suc k) d (omega (arith, q))))

pub backs-apart : (to : LinkSet) (call : Call) (s : State) → ascending (keys s.links) ≡ true → (i : ℕ) → i < length s.links → member (peer_at s i) (backs_to to call s i) ≡ false
unfolding back_peers
backs-apart to call s up i q =
    let k : length (keys s.links) ≡ length s.links = length-map s.links (λ e. e.key) in
    member-filter (λ p. not (kth_taken 1 p (rooms_of call s))) (peer_at s i) (first to s i)
    (member-apart (peer_at s) (peer_at s i) i (links_below to i) (λ j b. keys-apart (keys s.links) j i (up_of (keys s.links) up) (omega arith) (omega arith) (λ e. omega arith)) (each-below to i))
