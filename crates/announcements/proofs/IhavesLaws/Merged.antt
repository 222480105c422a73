-- An IHave's state by tables, each by one walk over its entries: announcers behind those of messages that were missing before, and the rest by merges.
-- Assumes nothing.
use Rattle.announcements.proofs.Words.{◌≡◌, refl, sym, ap, ◌∙◌, Bool, true, false, not, ◌||◌, List, [], ◌∷◌, map, ℕ, ◌+◌, arith, length, ltb, ltb-true, eqb, eqb-true, if◌then◌else◌, Option, Some, None, is_some, cases, true≢, and_left, and_right, all_head, all_tail, All, All-head, All-tail, Map, keys, has, holds, ascending-insert, Ihave, State, Hop}
use Rattle.storage.specs.Lists.Base.{all, any, member, filter, ascending}
use Rattle.storage.specs.Lists.Map.{lookup, insert, insert_key}
use Rattle.storage.proofs.ListsLaws.MapLaws.{lookup-insert-same, lookup-insert-other}
use Rattle.protocol.specs.Gossips.{hops_of, announcers}
use Rattle.protocol.specs.Control.{add_announcer}
use Rattle.protocol.proofs.ConsistentTables.{ascending-insert_key}
use Rattle.decide.specs.Sizes.{grown}
use Rattle.decide.proofs.TableSizes.{length-insert, length-insert_key}
use Rattle.decide.specs.StateAfter.{ihave_state}
use Rattle.block.specs.MissingSteps.{hop, with_announcer}
use Rattle.block.specs.TimerSteps.{timer_marked}
use Rattle.announcements.specs.Ihaves.Entries.{new_entries, round_of, announced_in}
use Rattle.announcements.specs.OnIhave.{received}
use Rattle.announcements.proofs.IhavesLaws.TableLimits.{with_heard}
use Rattle.announcements.proofs.IhavesLaws.HeardLaws.{announced-received, announced-missing}
use Rattle.announcements.proofs.IhavesLaws.Same.{same-maps, same-sets}
use Rattle.announcements.proofs.IhavesLaws.Looked.{told, announced-looked, announced-up, marked_in, member-insert_key, member-marks, marks-up, announced-same, marks-same}
use Rattle.announcements.proofs.IhavesLaws.Entries.{entries-rounds, rounds-filter}

-- the entries whose message is not received
abbrev unreceived : State → List Ihave → List Ihave
unreceived s hs = filter (λ h. not (holds h.id s.received)) hs

one-more : (p : ℕ) (h : Ihave) (s : State) → timer_marked h.id (with_announcer h.id (hop p h.round) s)
    ≡ with_heard (insert h.id (add_announcer (hop p h.round) (hops_of (lookup h.id s.missing))) s.missing) (if member h.id s.timers.graft then s.timers.graft else insert_key h.id s.timers.graft) s
unfolding timer_marked announcers
one-more p h s = cases (member h.id s.timers.graft) (λ e. rw e refl) (λ e. rw e refl)

split : (p : ℕ) (hs : List Ihave) (s : State) → ihave_state p hs s ≡ with_heard (announced_in p (unreceived s hs) s.missing) (marked_in (unreceived s hs) s.timers.graft) s
unfolding ihave_state filter announced_in marked_in
split p [] s = refl
split p (h ∷ hs) s =
    cases (holds h.id s.received)
    (λ e. ap (ihave_state p hs) (announced-received p h s e) ∙ split p hs s ∙ rw e refl)
    (λ e. ap (ihave_state p hs) (announced-missing p h s e ∙ one-more p h s)
    ∙ split p hs (with_heard (insert h.id (add_announcer (hop p h.round) (hops_of (lookup h.id s.missing))) s.missing) (if member h.id s.timers.graft then s.timers.graft else insert_key h.id s.timers.graft) s)
    ∙ rw e refl)

twice-none : (b : Bool) (o : Option ℕ) → (if not b then o else None) ≡ (if b then None else o)
twice-none true o = refl
twice-none false o = refl

none-twice : (b : Bool) (o : Option ℕ) → (if not b then (if b then None else o) else None) ≡ (if not b then o else None)
none-twice true o = refl
none-twice false o = refl

unreceived-rounds : (s : State) (hs : List Ihave) (j : ℕ) → round_of j (unreceived s hs) ≡ (if received s j then None else round_of j hs)
unreceived-rounds s hs j = rounds-filter (λ i. not (holds i s.received)) j hs ∙ twice-none (received s j) (round_of j hs)

-- an IHave does what its entries do that count
pub entries-state : (p : ℕ) (hs : List Ihave) (s : State) → ascending (keys s.missing) ≡ true → ascending s.timers.graft ≡ true → ihave_state p (new_entries (received s) [] hs) s ≡ ihave_state p hs s
entries-state p hs s u v =
    let es : List Ihave = new_entries (received s) [] hs in
    let same : (j : ℕ) → round_of j (unreceived s es) ≡ round_of j (unreceived s hs) = λ j.
    rounds-filter (λ i. not (holds i s.received)) j es ∙ ap (λ (o : Option ℕ). if not (received s j) then o else None) (entries-rounds (received s) j hs)
    ∙ none-twice (received s j) (round_of j hs) ∙ sym (rounds-filter (λ i. not (holds i s.received)) j hs) in
    split p es s ∙ (λ k. with_heard (announced-same (unreceived s es) (unreceived s hs) same p s.missing u k) (marks-same (unreceived s es) (unreceived s hs) same s.timers.graft v k) s) ∙ sym (split p hs s)

-- and what these do in whichever order
pub ordered-state : (p : ℕ) (es xs : List Ihave) (s : State) → ascending (keys s.missing) ≡ true → ascending s.timers.graft ≡ true → new_entries (received s) [] es ≡ es → ((j : ℕ) → round_of j xs ≡ round_of j es) →
    ihave_state p es s ≡ with_heard (announced_in p xs s.missing) (marked_in xs s.timers.graft) s
ordered-state p es xs s u v own w =
    let same : (j : ℕ) → round_of j (unreceived s es) ≡ round_of j xs = λ j.
    unreceived-rounds s es j ∙ sym (entries-rounds (received s) j es) ∙ ap (round_of j) own ∙ sym (w j) in
    split p es s ∙ (λ k. with_heard (announced-same (unreceived s es) xs same p s.missing u k) (marks-same (unreceived s es) xs same s.timers.graft v k) s)

-- messages that are missing newly, each announced by this peer alone
module _ (p : ℕ) where
  unfoldable pub fresh_in : List Ihave → Map (List Hop) → Map (List Hop)
  fresh_in [] m = m
  fresh_in (h ∷ hs) m = insert h.id (hop p h.round ∷ []) (fresh_in hs m)

  first_told : Option ℕ → Option (List Hop) → Option (List Hop)
  first_told None v = v
  first_told (Some r) v = Some (hop p r ∷ [])

  fresh-looked : (j : ℕ) (hs : List Ihave) (m : Map (List Hop)) → lookup j (fresh_in hs m) ≡ first_told (round_of j hs) (lookup j m)
  unfolding fresh_in round_of first_told
  fresh-looked j [] m = refl
  fresh-looked j (h ∷ hs) m =
      cases (eqb j h.id)
      (λ e. ap (λ (i : ℕ). lookup i (insert h.id (hop p h.round ∷ []) (fresh_in hs m))) (eqb-true j h.id e) ∙ lookup-insert-same h.id (hop p h.round ∷ []) (fresh_in hs m) ∙ rw e refl)
      (λ e. lookup-insert-other j h.id (hop p h.round ∷ []) (fresh_in hs m) e ∙ fresh-looked j hs m ∙ rw e refl)

  fresh-up : (hs : List Ihave) (m : Map (List Hop)) → ascending (keys m) ≡ true → ascending (keys (fresh_in hs m)) ≡ true
  unfolding fresh_in
  fresh-up [] m u = u
  fresh-up (h ∷ hs) m u = ascending-insert h.id (hop p h.round ∷ []) (fresh_in hs m) (fresh-up hs m u)

-- what is above a number is not it
apart : (k : ℕ) (hs : List Ihave) → all (ltb k) (map (λ h. h.id) hs) ≡ true → round_of k hs ≡ None
unfolding round_of
apart k [] a = refl
apart k (h ∷ hs) a =
    let l : ltb k h.id ≡ true = all_head (ltb k) h.id (map (λ x. x.id) hs) a in
    cases (eqb k h.id) (λ e. absurd (omega (arith, ltb-true k h.id l, eqb-true k h.id e))) (λ e. rw e (apart k hs (all_tail (ltb k) h.id (map (λ x. x.id) hs) a)))

first-above : (h : Ihave) (hs : List Ihave) → ascending (map (λ x. x.id) (h ∷ hs)) ≡ true → all (ltb h.id) (map (λ x. x.id) hs) ≡ true
unfolding ascending
first-above h hs u = and_left (all (ltb h.id) (map (λ x. x.id) hs)) (ascending (map (λ x. x.id) hs)) u

rest-up : (h : Ihave) (hs : List Ihave) → ascending (map (λ x. x.id) (h ∷ hs)) ≡ true → ascending (map (λ x. x.id) hs) ≡ true
unfolding ascending
rest-up h hs u = and_right (all (ltb h.id) (map (λ x. x.id) hs)) (ascending (map (λ x. x.id) hs)) u

-- as many more as there are
pub length-fresh : (p : ℕ) (hs : List Ihave) (m : Map (List Hop)) → ascending (keys m) ≡ true → ascending (map (λ h. h.id) hs) ≡ true → All (λ h. has h.id m ≡ false) hs → length (fresh_in p hs m) ≡ length m + length hs
unfolding fresh_in first_told grown
length-fresh p [] m u v a = omega arith
length-fresh p (h ∷ hs) m u v a =
    let rest : length (fresh_in p hs m) ≡ length m + length hs = length-fresh p hs m u (rest-up h hs v) (All-tail (λ x. has x.id m ≡ false) h hs a) in
    let none : has h.id (fresh_in p hs m) ≡ false =
    ap is_some (fresh-looked p h.id hs m) ∙ ap (λ (o : Option ℕ). is_some (first_told p o (lookup h.id m))) (apart h.id hs (first-above h hs v)) ∙ All-head (λ x. has x.id m ≡ false) h hs a in
    length-insert h.id (hop p h.round ∷ []) (fresh_in p hs m) (fresh-up p hs m u) ∙ ap (λ (b : Bool). grown b (length (fresh_in p hs m))) none ∙ omega (arith, rest)

-- timers more
unfoldable pub extra_in : List ℕ → List ℕ → List ℕ
extra_in [] g = g
extra_in (i ∷ is) g = insert_key i (extra_in is g)

or-assoc-if : (a b c : Bool) → (a || (b || c)) ≡ ((if a then true else b) || c)
or-assoc-if true b c = refl
or-assoc-if false b c = refl

member-extra : (j : ℕ) (is g : List ℕ) → member j (extra_in is g) ≡ (member j is || member j g)
unfolding extra_in member
member-extra j [] g = refl
member-extra j (i ∷ is) g =
    member-insert_key j i (extra_in is g) ∙ ap (λ (b : Bool). eqb j i || b) (member-extra j is g) ∙ or-assoc-if (eqb j i) (member j is) (member j g)

extra-up : (is g : List ℕ) → ascending g ≡ true → ascending (extra_in is g) ≡ true
unfolding extra_in
extra-up [] g u = u
extra-up (i ∷ is) g u = ascending-insert_key i (extra_in is g) (extra-up is g u)

not-there : (k : ℕ) (is : List ℕ) → all (ltb k) is ≡ true → member k is ≡ false
unfolding member
not-there k [] a = refl
not-there k (i ∷ is) a =
    let l : ltb k i ≡ true = all_head (ltb k) i is a in
    cases (eqb k i) (λ e. absurd (omega (arith, ltb-true k i l, eqb-true k i e))) (λ e. rw e (not-there k is (all_tail (ltb k) i is a)))

pub length-extra : (is g : List ℕ) → ascending g ≡ true → ascending is ≡ true → All (λ i. member i g ≡ false) is → length (extra_in is g) ≡ length g + length is
unfolding extra_in grown ascending
length-extra [] g u v a = omega arith
length-extra (i ∷ is) g u v a =
    let rest : length (extra_in is g) ≡ length g + length is = length-extra is g u (and_right (all (ltb i) is) (ascending is) v) (All-tail (λ j. member j g ≡ false) i is a) in
    let none : member i (extra_in is g) ≡ false =
    member-extra i is g ∙ ap (λ (b : Bool). b || member i g) (not-there i is (and_left (all (ltb i) is) (ascending is) v)) ∙ All-head (λ j. member j g ≡ false) i is a in
    length-insert_key i (extra_in is g) (extra-up is g u) ∙ ap (λ (b : Bool). grown b (length (extra_in is g))) none ∙ omega (arith, rest)

pub members-rounds : (j : ℕ) (hs : List Ihave) → member j (map (λ h. h.id) hs) ≡ is_some (round_of j hs)
unfolding member round_of
members-rounds j [] = refl
members-rounds j (h ∷ hs) = cases (eqb j h.id) (λ e. rw e refl) (λ e. rw e (members-rounds j hs))

-- entries of messages that were missing before, and the others
module _ (p : ℕ) (xs : List Ihave) (m : Map (List Hop)) (u : ascending (keys m) ≡ true) where
  abbrev before : List Ihave
  before = filter (λ h. has h.id m) xs

  abbrev fresh : List Ihave
  fresh = filter (λ h. not (has h.id m)) xs

  both : (o : Option ℕ) (v : Option (List Hop)) → first_told p (if not (is_some v) then o else None) (told p (if is_some v then o else None) v) ≡ told p o v
  unfolding told first_told hops_of add_announcer any
  both None None = refl
  both (Some r) None = refl
  both o (Some v) = refl

  pub merged : fresh_in p fresh (announced_in p before m) ≡ announced_in p xs m
  merged =
      same-maps (fresh_in p fresh (announced_in p before m)) (announced_in p xs m) (fresh-up p fresh (announced_in p before m) (announced-up p before m u)) (announced-up p xs m u)
      (λ j. fresh-looked p j fresh (announced_in p before m)
      ∙ (λ k. first_told p (rounds-filter (λ i. not (has i m)) j xs k) (announced-looked p j before m k))
      ∙ ap (λ (o : Option ℕ). first_told p (if not (has j m) then round_of j xs else None) (told p o (lookup j m))) (rounds-filter (λ i. has i m) j xs)
      ∙ both (round_of j xs) (lookup j m)
      ∙ sym (announced-looked p j xs m))

  -- those that are new are not among those announced before
  still : (o : Option ℕ) (v : Option (List Hop)) → is_some v ≡ false → is_some (told p (if is_some v then o else None) v) ≡ false
  unfolding told
  still o None e = refl
  still o (Some v) e = true≢ (sym e)

  pub new_then : (j : ℕ) → has j m ≡ false → has j (announced_in p before m) ≡ false
  new_then j e =
      ap is_some (announced-looked p j before m ∙ ap (λ (o : Option ℕ). told p o (lookup j m)) (rounds-filter (λ i. has i m) j xs))
      ∙ still (round_of j xs) (lookup j m) e

module _ (xs : List Ihave) (g : List ℕ) (u : ascending g ≡ true) where
  abbrev unmarked : List ℕ
  unmarked = map (λ h. h.id) (filter (λ h. not (member h.id g)) xs)

  either : (o : Option ℕ) (b : Bool) → (is_some (if not b then o else None) || b) ≡ (is_some o || b)
  either None true = refl
  either None false = refl
  either (Some r) true = refl
  either (Some r) false = refl

  pub marks-merged : extra_in unmarked g ≡ marked_in xs g
  marks-merged =
      same-sets (extra_in unmarked g) (marked_in xs g) (extra-up unmarked g u) (marks-up xs g u)
      (λ j. member-extra j unmarked g
      ∙ ap (λ (b : Bool). b || member j g) (members-rounds j (filter (λ h. not (member h.id g)) xs) ∙ ap is_some (rounds-filter (λ i. not (member i g)) j xs))
      ∙ either (round_of j xs) (member j g)
      ∙ sym (member-marks j xs g))
