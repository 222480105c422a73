-- The state after an IHave, as its step makes it: announcers behind those of messages that were missing before, and two merges.
-- Assumes nothing.
use Rattle.announcements.proofs.Words.{◌≡◌, refl, sym, ap, ◌∙◌, subst, Bool, true, false, not, List, [], ◌∷◌, ◌++◌, ℕ, ◌+◌, ◌<◌, arith, length, ltb, take, get_or, get_or-map, if◌then◌else◌, Option, Some, None, is_some, cases, true≢, and_left, and_right, and_intro, All, All-head, All-tail, All-weaker, Map, keys, has, lookup, Ihave, State, Hop, with_missing, with_graft_timers, fits, peer_at, Allowed}
use Rattle.std.proofs.lemmas.List.{take_more, map-append}
use Rattle.std.proofs.lemmas.List.Elements.{All-nil, All-cons}
use Rattle.storage.specs.Lists.Base.{all, member, filter, ascending}
use Rattle.storage.specs.Lists.Map.{insert, insert_key}
use Rattle.storage.proofs.ListsLaws.MapLaws.{all_cons, all_head, all_tail}
use Rattle.protocol.specs.Gossips.{hops_of, announcers}
use Rattle.protocol.specs.Control.{add_announcer}
use Rattle.decide.specs.Sizes.{grown}
use Rattle.decide.proofs.TableSizes.{length-insert}
use Rattle.block.specs.MissingSteps.{hop, announced_by, announced_all, AnnouncingAll}
use Rattle.block.specs.TimerSteps.{marked_all, MarkingAll}
use Rattle.announcements.specs.Ihaves.Entries.{round_of, announced_in}
use Rattle.announcements.specs.Ihaves.Heard.{ihave, heard_from}
use Rattle.announcements.specs.declared.on_ihave.Unreceived.{Unreceived}
use Rattle.announcements.specs.OnIhave.{entry_value, entries_value, entries_at, ids, new_missing, new_timers, IhaveDecided}
use Rattle.announcements.proofs.IhavesLaws.TableLimits.{with_heard, fits-missing, fits-timers}
use Rattle.announcements.proofs.IhavesLaws.Looked.{told, announced-looked, announced-up, announced-same, marked_in}
use Rattle.announcements.proofs.IhavesLaws.Entries.{rounds-filter}
use Rattle.announcements.proofs.IhavesLaws.Merged.{fresh_in, extra_in, length-fresh, length-extra, merged, new_then, marks-merged, ordered-state}
use Rattle.announcements.proofs.IhavesLaws.Ordered.{nothing}
use Rattle.announcements.proofs.OnIhaveLaws.{filter-next}

-- those that pass a test pass it, and stay in order
each-passes : (f : Ihave → Bool) (xs : List Ihave) → All (λ h. f h ≡ true) (filter f xs)
unfolding filter
each-passes f [] = All-nil (λ h. f h ≡ true)
each-passes f (x ∷ xs) = cases (f x) (λ e. rw e (All-cons (λ h. f h ≡ true) x (filter f xs) e (each-passes f xs))) (λ e. rw e (each-passes f xs))

above-filter : (f : Ihave → Bool) (k : ℕ) (xs : List Ihave) → all (ltb k) (ids xs) ≡ true → all (ltb k) (ids (filter f xs)) ≡ true
unfolding filter
above-filter f k [] a = a
above-filter f k (x ∷ xs) a =
    let rest : all (ltb k) (ids (filter f xs)) ≡ true = above-filter f k xs (all_tail (ltb k) x.id (ids xs) a) in
    cases (f x) (λ e. rw e (all_cons (ltb k) x.id (ids (filter f xs)) (all_head (ltb k) x.id (ids xs) a) rest)) (λ e. rw e rest)

pub up-filter : (f : Ihave → Bool) (xs : List Ihave) → ascending (ids xs) ≡ true → ascending (ids (filter f xs)) ≡ true
unfolding filter ascending
up-filter f [] u = u
up-filter f (x ∷ xs) u =
    let rest : ascending (ids (filter f xs)) ≡ true = up-filter f xs (and_right (all (ltb x.id) (ids xs)) (ascending (ids xs)) u) in
    cases (f x)
    (λ e. rw e (and_intro (above-filter f x.id xs (and_left (all (ltb x.id) (ids xs)) (ascending (ids xs)) u)) rest))
    (λ e. rw e rest)

not-true : (b : Bool) → not b ≡ true → b ≡ false
not-true false e = refl
not-true true e = true≢ e

-- the folds of the two merges, of the tables alone
fresh-fold : (l : ℕ) (hs : List Ihave) (s : State) → announced_all l hs s ≡ with_missing (fresh_in (peer_at s l) hs s.missing) s
unfolding announced_all fresh_in
fresh-fold l [] s = refl
fresh-fold l (h ∷ hs) s = ap (λ (t : State). with_missing (insert h.id (hop (peer_at t l) h.round ∷ []) t.missing) t) (fresh-fold l hs s)

extra-fold : (is : List ℕ) (s : State) → marked_all is s ≡ with_graft_timers (extra_in is s.timers.graft) s
unfolding marked_all extra_in
extra-fold [] s = refl
extra-fold (i ∷ is) s = ap (λ (t : State). with_graft_timers (insert_key i t.timers.graft) t) (extra-fold is s)

-- the messages that were missing before
abbrev pub again : ℕ → List Ihave → State → State
again l hs s = with_missing (announced_in (peer_at s l) (filter (λ h. has h.id s.missing) hs) s.missing) s

module _ (l : ℕ) (s : State) (es : List Unreceived) (ns : List ℕ) (d : IhaveDecided s (entries_value es) es ns) (step : Allowed (heard_from l (entries_value es)) s) (w : l < length s.links) where
  abbrev hs : List Ihave
  hs = entries_value es

  abbrev xs : List Ihave
  xs = entries_at hs ns

  abbrev p : ℕ
  p = peer_at s l

  abbrev u : State
  u = again l hs s

  abbrev v : State
  v = announced_all l (new_missing s xs) u

  missing-up : ascending (keys s.missing) ≡ true
  missing-up = step.rest.consistent.core.missing_up

  timers-up : ascending s.timers.graft ≡ true
  timers-up = step.rest.consistent.core.timers_up

  -- in the message's order or in that of the identifiers
  either-order : announced_in p (filter (λ h. has h.id s.missing) hs) s.missing ≡ announced_in p (filter (λ h. has h.id s.missing) xs) s.missing
  either-order =
      announced-same (filter (λ h. has h.id s.missing) hs) (filter (λ h. has h.id s.missing) xs)
      (λ j. rounds-filter (λ i. has i s.missing) j hs ∙ ap (λ (o : Option ℕ). if has j s.missing then o else None) (sym (d.same j)) ∙ sym (rounds-filter (λ i. has i s.missing) j xs))
      p s.missing missing-up

  after : heard_from l hs s ≡ with_heard (announced_in p xs s.missing) (marked_in xs s.timers.graft) s
  after = ordered-state p hs xs s missing-up timers-up (sym d.count) d.same

  all-missing : fresh_in p (new_missing s xs) u.missing ≡ announced_in p xs s.missing
  all-missing = ap (fresh_in p (new_missing s xs)) either-order ∙ merged p xs s.missing missing-up

  none-there : All (λ h. has h.id u.missing ≡ false) (new_missing s xs)
  none-there =
      All-weaker (λ h. not (has h.id s.missing) ≡ true) (λ h. has h.id u.missing ≡ false)
      (λ h e. ap (λ (m : Map (List Hop)). has h.id m) either-order ∙ new_then p xs s.missing missing-up h.id (not-true (has h.id s.missing) e))
      (new_missing s xs) (each-passes (λ h. not (has h.id s.missing)) xs)

  u-up : ascending (keys u.missing) ≡ true
  u-up = announced-up p (filter (λ h. has h.id s.missing) hs) s.missing missing-up

  fresh-up : ascending (ids (new_missing s xs)) ≡ true
  fresh-up = up-filter (λ h. not (has h.id s.missing)) xs d.ascend

  fits-after : fits (with_heard (announced_in p xs s.missing) (marked_in xs s.timers.graft) s) ≡ true
  fits-after = ap fits (sym after) ∙ step.fits

  pub announcing : AnnouncingAll l (new_missing s xs) u
  announcing = record {
    missing = u-up;
    link = w;
    fresh = fresh-up;
    new = none-there;
    room = omega (
      arith,
      length-fresh p (new_missing s xs) u.missing u-up fresh-up none-there,
      ap (λ (m : Map (List Hop)). length m) all-missing,
      fits-missing (with_heard (announced_in p xs s.missing) (marked_in xs s.timers.graft) s) fits-after,
    );
  }

  v-is : v ≡ with_missing (announced_in p xs s.missing) s
  v-is = fresh-fold l (new_missing s xs) u ∙ ap (λ (m : Map (List Hop)). with_missing m s) all-missing

  all-timers : extra_in (ids (new_timers s xs)) s.timers.graft ≡ marked_in xs s.timers.graft
  all-timers = marks-merged xs s.timers.graft timers-up

  each-of : (f : ℕ → Bool) (ys : List Ihave) → All (λ h. f h.id ≡ true) ys → All (λ i. f i ≡ true) (ids ys)
  each-of f [] a = All-nil (λ i. f i ≡ true)
  each-of f (y ∷ ys) a = All-cons (λ i. f i ≡ true) y.id (ids ys) (All-head (λ h. f h.id ≡ true) y ys a) (each-of f ys (All-tail (λ h. f h.id ≡ true) y ys a))

  none-marked : All (λ i. member i s.timers.graft ≡ false) (ids (new_timers s xs))
  none-marked =
      All-weaker (λ i. not (member i s.timers.graft) ≡ true) (λ i. member i s.timers.graft ≡ false) (λ i e. not-true (member i s.timers.graft) e) (ids (new_timers s xs))
      (each-of (λ i. not (member i s.timers.graft)) (new_timers s xs) (each-passes (λ h. not (member h.id s.timers.graft)) xs))

  marks-up : ascending (ids (new_timers s xs)) ≡ true
  marks-up = up-filter (λ h. not (member h.id s.timers.graft)) xs d.ascend

  pub marking : MarkingAll (ids (new_timers s xs)) v
  marking =
      subst (MarkingAll (ids (new_timers s xs))) (sym v-is)
      (record {
        timers = timers-up;
        fresh = marks-up;
        new = none-marked;
        room = omega (
          arith,
          length-extra (ids (new_timers s xs)) s.timers.graft timers-up marks-up none-marked,
          ap (λ (g : List ℕ). length g) all-timers,
          fits-timers (with_heard (announced_in p xs s.missing) (marked_in xs s.timers.graft) s) fits-after,
        );
      })

  pub done : marked_all (ids (new_timers s xs)) v ≡ heard_from l hs s
  done =
      ap (marked_all (ids (new_timers s xs))) v-is
      ∙ extra-fold (ids (new_timers s xs)) (with_missing (announced_in p xs s.missing) s)
      ∙ ap (λ (g : List ℕ). with_heard (announced_in p xs s.missing) g s) all-timers
      ∙ sym after

-- one entry after the other

in-append : (p : ℕ) (xs ys : List Ihave) (m : Map (List Hop)) → announced_in p (xs ++ ys) m ≡ announced_in p ys (announced_in p xs m)
unfolding announced_in
in-append p [] ys m = refl
in-append p (x ∷ xs) ys m = in-append p xs ys (insert x.id (add_announcer (hop p x.round) (hops_of (lookup x.id m))) m)

module _ (l : ℕ) (hs : List Ihave) (x : Ihave) (s : State) where
  abbrev there : Ihave → Bool
  there h = has h.id s.missing

  pub again-skip : has x.id s.missing ≡ false → again l hs s ≡ again l (hs ++ (x ∷ [])) s
  again-skip e =
      ap (λ (ys : List Ihave). with_missing (announced_in (peer_at s l) ys s.missing) s)
      (sym (filter-next there hs x ∙ ap (λ (b : Bool). filter there hs ++ (if b then x ∷ [] else [])) e ∙ nil-end (filter there hs)))
    where
      nil-end : (ys : List Ihave) → ys ++ [] ≡ ys
      nil-end [] = refl
      nil-end (y ∷ ys) = ap (λ (zs : List Ihave). y ∷ zs) (nil-end ys)

  pub again-next : has x.id s.missing ≡ true → announced_by x.id l x.round (again l hs s) ≡ again l (hs ++ (x ∷ [])) s
  unfolding announced_in announcers
  again-next e =
      ap (λ (m : Map (List Hop)). with_missing m s)
      (sym (ap (λ (ys : List Ihave). announced_in (peer_at s l) ys s.missing) (filter-next there hs x ∙ ap (λ (b : Bool). filter there hs ++ (if b then x ∷ [] else [])) e)
      ∙ in-append (peer_at s l) (filter there hs) (x ∷ []) s.missing))

  -- it is still missing
  kept : (p : ℕ) (o : Option ℕ) (q : Option (List Hop)) → is_some q ≡ true → is_some (told p o q) ≡ true
  unfolding told
  kept p None q e = e
  kept p (Some r) q e = refl

  pub again-there : has x.id s.missing ≡ true → has x.id (again l hs s).missing ≡ true
  again-there e =
      ap is_some (announced-looked (peer_at s l) x.id (filter there hs) s.missing)
      ∙ kept (peer_at s l) (round_of x.id (filter there hs)) (lookup x.id s.missing) e

pub again-start : (l : ℕ) (s : State) → s ≡ again l [] s
unfolding filter announced_in
again-start l s = refl

-- a row that is there takes no room
pub same-room : (id l r : ℕ) (s : State) → ascending (keys s.missing) ≡ true → has id s.missing ≡ true → length (announced_by id l r s).missing ≡ length s.missing
unfolding grown
same-room id l r s u e =
    length-insert id (add_announcer (hop (peer_at s l) r) (announcers id s)) s.missing u ∙ ap (λ (b : Bool). grown b (length s.missing)) e

-- the list of those that pass a test, one more of the order
module _ (f : Ihave → Bool) (es : List Unreceived) (ns : List ℕ) (i : ℕ) (w : i < length ns) where
  abbrev x : Ihave
  x = entry_value (get_or es (get_or ns i 0) nothing)

  at-next : entries_at (entries_value es) (take (i + 1) ns) ≡ entries_at (entries_value es) (take i ns) ++ (x ∷ [])
  at-next =
      ap (entries_at (entries_value es)) (take_more ns i 0 w)
      ∙ map-append (λ (n : ℕ). get_or (entries_value es) n (ihave 0 0)) (take i ns) (get_or ns i 0 ∷ [])
      ∙ ap (λ (y : Ihave). entries_at (entries_value es) (take i ns) ++ (y ∷ [])) (get_or-map entry_value es (get_or ns i 0) nothing)

  passed : (b : Bool) → f x ≡ b → filter f (entries_at (entries_value es) (take (i + 1) ns)) ≡ filter f (entries_at (entries_value es) (take i ns)) ++ (if b then x ∷ [] else [])
  passed b e =
      ap (filter f) at-next ∙ filter-next f (entries_at (entries_value es) (take i ns)) x
      ∙ ap (λ (c : Bool). filter f (entries_at (entries_value es) (take i ns)) ++ (if c then x ∷ [] else [])) e

  nil-after : (ys : List Ihave) → ys ++ [] ≡ ys
  nil-after [] = refl
  nil-after (y ∷ ys) = ap (λ (zs : List Ihave). y ∷ zs) (nil-after ys)

  pub listed-skip : f x ≡ false → filter f (entries_at (entries_value es) (take i ns)) ≡ filter f (entries_at (entries_value es) (take (i + 1) ns))
  listed-skip e = sym (passed false e ∙ nil-after (filter f (entries_at (entries_value es) (take i ns))))

  pub listed-next : f x ≡ true → filter f (entries_at (entries_value es) (take i ns)) ++ (x ∷ []) ≡ filter f (entries_at (entries_value es) (take (i + 1) ns))
  listed-next e = sym (passed true e)
