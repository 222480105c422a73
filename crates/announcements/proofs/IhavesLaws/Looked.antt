-- What an IHave leaves, by look-ups: the announcers of each identifier, and whether a timer is marked for it.
-- Assumes nothing.
use Rattle.announcements.proofs.Words.{◌≡◌, refl, sym, ap, ◌∙◌, subst, Bool, true, false, ◌||◌, List, [], ◌∷◌, ℕ, ltb, eqb, eqb-true, eq-eqb, if◌then◌else◌, Option, Some, None, is_some, cases, Map, keys, ascending, ascending-insert, Ihave, Hop, any-one, any-right}
use Rattle.storage.specs.Lists.Base.{any, member}
use Rattle.storage.specs.Lists.Map.{lookup, insert, insert_key}
use Rattle.storage.proofs.ListsLaws.MapLaws.{lookup-insert-same, lookup-insert-other}
use Rattle.protocol.specs.Gossips.{hops_of}
use Rattle.protocol.specs.Control.{add_announcer}
use Rattle.block.specs.MissingSteps.{hop}
use Rattle.protocol.proofs.ConsistentTables.{ascending-insert_key}
use Rattle.announcements.specs.Ihaves.Entries.{round_of, announced_in}
use Rattle.announcements.proofs.IhavesLaws.Same.{same-maps, same-sets}

-- the announcers of an identifier, with the peer behind them if an entry with this round is of it
unfoldable pub told : ℕ → Option ℕ → Option (List Hop) → Option (List Hop)
told p None v = v
told p (Some r) v = Some (add_announcer (hop p r) (hops_of v))

-- a peer that is there is not added
added-again : (p q r : ℕ) (hs : List Hop) → add_announcer (hop p r) (add_announcer (hop p q) hs) ≡ add_announcer (hop p q) hs
unfolding add_announcer
added-again p q r hs =
    cases (any (λ x. eqb x.peer p) hs)
    (λ e. rw e (rw e refl))
    (λ e. rw e (rw (any-right (λ (x : Hop). eqb x.peer p) hs (hop p q ∷ []) (any-one (λ (x : Hop). eqb x.peer p) (hop p q) ∙ eq-eqb p p refl)) refl))

told-again : (p q : ℕ) (o : Option ℕ) (hs : List Hop) → told p o (Some (add_announcer (hop p q) hs)) ≡ Some (add_announcer (hop p q) hs)
unfolding told hops_of
told-again p q None hs = refl
told-again p q (Some r) hs = ap Some (added-again p q r hs)

-- an entry of another identifier
pub round-other : (j : ℕ) (h : Ihave) (hs : List Ihave) → eqb j h.id ≡ false → round_of j (h ∷ hs) ≡ round_of j hs
unfolding round_of
round-other j h hs e = rw e refl

pub round-same : (h : Ihave) (hs : List Ihave) → round_of h.id (h ∷ hs) ≡ Some h.round
unfolding round_of
round-same h hs = rw (eq-eqb h.id h.id refl) refl

-- the missing messages and the timers after a walk over entries, whatever is received
module _ (p : ℕ) where
  step-looked : (j : ℕ) (h : Ihave) (hs : List Ihave) (m : Map (List Hop)) → told p (round_of j hs) (lookup j (insert h.id (add_announcer (hop p h.round) (hops_of (lookup h.id m))) m)) ≡ told p (round_of j (h ∷ hs)) (lookup j m)
  step-looked j h hs m =
      cases (eqb j h.id)
      (λ e. subst (λ (i : ℕ). told p (round_of i hs) (lookup i (insert h.id (add_announcer (hop p h.round) (hops_of (lookup h.id m))) m)) ≡ told p (round_of i (h ∷ hs)) (lookup i m)) (sym (eqb-true j h.id e)) same)
      (λ e. (λ k. told p (sym (round-other j h hs e) k) (lookup-insert-other j h.id (add_announcer (hop p h.round) (hops_of (lookup h.id m))) m e k)))
    where
      same : told p (round_of h.id hs) (lookup h.id (insert h.id (add_announcer (hop p h.round) (hops_of (lookup h.id m))) m)) ≡ told p (round_of h.id (h ∷ hs)) (lookup h.id m)
      same =
          ap (told p (round_of h.id hs)) (lookup-insert-same h.id (add_announcer (hop p h.round) (hops_of (lookup h.id m))) m)
          ∙ told-again p h.round (round_of h.id hs) (hops_of (lookup h.id m))
          ∙ unfold told in (sym (ap (λ (o : Option ℕ). told p o (lookup h.id m)) (round-same h hs)))

  pub announced-looked : (j : ℕ) (hs : List Ihave) (m : Map (List Hop)) → lookup j (announced_in p hs m) ≡ told p (round_of j hs) (lookup j m)
  unfolding announced_in
  announced-looked j [] m = unfold told round_of in refl
  announced-looked j (h ∷ hs) m =
      announced-looked j hs (insert h.id (add_announcer (hop p h.round) (hops_of (lookup h.id m))) m) ∙ step-looked j h hs m

  pub announced-up : (hs : List Ihave) (m : Map (List Hop)) → ascending (keys m) ≡ true → ascending (keys (announced_in p hs m)) ≡ true
  unfolding announced_in
  announced-up [] m u = u
  announced-up (h ∷ hs) m u = announced-up hs (insert h.id (add_announcer (hop p h.round) (hops_of (lookup h.id m))) m) (ascending-insert h.id (add_announcer (hop p h.round) (hops_of (lookup h.id m))) m u)

-- the timers after a walk over entries
unfoldable pub marked_in : List Ihave → List ℕ → List ℕ
marked_in [] g = g
marked_in (h ∷ hs) g = marked_in hs (if member h.id g then g else insert_key h.id g)

pub member-insert_key : (j k : ℕ) (xs : List ℕ) → member j (insert_key k xs) ≡ (eqb j k || member j xs)
unfolding member insert_key
member-insert_key j k [] = cases (eqb j k) (λ e. rw e refl) (λ e. rw e refl)
member-insert_key j k (x ∷ xs) =
    cases (ltb k x) (λ l. rw l (cases (eqb j k) (λ e. rw e refl) (λ e. rw e refl)))
    (λ l. cases (eqb k x)
    (λ q. rw (l, q) (rw (eqb-true k x q) (cases (eqb j x) (λ e. rw e refl) (λ e. rw e refl))))
    (λ q. rw (l, q) (rw (member-insert_key j k xs) (cases (eqb j x) (λ e. cases (eqb j k) (λ f. rw (e, f) refl) (λ f. rw (e, f) refl)) (λ e. rw e refl)))))

-- a mark more, unless it is there
member-marked : (j k : ℕ) (g : List ℕ) → member j (if member k g then g else insert_key k g) ≡ (eqb j k || member j g)
member-marked j k g =
    cases (member k g)
    (λ e. rw e (cases (eqb j k) (λ q. ap (λ (i : ℕ). member i g) (eqb-true j k q) ∙ e ∙ rw q refl) (λ q. rw q refl)))
    (λ e. rw e (member-insert_key j k g))

or-first : (a b : Bool) (o : Option ℕ) (r : ℕ) → (is_some o || (a || b)) ≡ (is_some (if a then Some r else o) || b)
or-first true b None r = refl
or-first true b (Some q) r = refl
or-first false b o r = refl

pub member-marks : (j : ℕ) (hs : List Ihave) (g : List ℕ) → member j (marked_in hs g) ≡ (is_some (round_of j hs) || member j g)
unfolding marked_in round_of
member-marks j [] g = refl
member-marks j (h ∷ hs) g =
    member-marks j hs (if member h.id g then g else insert_key h.id g)
    ∙ ap (λ (b : Bool). is_some (round_of j hs) || b) (member-marked j h.id g)
    ∙ or-first (eqb j h.id) (member j g) (round_of j hs) h.round

pub marks-up : (hs : List Ihave) (g : List ℕ) → ascending g ≡ true → ascending (marked_in hs g) ≡ true
unfolding marked_in
marks-up [] g u = u
marks-up (h ∷ hs) g u =
    marks-up hs (if member h.id g then g else insert_key h.id g)
    (cases (member h.id g) (λ e. rw e u) (λ e. rw e (ascending-insert_key h.id g u)))

-- entries with the same rounds leave the same
module _ (xs ys : List Ihave) (same : (j : ℕ) → round_of j xs ≡ round_of j ys) where
  pub announced-same : (p : ℕ) (m : Map (List Hop)) → ascending (keys m) ≡ true → announced_in p xs m ≡ announced_in p ys m
  announced-same p m u =
      same-maps (announced_in p xs m) (announced_in p ys m) (announced-up p xs m u) (announced-up p ys m u)
      (λ j. announced-looked p j xs m ∙ ap (λ (o : Option ℕ). told p o (lookup j m)) (same j) ∙ sym (announced-looked p j ys m))

  pub marks-same : (g : List ℕ) → ascending g ≡ true → marked_in xs g ≡ marked_in ys g
  marks-same g u =
      same-sets (marked_in xs g) (marked_in ys g) (marks-up xs g u) (marks-up ys g u)
      (λ j. member-marks j xs g ∙ ap (λ (o : Option ℕ). is_some o || member j g) (same j) ∙ sym (member-marks j ys g))
