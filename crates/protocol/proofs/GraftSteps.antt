-- Announcers and grafted peers: no step but an IHave adds an announcer, and none but SendGraft a grafted peer.
use Rattle.std.proofs.Common.{ℕ, ◌≡◌, refl, sym, ap, subst, ◌∙◌, Bool, true, false, List, [], ◌∷◌, map, ◌⊎◌, inl, inr, arith, ltb, eqb, eqb-true, ne_eqb, ltb-true, if◌then◌else◌, Option, Some, None, is_some}
use Rattle.storage.specs.Lists.Base.{is_empty, any, all, filter, member, ascending}
use Rattle.storage.specs.Lists.Map.{Map, keys, lookup, has, insert, remove}
use Rattle.time_cache.specs.TimeCache.{Cache, Timed, Expiry, value_of, get, holds, put, with_value, replace, expires_at, pop, pop_all, due, expire_until}
use Rattle.postcard.specs.Message.{Ihave, Graft, SendGraft, Action, Sent, Scheduled}
use Rattle.protocol.specs.State.{State, Hop, Grafts}
use Rattle.protocol.specs.Run.{Run, with_state, act, send}
use Rattle.protocol.specs.Push.{schedule_dispatch, lazy_push}
use Rattle.protocol.specs.Gossips.{mark_received, cache_at, hops_of, announcers, peers_of, grafted_for, with_first, set_first, forget_missing, update_links, with_kept, set_kept}
use Rattle.protocol.specs.Control.{add_announcer, announce, schedule_graft, on_announced, on_ihave, with_graft, note_graft, leave_announcers, ask_first, unmark, on_send_graft_timer}
use Rattle.protocol.specs.Ticks.{move_oldest, still_cached, dispatch_if_queued, on_announce_dropped_timer, clear_dispatch, on_dispatch_timer, evict, on_evict_cache_timer}
use Rattle.protocol.specs.Neighbours.{without_announcer, forget_announcer, without_graft, forget_grafted, forget_peer}
use Rattle.protocol.specs.NoNeighbourPassedOver.{lists, is_graft_for, taken_or_handed_back, sends}
use Rattle.storage.proofs.ListsLaws.MapLaws.{cases, true≢, and_left, and_right, and_intro, all_head, all_tail, all_cons, ascending-insert, ascending-remove, lookup-insert-same, lookup-insert-other, lookup-remove-same, lookup-remove-other}
use Rattle.storage.proofs.ListsLaws.Lists.{or_cases, any_append, any_left, any-right, any-one}
use Rattle.storage.proofs.ListsLaws.KeyLaws.{eqb-sym}
use Rattle.protocol.proofs.Invariant.{hop_is_of}
use Rattle.protocol.proofs.Walk.{Sending, Steps, walk-dispatch_to}
use Rattle.protocol.proofs.RecordOnly.{RecordOnly, only-note_dropped, only-schedule}

-- the announcers stand by identifier, ascending
abbrev pub Sorted : State → Type 0
Sorted s = ascending (keys s.missing) ≡ true

pub record Shrinks (r r' : Run) : Type 0 where
  pub sorted : Sorted r.state → Sorted r'.state
  pub announcing : (p id : ℕ) → any (hop_is_of p) (announcers id r'.state) ≡ true → any (hop_is_of p) (announcers id r.state) ≡ true
  pub grafting : (p id : ℕ) → has p (grafted_for id r'.state) ≡ true → has p (grafted_for id r.state) ≡ true

pub shrinks-refl : (r : Run) → Shrinks r r
shrinks-refl r = record { sorted = λ o. o; announcing = λ p id h. h; grafting = λ p id h. h }

pub shrinks-trans : (a b c : Run) → Shrinks a b → Shrinks b c → Shrinks a c
shrinks-trans a b c x y = record { sorted = λ o. y.sorted (x.sorted o); announcing = λ p id h. x.announcing p id (y.announcing p id h); grafting = λ p id h. x.grafting p id (y.grafting p id h) }

shrinks-if : {r x y : Run} (b : Bool) → Shrinks r x → Shrinks r y → Shrinks r (if b then x else y)
shrinks-if true k l = k
shrinks-if false k l = l

-- neither changes
pub same : {r r' : Run} → r'.state.missing ≡ r.state.missing → r'.state.grafted ≡ r.state.grafted → Shrinks r r'
unfolding announcers grafted_for
same m g = record { sorted = λ o. rw m o; announcing = λ p id h. rw m at h; grafting = λ p id h. rw g at h }

-- caches

module _ {A : Type 0} where
  pub get-replace-other : (j k : ℕ) (v : A) (c : Cache A) → eqb j k ≡ false → get j (replace k v c) ≡ get j c
  unfolding get replace with_value
  get-replace-other j k v c h = ap value_of (other (lookup k c.entries))
    where
      other : (o : Option (Timed A)) → lookup j (with_value k v o c.entries) ≡ lookup j c.entries
      other None = refl
      other (Some t) = lookup-insert-other j k _ c.entries h

  pub get-replace-same : (k : ℕ) (v g : A) (c : Cache A) → get k c ≡ Some g → get k (replace k v c) ≡ Some v
  unfolding get replace with_value value_of
  get-replace-same k v g c h = on (lookup k c.entries) h
    where
      on : (o : Option (Timed A)) → value_of o ≡ Some g → value_of (lookup k (with_value k v o c.entries)) ≡ Some v
      on None e = let z : false ≡ true = cc in true≢ z
      on (Some t) e = ap value_of (lookup-insert-same k _ c.entries)

  lookup-pop : (k : ℕ) (x : Expiry) (m : Map (Timed A)) → (lookup k (pop x m) ≡ lookup k m) ⊎ (lookup k (pop x m) ≡ None)
  unfolding pop
  lookup-pop k x m =
      cases (expires_at x.time (lookup x.key m))
      (λ p. rw p (cases (eqb k x.key)
      (λ e. inr (rw (eqb-true k x.key e) (lookup-remove-same x.key m)))
      (λ e. inl (lookup-remove-other k x.key m e))))
      (λ p. rw p (inl refl))

  -- what stands after some are popped stood before
  pub lookup-pop_all : (k : ℕ) (xs : List Expiry) (m : Map (Timed A)) → (lookup k (pop_all xs m) ≡ lookup k m) ⊎ (lookup k (pop_all xs m) ≡ None)
  unfolding pop_all
  lookup-pop_all k [] m = inl refl
  lookup-pop_all k (x ∷ xs) m = on (lookup-pop_all k xs (pop x m)) (lookup-pop k x m)
    where
      on : (lookup k (pop_all xs (pop x m)) ≡ lookup k (pop x m)) ⊎ (lookup k (pop_all xs (pop x m)) ≡ None) →
          (lookup k (pop x m) ≡ lookup k m) ⊎ (lookup k (pop x m) ≡ None) → (lookup k (pop_all xs (pop x m)) ≡ lookup k m) ⊎ (lookup k (pop_all xs (pop x m)) ≡ None)
      on (inr e) h = inr e
      on (inl e) (inl h) = inl (e ∙ h)
      on (inl e) (inr h) = inr (e ∙ h)

-- the first sender, or the peer kept, is set: the peers stay

peers-first : (id j : ℕ) (h : Hop) (o : Option Grafts) (s : State) → get id s.grafted ≡ o → grafted_for j (with_first id h o s) ≡ grafted_for j s
unfolding with_first grafted_for peers_of
peers-first id j h None s e = refl
peers-first id j h (Some g) s e =
    cases (eqb j id)
    (λ q. rw (eqb-true j id q) (ap peers_of (get-replace-same id (record { first = Some h; kept = g.kept; peers = g.peers }) g s.grafted e) ∙ sym (ap peers_of e)))
    (λ q. ap peers_of (get-replace-other j id _ s.grafted q))

missing-first : (id : ℕ) (h : Hop) (o : Option Grafts) (s : State) → (with_first id h o s).missing ≡ s.missing
unfolding with_first
missing-first id h None s = refl
missing-first id h (Some g) s = refl

pub shrinks-set_first : (id sender round : ℕ) (r : Run) → Shrinks r (set_first id sender round r)
unfolding set_first announcers
shrinks-set_first id sender round r = record {
  sorted = λ o. rw missing-first o;
  announcing = λ p j h. rw missing-first at h;
  grafting = λ p j h. subst (λ (m : Map ℕ). has p m ≡ true) (peers-first id j _ (get id r.state.grafted) r.state refl) h;
}

peers-kept : (id j p : ℕ) (o : Option Grafts) (s : State) → get id s.grafted ≡ o → grafted_for j (with_kept id p o s) ≡ grafted_for j s
unfolding with_kept grafted_for peers_of
peers-kept id j p None s e = refl
peers-kept id j p (Some g) s e =
    cases (eqb j id)
    (λ q. rw (eqb-true j id q) (ap peers_of (get-replace-same id (record { first = g.first; kept = Some p; peers = g.peers }) g s.grafted e) ∙ sym (ap peers_of e)))
    (λ q. ap peers_of (get-replace-other j id _ s.grafted q))

missing-kept : (id p : ℕ) (o : Option Grafts) (s : State) → (with_kept id p o s).missing ≡ s.missing
unfolding with_kept
missing-kept id p None s = refl
missing-kept id p (Some g) s = refl

shrinks-keep : (id p : ℕ) (r : Run) → Shrinks r (set_kept id p r)
unfolding set_kept announcers
shrinks-keep id q r = record {
  sorted = λ o. rw missing-kept o;
  announcing = λ p j h. rw missing-kept at h;
  grafting = λ p j h. subst (λ (m : Map ℕ). has p m ≡ true) (peers-kept id j q (get id r.state.grafted) r.state refl) h;
}

-- the others

announcing-remove : (p j id : ℕ) (m : Map (List Hop)) → any (hop_is_of p) (hops_of (lookup j (remove id m))) ≡ true → any (hop_is_of p) (hops_of (lookup j m)) ≡ true
unfolding hops_of any
announcing-remove p j id m h =
    cases (eqb j id)
    (λ e. true≢ (rw (eqb-true j id e, lookup-remove-same id m) at h))
    (λ e. rw (lookup-remove-other j id m e) at h)

shrinks-forget_missing : (id : ℕ) (r : Run) → Shrinks r (forget_missing id r)
unfolding forget_missing announcers grafted_for
shrinks-forget_missing id r = record { sorted = λ o. ascending-remove id r.state.missing o; announcing = λ p j h. announcing-remove p j id r.state.missing h; grafting = λ p j h. h }

shrinks-evict : (now : ℕ) (r : Run) → Shrinks r (on_evict_cache_timer now r)
unfolding on_evict_cache_timer evict act announcers grafted_for get expire_until value_of peers_of lookup
shrinks-evict now r = record { sorted = λ o. o; announcing = λ p j h. h; grafting = λ p j h. on p j (lookup-pop_all j (due now r.state.grafted.expiry) r.state.grafted.entries) h }
  where
    xs : List Expiry
    xs = due now r.state.grafted.expiry

    on : (p j : ℕ) → (lookup j (pop_all xs r.state.grafted.entries) ≡ lookup j r.state.grafted.entries) ⊎ (lookup j (pop_all xs r.state.grafted.entries) ≡ None) →
        has p (peers_of (value_of (lookup j (pop_all xs r.state.grafted.entries)))) ≡ true → has p (peers_of (value_of (lookup j r.state.grafted.entries))) ≡ true
    on p j (inl e) h = rw e at h
    on p j (inr e) h = true≢ (rw e at h)

only-shrinks : {r r' : Run} → RecordOnly r r' → Shrinks r r'
only-shrinks a = same a.missing a.grafted

shrinks-schedule_dispatch : (r : Run) → Shrinks r (schedule_dispatch r)
unfolding schedule_dispatch act
shrinks-schedule_dispatch r = shrinks-if r.state.timers.dispatch (shrinks-refl r) (same refl refl)

shrinks-lazy_push : (id round sender : ℕ) (r : Run) → Shrinks r (lazy_push id round sender r)
unfolding lazy_push
shrinks-lazy_push id round sender r = shrinks-trans r _ _ (same refl refl) (shrinks-schedule_dispatch _)

shrinks-schedule_graft : (id : ℕ) (r : Run) → Shrinks r (schedule_graft id r)
unfolding schedule_graft act
shrinks-schedule_graft id r = shrinks-if (member id r.state.timers.graft) (shrinks-refl r) (same refl refl)

pub shrinks-sending : Sending Shrinks
unfolding send
shrinks-sending = record { stays = shrinks-refl; follows = shrinks-trans; sends = λ p m r. same refl refl; notes = λ p hs r. only-shrinks (only-note_dropped p hs r) }

pub shrinks-steps : Steps Shrinks
unfolding update_links mark_received unmark act
shrinks-steps = record {
  sending = shrinks-sending;
  schedules = λ d t r. same refl refl;
  queues = shrinks-lazy_push;
  marks_eager = λ p r. same refl refl;
  marks_lazy = λ p r. same refl refl;
  receives = λ now id r. same refl refl;
  sets_first = shrinks-set_first;
  keeps = shrinks-keep;
  forgets = shrinks-forget_missing;
  counts = λ c r. same refl refl;
  schedules_graft = shrinks-schedule_graft;
  unmarks = λ id r. same refl refl;
  evicts = shrinks-evict;
  begins = λ r. same refl refl;
}

pub shrinks-caches : (now id : ℕ) (content : List ℕ) (round : ℕ) (r : Run) → Shrinks r (cache_at now id content round r)
unfolding cache_at
shrinks-caches now id content round r = same refl refl

pub shrinks-act : (a : Action) (r : Run) → Shrinks r (act a r)
unfolding act
shrinks-act a r = same refl refl

pub shrinks-dispatch : (r : Run) → Shrinks r (on_dispatch_timer r)
unfolding on_dispatch_timer clear_dispatch
shrinks-dispatch r = shrinks-trans r _ _ (same refl refl) (shrinks-trans _ _ _ (walk-dispatch_to Shrinks shrinks-sending _ _ _ _) (same refl refl))

pub shrinks-announce_dropped : (r : Run) → Shrinks r (on_announce_dropped_timer r)
unfolding on_announce_dropped_timer move_oldest dispatch_if_queued
shrinks-announce_dropped r =
    let r₁ : Run = with_state (move_oldest (still_cached r.state) r.state) r in
    shrinks-trans r r₁ _ (same refl refl)
    (shrinks-trans r₁ (dispatch_if_queued r₁) _ (shrinks-if (is_empty r₁.state.queue) (shrinks-refl r₁) (shrinks-schedule_dispatch r₁))
    (only-shrinks (only-schedule (dispatch_if_queued r₁))))

-- IHave

any-add_announcer : (f : Hop → Bool) (h : Hop) (hs : List Hop) → any f (add_announcer h hs) ≡ true → (any f hs ≡ true) ⊎ (f h ≡ true)
unfolding add_announcer
any-add_announcer f h hs e =
    cases (any (λ x. eqb x.peer h.peer) hs) (λ p. inl (rw p at e))
    (λ p. last (or_cases (any f hs) (any f (h ∷ [])) (sym (any_append f hs (h ∷ [])) ∙ (rw p at e))))
  where
    last : (any f hs ≡ true) ⊎ (any f (h ∷ []) ≡ true) → (any f hs ≡ true) ⊎ (f h ≡ true)
    last (inl x) = inl x
    last (inr x) = inr (sym (any-one f h) ∙ x)

announcing-announce : (p j id : ℕ) (h : Hop) (r : Run) → any (hop_is_of p) (announcers j (announce id h r).state) ≡ true →
    (any (hop_is_of p) (announcers j r.state) ≡ true) ⊎ ((eqb id j ≡ true) × (eqb h.peer p ≡ true))
unfolding announce announcers hops_of
announcing-announce p j id h r e =
    cases (eqb j id)
    (λ q. here q (any-add_announcer (hop_is_of p) h (announcers id r.state) (rw (eqb-true j id q, lookup-insert-same) at e)))
    (λ q. inl (rw (lookup-insert-other j id _ r.state.missing q) at e))
  where
    here : eqb j id ≡ true → (any (hop_is_of p) (announcers id r.state) ≡ true) ⊎ (eqb h.peer p ≡ true) →
        (any (hop_is_of p) (announcers j r.state) ≡ true) ⊎ ((eqb id j ≡ true) × (eqb h.peer p ≡ true))
    here q (inl x) = inl (rw (eqb-true j id q) x)
    here q (inr x) = inr (eqb-sym id j ∙ q, x)

-- what an IHave adds
pub record Hears (sender : ℕ) (hs : List Ihave) (r r' : Run) : Type 0 where
  pub sorted : Sorted r.state → Sorted r'.state
  pub announcing : (p id : ℕ) → any (hop_is_of p) (announcers id r'.state) ≡ true → (any (hop_is_of p) (announcers id r.state) ≡ true) ⊎ ((eqb sender p ≡ true) × (lists id hs ≡ true))
  pub grafting : (p id : ℕ) → has p (grafted_for id r'.state) ≡ true → has p (grafted_for id r.state) ≡ true

hears-one : (sender : ℕ) (h : Ihave) (r : Run) → Hears sender (h ∷ []) r (on_announced sender h r)
unfolding on_announced announce grafted_for lists
hears-one sender h r =
    cases (holds h.id r.state.received)
    (λ e. rw e (record { sorted = λ o. o; announcing = λ p id x. inl x; grafting = λ p id x. x }))
    (λ e. rw e (record {
      sorted = λ o. (shrinks-schedule_graft h.id (announce h.id hop r)).sorted (ascending-insert h.id _ r.state.missing o);
      announcing = λ p id x. on p id (announcing-announce p id h.id hop r ((shrinks-schedule_graft h.id (announce h.id hop r)).announcing p id x));
      grafting = λ p id x. graft p id ((shrinks-schedule_graft h.id (announce h.id hop r)).grafting p id x);
    }))
  where
    hop : Hop
    hop = record { peer = sender; round = h.round }

    graft : (p id : ℕ) → has p (grafted_for id (announce h.id hop r).state) ≡ true → has p (grafted_for id r.state) ≡ true
    graft p id x = x

    on : (p id : ℕ) → (any (hop_is_of p) (announcers id r.state) ≡ true) ⊎ ((eqb h.id id ≡ true) × (eqb sender p ≡ true)) →
        (any (hop_is_of p) (announcers id r.state) ≡ true) ⊎ ((eqb sender p ≡ true) × (lists id (h ∷ []) ≡ true))
    on p id (inl x) = inl x
    on p id (inr (x, y)) = inr (y, any-one (λ g. eqb g.id id) h ∙ x)

pub hears : (sender : ℕ) (hs : List Ihave) (r : Run) → Hears sender hs r (on_ihave sender hs r)
unfolding on_ihave lists
hears sender [] r = record { sorted = λ o. o; announcing = λ p id x. inl x; grafting = λ p id x. x }
hears sender (h ∷ hs) r =
    let a = hears-one sender h r in
    let b = hears sender hs (on_announced sender h r) in
    record {
      sorted = λ o. b.sorted (a.sorted o);
      announcing = λ p id x. on p id a (b.announcing p id x);
      grafting = λ p id x. a.grafting p id (b.grafting p id x);
    }
  where
    on : (p id : ℕ) → Hears sender (h ∷ []) r (on_announced sender h r) →
        (any (hop_is_of p) (announcers id (on_announced sender h r).state) ≡ true) ⊎ ((eqb sender p ≡ true) × (lists id hs ≡ true)) →
        (any (hop_is_of p) (announcers id r.state) ≡ true) ⊎ ((eqb sender p ≡ true) × (lists id (h ∷ hs) ≡ true))
    on p id a (inl x) = first (a.announcing p id x)
      where
        first : (any (hop_is_of p) (announcers id r.state) ≡ true) ⊎ ((eqb sender p ≡ true) × (lists id (h ∷ []) ≡ true)) →
            (any (hop_is_of p) (announcers id r.state) ≡ true) ⊎ ((eqb sender p ≡ true) × (lists id (h ∷ hs) ≡ true))
        first (inl y) = inl y
        first (inr (y, z)) = inr (y, any_left (λ g. eqb g.id id) (h ∷ []) hs z)
    on p id a (inr (x, y)) = inr (x, any-right (λ g. eqb g.id id) (h ∷ []) hs y)

-- SendGraft

module _ {A : Type 0} where
  get-put-same : (k : ℕ) (v : A) (t : ℕ) (c : Cache A) → get k (put k v t c) ≡ Some v
  unfolding get put value_of
  get-put-same k v t c = ap value_of (lookup-insert-same k _ c.entries)

  get-put-other : (j k : ℕ) (v : A) (t : ℕ) (c : Cache A) → eqb j k ≡ false → get j (put k v t c) ≡ get j c
  unfolding get put
  get-put-other j k v t c h = ap value_of (lookup-insert-other j k _ c.entries h)

  has-insert : (p q : ℕ) (v : A) (m : Map A) → has p (insert q v m) ≡ true → (has p m ≡ true) ⊎ (eqb q p ≡ true)
  has-insert p q v m h = cases (eqb p q) (λ e. inr (eqb-sym q p ∙ e)) (λ e. inl (sym (ap is_some (lookup-insert-other p q v m e)) ∙ h))

grafting-graft : (p j id t : ℕ) (h : Hop) (o : Option Grafts) (c : Cache Grafts) → get id c ≡ o → has p (peers_of (get j (with_graft id t h o c))) ≡ true →
    (has p (peers_of (get j c)) ≡ true) ⊎ ((eqb id j ≡ true) × (eqb h.peer p ≡ true))
unfolding with_graft peers_of lookup
grafting-graft p j id t h None c e x =
    cases (eqb j id)
    (λ q. inr (eqb-sym id j ∙ q, cases (eqb p h.peer) (λ z. eqb-sym h.peer p ∙ z) (λ z. true≢ (rw z at (rw (eqb-true j id q, get-put-same) at x)))))
    (λ q. inl (rw (get-put-other j id _ t c q) at x))
grafting-graft p j id t h (Some g) c e x =
    cases (eqb j id)
    (λ q. here q (has-insert p h.peer _ g.peers (rw (eqb-true j id q, get-replace-same id _ g c e) at x)))
    (λ q. inl (rw (get-replace-other j id _ c q) at x))
  where
    here : eqb j id ≡ true → (has p g.peers ≡ true) ⊎ (eqb h.peer p ≡ true) → (has p (peers_of (get j c)) ≡ true) ⊎ ((eqb id j ≡ true) × (eqb h.peer p ≡ true))
    here q (inl y) = inl (rw (eqb-true j id q, e) y)
    here q (inr y) = inr (eqb-sym id j ∙ q, y)

announcing-leave : (p j id : ℕ) (hs : List Hop) (m : Map (List Hop)) → any (hop_is_of p) (hops_of (lookup j (if is_empty hs then remove id m else insert id hs m))) ≡ true →
    (any (hop_is_of p) (hops_of (lookup j m)) ≡ true) ⊎ ((eqb j id ≡ true) × (any (hop_is_of p) hs ≡ true))
unfolding hops_of
announcing-leave p j id [] m x = inl (announcing-remove p j id m x)
announcing-leave p j id (h ∷ hs) m x =
    cases (eqb j id)
    (λ q. inr (q, rw (eqb-true j id q, lookup-insert-same) at x))
    (λ q. inl (rw (lookup-insert-other j id _ m q) at x))

sorted-leave : (id : ℕ) (hs : List Hop) (m : Map (List Hop)) → ascending (keys m) ≡ true → ascending (keys (if is_empty hs then remove id m else insert id hs m)) ≡ true
sorted-leave id [] m o = ascending-remove id m o
sorted-leave id (h ∷ hs) m o = ascending-insert id (h ∷ hs) m o

-- what SendGraft adds
pub record Asks (r r' : Run) : Type 0 where
  pub sorted : Sorted r.state → Sorted r'.state
  pub announcing : (p id : ℕ) → any (hop_is_of p) (announcers id r'.state) ≡ true → any (hop_is_of p) (announcers id r.state) ≡ true
  pub grafting : (p id : ℕ) → has p (grafted_for id r'.state) ≡ true →
      (has p (grafted_for id r.state) ≡ true) ⊎ ((any (hop_is_of p) (announcers id r.state) ≡ true) × (any (sends p (is_graft_for id) taken_or_handed_back) r'.actions ≡ true))

asks-first : (now id : ℕ) (hs : List Hop) (r : Run) → announcers id r.state ≡ hs → Asks r (ask_first now id hs r)
unfolding ask_first leave_announcers update_links note_graft send act announcers grafted_for sends is_graft_for
asks-first now id [] r e = record { sorted = λ o. o; announcing = λ p j x. x; grafting = λ p j x. inl x }
asks-first now id (h ∷ hs) r e = record {
  sorted = λ o. sorted-leave id hs r.state.missing o;
  announcing = λ p j x. ann p j (announcing-leave p j id hs r.state.missing x);
  grafting = λ p j x. gra p j (grafting-graft p j id _ h (get id r.state.grafted) r.state.grafted refl x);
}
  where
    ann : (p j : ℕ) → (any (hop_is_of p) (hops_of (lookup j r.state.missing)) ≡ true) ⊎ ((eqb j id ≡ true) × (any (hop_is_of p) hs ≡ true)) → any (hop_is_of p) (announcers j r.state) ≡ true
    ann p j (inl x) = x
    ann p j (inr (q, x)) = rw (eqb-true j id q, e) (any-right (hop_is_of p) (h ∷ []) hs x)

    gra : (p j : ℕ) → (has p (peers_of (get j r.state.grafted)) ≡ true) ⊎ ((eqb id j ≡ true) × (eqb h.peer p ≡ true)) →
        (has p (grafted_for j r.state) ≡ true) ⊎ ((any (hop_is_of p) (announcers j r.state) ≡ true) × (any (sends p (is_graft_for j) taken_or_handed_back) (ask_first now id (h ∷ hs) r).actions ≡ true))
    gra p j (inl x) = inl x
    gra p j (inr (q, x)) = inr (
      rw (← eqb-true id j q, e) (any_left (hop_is_of p) (h ∷ []) hs (any-one (hop_is_of p) h ∙ x)),
      any_left (sends p (is_graft_for j) taken_or_handed_back) _ (Scheduled _ (SendGraft id) ∷ [])
          (any-right (sends p (is_graft_for j) taken_or_handed_back) r.actions (Sent h.peer _ (Graft (Some id) h.round) ∷ []) (any-one (sends p (is_graft_for j) taken_or_handed_back) _ ∙ rw (x, q))),
    )

pub asks : (now id : ℕ) (r : Run) → Asks r (on_send_graft_timer now id r)
unfolding on_send_graft_timer unmark announcers grafted_for
asks now id r =
    cases (holds id r.state.received)
    (λ p. rw p (record { sorted = λ o. o; announcing = λ p j x. x; grafting = λ p j x. inl x }))
    (λ p. let a = asks-first now id (announcers id r.state) (unmark id r) refl in rw p (record { sorted = a.sorted; announcing = a.announcing; grafting = a.grafting }))

-- neighbour down

absent-announcer : (q k : ℕ) (m : Map (List Hop)) → all (ltb k) (keys m) ≡ true → lookup k (forget_announcer q m) ≡ None
unfolding lookup forget_announcer
absent-announcer q k [] a = refl
absent-announcer q k (e ∷ m) a =
    let n : eqb k e.key ≡ false = ne_eqb k e.key (λ z. omega (arith, ltb-true k e.key (all_head (ltb k) e.key (keys m) a))) in
    let ih : lookup k (forget_announcer q m) ≡ None = absent-announcer q k m (all_tail (ltb k) e.key (keys m) a) in
    cases (is_empty (without_announcer q e.value)) (λ p. rw p ih) (λ p. rw p (rw n ih))

any-without : (p q : ℕ) (hs : List Hop) → any (hop_is_of p) (without_announcer q hs) ≡ true → (eqb p q ≡ false) × (any (hop_is_of p) hs ≡ true)
unfolding without_announcer any filter
any-without p q [] h = true≢ h
any-without p q (x ∷ hs) h =
    cases (eqb x.peer q)
    (λ z. more (any-without p q hs (rw z at h)))
    (λ z. cases (eqb x.peer p)
    (λ y. rw y ((rw (← eqb-true x.peer p y) z, refl)))
    (λ y. more (any-without p q hs (rw y at (rw z at h)))))
  where
    more : (eqb p q ≡ false) × (any (hop_is_of p) hs ≡ true) → (eqb p q ≡ false) × (any (hop_is_of p) (x ∷ hs) ≡ true)
    more (n, k) = (n, any-right (hop_is_of p) (x ∷ []) hs k)

announcing-down : (p q j : ℕ) (m : Map (List Hop)) → ascending (keys m) ≡ true → any (hop_is_of p) (hops_of (lookup j (forget_announcer q m))) ≡ true →
    (eqb p q ≡ false) × (any (hop_is_of p) (hops_of (lookup j m)) ≡ true)
unfolding lookup forget_announcer hops_of ascending any
announcing-down p q j [] o h = true≢ h
announcing-down p q j (e ∷ m) o h =
    cases (eqb j e.key)
    (λ z. rw z (cases (is_empty (without_announcer q e.value))
    (λ y. true≢ (rw (absent-announcer q j m (rw (eqb-true j e.key z) above)) at (rw y at h)))
    (λ y. any-without p q e.value (rw z at (rw y at h)))))
    (λ z. rw z (cases (is_empty (without_announcer q e.value))
    (λ y. announcing-down p q j m rest (rw y at h))
    (λ y. announcing-down p q j m rest (rw z at (rw y at h)))))
  where
    above : all (ltb e.key) (keys m) ≡ true
    above = and_left (all (ltb e.key) (keys m)) (ascending (keys m)) o

    rest : ascending (keys m) ≡ true
    rest = and_right (all (ltb e.key) (keys m)) (ascending (keys m)) o

grafting-down : (p q j : ℕ) (m : Map (Timed Grafts)) → has p (peers_of (value_of (lookup j (map (without_graft q) m)))) ≡ true →
    (eqb p q ≡ false) × (has p (peers_of (value_of (lookup j m))) ≡ true)
unfolding lookup without_graft value_of peers_of
grafting-down p q j [] h = true≢ h
grafting-down p q j (e ∷ m) h =
    cases (eqb j e.key)
    (λ z. rw z (here (rw z at h)))
    (λ z. rw z (grafting-down p q j m (rw z at h)))
  where
    here : has p (remove q e.value.value.peers) ≡ true → (eqb p q ≡ false) × (has p e.value.value.peers ≡ true)
    here k = cases (eqb p q)
        (λ y. true≢ (rw (eqb-true p q y, lookup-remove-same) at k))
        (λ y. (y, rw (lookup-remove-other p q e.value.value.peers y) at k))

all-forget : (f : ℕ → Bool) (q : ℕ) (m : Map (List Hop)) → all f (keys m) ≡ true → all f (keys (forget_announcer q m)) ≡ true
unfolding forget_announcer
all-forget f q [] a = a
all-forget f q (e ∷ m) a =
    let ih : all f (keys (forget_announcer q m)) ≡ true = all-forget f q m (all_tail f e.key (keys m) a) in
    cases (is_empty (without_announcer q e.value)) (λ p. rw p ih) (λ p. rw p (all_cons f e.key (keys (forget_announcer q m)) (all_head f e.key (keys m) a) ih))

pub sorted-forget : (q : ℕ) (m : Map (List Hop)) → ascending (keys m) ≡ true → ascending (keys (forget_announcer q m)) ≡ true
unfolding forget_announcer ascending
sorted-forget q [] o = o
sorted-forget q (e ∷ m) o =
    let above : all (ltb e.key) (keys m) ≡ true = and_left (all (ltb e.key) (keys m)) (ascending (keys m)) o in
    let ih : ascending (keys (forget_announcer q m)) ≡ true = sorted-forget q m (and_right (all (ltb e.key) (keys m)) (ascending (keys m)) o) in
    cases (is_empty (without_announcer q e.value)) (λ p. rw p ih) (λ p. rw p (and_intro (all-forget (ltb e.key) q m above) ih))

-- what "down" leaves
pub record ForgetsPeer (q : ℕ) (s s' : State) : Type 0 where
  pub sorted : Sorted s'
  pub announcing : (p id : ℕ) → any (hop_is_of p) (announcers id s') ≡ true → (eqb p q ≡ false) × (any (hop_is_of p) (announcers id s) ≡ true)
  pub grafting : (p id : ℕ) → has p (grafted_for id s') ≡ true → (eqb p q ≡ false) × (has p (grafted_for id s) ≡ true)

pub forgets-peer : (q : ℕ) (s : State) → ascending (keys s.missing) ≡ true → ForgetsPeer q s (forget_peer q s)
unfolding forget_peer announcers grafted_for forget_grafted get
forgets-peer q s o = record {
  sorted = sorted-forget q s.missing o;
  announcing = λ p id h. announcing-down p q id s.missing o h;
  grafting = λ p id h. grafting-down p q id s.grafted.entries h;
}
