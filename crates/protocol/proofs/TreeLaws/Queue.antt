-- The two ticks and the queue: a dispatch tick announces exactly what stands queued, an AnnounceDropped tick queues what stands recorded.
-- Assumes nothing.
use Rattle.std.proofs.Common.{ℕ, zero, suc, ◌≤◌, ◌≡◌, refl, sym, ap, ◌∙◌, Bool, true, false, ◌&&◌, ◌||◌, List, [], ◌∷◌, ◌++◌, ltb, eqb, length, take, drop, take-append-drop, eqb-true}
use Rattle.std.proofs.Math.Bool.{or-false}
use Rattle.storage.specs.Lists.Base.{is_empty, any, filter, count, member}
use Rattle.storage.proofs.ListsLaws.MapLaws.{cases, true≢, and_left, and_right}
use Rattle.storage.proofs.ListsLaws.KeyLaws.{eqb-sym}
use Rattle.storage.proofs.ListsLaws.Lists.{any-cons, any_append, any_left, any-right, any-one}
use Rattle.time_cache.specs.TimeCache.{holds}
use Rattle.postcard.specs.Message.{Ihave, IHave, Sent}
use Rattle.protocol.specs.State.{State, Note, with_queue}
use Rattle.protocol.specs.Run.{Run, with_state, send, takes}
use Rattle.protocol.specs.Push.{for_peer, notes, note_for, send_ihave}
use Rattle.protocol.specs.Ticks.{per_message, chunks, queued_for, queued_peers, send_chunks, dispatch_to, clear_dispatch, on_dispatch_timer, oldest, move_oldest, still_cached, dispatch_if_queued, on_announce_dropped_timer}
use Rattle.protocol.specs.NoNeighbourPassedOver.{lists, sends}
use Rattle.protocol.specs.ReadingsFollowTheTree.{is_payload, payloads_to, announcement_of}
use Rattle.protocol.proofs.Walk.{walk-if}
use Rattle.protocol.proofs.Pushes.{eqb_refl, chunks-cover, queued-lists, queued-length, queued-peer}
use Rattle.protocol.proofs.TreeLaws.Plain.{announcing, payloads-skip, Plain, plain-refl, ◌⨾◌, plain-note_dropped, plain-schedule_dispatch, plain-schedule_announce}
use Rattle.protocol.specs.declared.TheConstants.{DROPPED_PER_TICK}

-- lists

pub any-filtered : {A : Type 0} (f g : A → Bool) (xs : List A) → any f (filter g xs) ≡ true → any f xs ≡ true
unfolding any filter
any-filtered f g [] h = h
any-filtered f g (x ∷ xs) h =
    cases (f x) (λ p. rw p) (λ p. rw p (cases (g x) (λ q. any-filtered f g xs (rw (q, p) at h)) (λ q. any-filtered f g xs (rw q at h))))

pub member-filtered : (f : ℕ → Bool) (p : ℕ) (xs : List ℕ) → member p (filter f xs) ≡ true → (f p ≡ true) × (member p xs ≡ true)
unfolding member filter
member-filtered f p [] h = true≢ h
member-filtered f p (x ∷ xs) h =
    cases (f x)
    (λ q. cases (eqb p x) (λ e. rw e (rw (eqb-true p x e) q, refl)) (λ e. rw e (member-filtered f p xs (rw (q, e) at h))))
    (λ q. let r = member-filtered f p xs (rw q at h) in (r.0, cases (eqb p x) (λ e. rw e) (λ e. rw e r.1)))

-- only these peers, and this identifier
pub only-noted-for : (p j id round : ℕ) (ps : List ℕ) → any (notes p j) (note_for ps id round) ≡ true → (id ≡ j) × (member p ps ≡ true)
unfolding note_for member any
only-noted-for p j id round [] h = true≢ h
only-noted-for p j id round (x ∷ ps) h =
    cases (eqb x p && eqb id j)
    (λ e. (eqb-true id j (and_right (eqb x p) (eqb id j) e), rw (eqb-sym p x ∙ and_left (eqb x p) (eqb id j) e) refl))
    (λ e. let r = only-noted-for p j id round ps (rw e at h) in (r.0, cases (eqb p x) (λ q. rw q) (λ q. rw q r.1)))

-- the dispatch tick

-- payloads as they were; one announcement more if `b`
record Tells (p id : ℕ) (b : Bool) (r r' : Run) : Type 0 where
  payloads : (q : ℕ) → payloads_to q r'.actions ≡ payloads_to q r.actions
  announced : any (announcing p id) r'.actions ≡ (any (announcing p id) r.actions || b)

and-none : (b : Bool) → (b && false) ≡ false
and-none true = refl
and-none false = refl

and-true : (b : Bool) → (b && true) ≡ b
and-true true = refl
and-true false = refl

both : (a x b c : Bool) → ((a || (x && b)) || (x && c)) ≡ (a || (x && (b || c)))
both true x b c = refl
both false true b c = refl
both false false b c = refl

module _ (p id : ℕ) where
  tells-none : (r : Run) → Tells p id false r r
  tells-none r = record { payloads = λ q. refl; announced = sym (or-false (any (announcing p id) r.actions)) }

  tells-plain : {b : Bool} {r r' r'' : Run} → Tells p id b r r' → Plain r' r'' → Tells p id b r r''
  tells-plain t k = record { payloads = λ q. k.payloads q ∙ t.payloads q; announced = k.announced p id ∙ t.announced }

  tells-send : (x : ℕ) (hs : List Ihave) (r : Run) → Tells p id (eqb x p && lists id hs) r (send x (IHave hs) r)
  unfolding send
  tells-send x hs r = record {
    payloads = λ q. payloads-skip q r.actions _ (unfold payloads_to is_payload in (rw (and-none (eqb x q)) refl));
    announced = any_append (announcing p id) r.actions (Sent x (takes x r) (IHave hs) ∷ []) ∙ ap (λ b. any (announcing p id) r.actions || b) (any-one (announcing p id) (Sent x (takes x r) (IHave hs)) ∙ same);
  }
    where
      same : announcing p id (Sent x (takes x r) (IHave hs)) ≡ (eqb x p && lists id hs)
      same = unfold sends announcement_of in (and-true (eqb x p && lists id hs))

  tells-send_ihave : (x : ℕ) (hs : List Ihave) (r : Run) → Tells p id (eqb x p && lists id hs) r (send_ihave x hs r)
  unfolding send_ihave
  tells-send_ihave x hs r =
      cases (takes x r) (λ t. rw t (tells-send x hs r)) (λ t. rw t (tells-plain (tells-send x hs r) (plain-note_dropped x hs (send x (IHave hs) r))))

  tells-send_chunks : (x : ℕ) (cs : List (List Ihave)) (r : Run) → Tells p id (eqb x p && any (lists id) cs) r (send_chunks x cs r)
  unfolding send_chunks
  tells-send_chunks x [] r = unfold any in (rw (and-none (eqb x p)) (tells-none r))
  tells-send_chunks x (hs ∷ cs) r =
      let a = tells-send_ihave x hs r in
      let b = tells-send_chunks x cs (send_ihave x hs r) in
      record {
        payloads = λ q. b.payloads q ∙ a.payloads q;
        announced = b.announced ∙ ap (λ (y : Bool). y || (eqb x p && any (lists id) cs)) a.announced ∙ both (any (announcing p id) r.actions) (eqb x p) (lists id hs) (any (lists id) cs)
            ∙ ap (λ (y : Bool). any (announcing p id) r.actions || (eqb x p && y)) (sym (any-cons (lists id) hs cs));
      }

  -- what the pieces of this peer's queue list
  abbrev pieced : ℕ → List Note → Bool
  pieced k ns = any (lists id) (chunks (length ns) k (queued_for p ns))

  again : (a c m : Bool) → ((a || c) || (m && c)) ≡ (a || c)
  again true c m = refl
  again false true true = refl
  again false true false = refl
  again false false true = refl
  again false false false = refl

  tells-dispatch_to : (ps : List ℕ) (k : ℕ) (ns : List Note) (r : Run) → Tells p id (member p ps && pieced k ns) r (dispatch_to ps k ns r)
  unfolding dispatch_to member
  tells-dispatch_to [] k ns r = tells-none r
  tells-dispatch_to (x ∷ ps) k ns r =
      let a = tells-send_chunks x (chunks (length ns) k (queued_for x ns)) r in
      let b = tells-dispatch_to ps k ns (send_chunks x (chunks (length ns) k (queued_for x ns)) r) in
      record {
        payloads = λ q. b.payloads q ∙ a.payloads q;
        announced = b.announced ∙ ap (λ (y : Bool). y || (member p ps && pieced k ns)) a.announced ∙ cases (eqb p x)
            (λ e. rw e (rw (← eqb-true p x e) (rw (eqb_refl p) (again (any (announcing p id) r.actions) (pieced k ns) (member p ps)))))
            (λ e. rw e (rw (eqb-sym x p ∙ e) (rw (or-false (any (announcing p id) r.actions)) refl)));
      }

  pub dispatch-payloads : (r : Run) (q : ℕ) → payloads_to q (on_dispatch_timer r).actions ≡ payloads_to q r.actions
  unfolding on_dispatch_timer clear_dispatch
  dispatch-payloads r q = (tells-dispatch_to (queued_peers r.state.queue) (per_message r.state.settings.max_message_size) r.state.queue (with_state (with_queue [] r.state) r)).payloads q

  dispatch-announced : (r : Run) → any (announcing p id) (on_dispatch_timer r).actions ≡ (any (announcing p id) r.actions || (member p (queued_peers r.state.queue) && pieced (per_message r.state.settings.max_message_size) r.state.queue))
  unfolding on_dispatch_timer clear_dispatch
  dispatch-announced r = (tells-dispatch_to (queued_peers r.state.queue) (per_message r.state.settings.max_message_size) r.state.queue (with_state (with_queue [] r.state) r)).announced

  pieced-all : (k : ℕ) (ns : List Note) → 1 ≤ k → any (notes p id) ns ≡ true → pieced k ns ≡ true
  unfolding lists
  pieced-all k ns one h = chunks-cover (λ h. eqb h.id id) (length ns) k (queued_for p ns) one (queued-length p ns) (queued-lists p id ns h)

  or-true : (b : Bool) → (b || true) ≡ true
  or-true true = refl
  or-true false = refl

  -- all that is queued
  pub dispatch-tells : (r : Run) → 1 ≤ per_message r.state.settings.max_message_size → any (notes p id) r.state.queue ≡ true → any (announcing p id) (on_dispatch_timer r).actions ≡ true
  dispatch-tells r one h =
      dispatch-announced r ∙ rw (queued-peer p id r.state.queue h, pieced-all (per_message r.state.settings.max_message_size) r.state.queue one h) (or-true (any (announcing p id) r.actions))

  chunks-only : (f : Ihave → Bool) (pieces k : ℕ) (hs : List Ihave) → any (any f) (chunks pieces k hs) ≡ true → any f hs ≡ true
  unfolding chunks any
  chunks-only f zero k hs h = true≢ h
  chunks-only f (suc pieces) k [] h = h
  chunks-only f (suc pieces) k (x ∷ hs) h =
      ap (λ (l : List Ihave). any f l) (sym (take-append-drop k (x ∷ hs)))
      ∙ cases (any f (take k (x ∷ hs)))
      (λ q. any_left f (take k (x ∷ hs)) (drop k (x ∷ hs)) q)
      (λ q. any-right f (take k (x ∷ hs)) (drop k (x ∷ hs)) (chunks-only f pieces k (drop k (x ∷ hs)) (rw q at h)))

  queued-only : (ns : List Note) → lists id (queued_for p ns) ≡ true → any (notes p id) ns ≡ true
  unfolding any lists queued_for filter
  queued-only [] h = h
  queued-only (n ∷ ns) h =
      cases (eqb n.peer p)
      (λ q. rw q (cases (eqb n.id id) (λ z. rw z) (λ z. rw z (queued-only ns (rw (q, z) at h)))))
      (λ q. rw q (queued-only ns (rw q at h)))

  pieced-only : (k : ℕ) (ns : List Note) → pieced k ns ≡ true → any (notes p id) ns ≡ true
  unfolding lists
  pieced-only k ns h = queued-only ns (chunks-only (λ h. eqb h.id id) (length ns) k (queued_for p ns) h)

  -- and nothing else
  pub dispatch-only : (r : Run) → any (announcing p id) r.actions ≡ false → any (announcing p id) (on_dispatch_timer r).actions ≡ true → any (notes p id) r.state.queue ≡ true
  dispatch-only r none h =
      let k : ℕ = per_message r.state.settings.max_message_size in
      let e : (member p (queued_peers r.state.queue) && pieced k r.state.queue) ≡ true = rw none at (sym (dispatch-announced r) ∙ h) in
      pieced-only k r.state.queue (and_right (member p (queued_peers r.state.queue)) (pieced k r.state.queue) e)

-- the AnnounceDropped tick

any-oldest : (f : Note → Bool) (seen ns : List Note) → any f (oldest seen ns) ≡ true → any f ns ≡ true
unfolding any oldest
any-oldest f seen [] h = h
any-oldest f seen (n ∷ ns) h =
    cases (f n)
    (λ q. rw q)
    (λ q. rw q (cases (ltb (count (for_peer n.peer) seen) DROPPED_PER_TICK) (λ l. any-oldest f (n ∷ seen) ns (rw (l, q) at h)) (λ l. any-oldest f (n ∷ seen) ns (rw l at h))))

-- what it moves was recorded
pub moved-only : (f : Note → Bool) (s : State) → any f (oldest [] (still_cached s)) ≡ true → any f s.dropped ≡ true
unfolding still_cached
moved-only f s h = any-filtered f (λ n. holds n.id s.cache) s.dropped (any-oldest f [] (filter (λ n. holds n.id s.cache) s.dropped) h)

pub record Moves (r r' : Run) : Type 0 where
  pub payloads : (p : ℕ) → payloads_to p r'.actions ≡ payloads_to p r.actions
  pub announced : (p id : ℕ) → any (announcing p id) r'.actions ≡ any (announcing p id) r.actions
  pub queue : r'.state.queue ≡ r.state.queue ++ oldest [] (still_cached r.state)

pub moves : (r : Run) → Moves r (on_announce_dropped_timer r)
unfolding on_announce_dropped_timer move_oldest dispatch_if_queued
moves r =
    let r₁ : Run = with_state (move_oldest (still_cached r.state) r.state) r in
    let k : Plain r₁ (on_announce_dropped_timer r) = walk-if Plain (is_empty r₁.state.queue) (plain-refl r₁) (plain-schedule_dispatch r₁) ⨾ plain-schedule_announce _ in
    record { payloads = k.payloads; announced = k.announced; queue = k.queue }
