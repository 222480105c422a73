-- What a copy of a message received before is, case by case, and what follows.
-- Assumes nothing.
use Rattle.payloads.proofs.Words.{◌≡◌, ℕ, get_or, refl, sym, ap, ◌∙◌, arith, Bool, true, false, not, ◌&&◌, ◌||◌, List, [], ◌∷◌, ◌++◌, append-nil, leb, eqb, if◌then◌else◌, Option, Some, None, is_some, eqb-true, all, ascending, Map, keys, has, id_of, Id, cases, true≢, and_right, all_head, all_tail, get, replace, Delivery, Prune, Sent, action_bytes, message_bytes, send_head, Mark, Links, is_eager, is_neighbour, add_lazy, State, Hop, Grafts, with_grafted, same_as, no_more_hops, duplicate, repeated, faster, kth_taken, settled, link_at, peer_at, linked, rooms_of, LinkAt, AtRest, HeldAt, numbered_link, Call, NumberedLink, settled-as, same_links}
use lib.ListN.{length-map}
use Rattle.storage.specs.Lists.Base.{concat_map}
use Rattle.storage.specs.Lists.Map.{lookup}
use Rattle.storage.proofs.ListsLaws.Places.{all-at}
use Rattle.time_cache.proofs.Orders.{up_of}
use Rattle.postcard.specs.Values.{delivery_value}
use Rattle.postcard.specs.declared.message.Delivery.{Delivery as CodeDelivery}
use Rattle.postcard.proofs.Listed.{sent_head}
use Rattle.protocol.specs.Links.{marked, eager_in}
use Rattle.protocol.specs.Whole.{grafts_whole, neighbours}
use Rattle.protocol.specs.Gossips.{late_from, late_kind, with_kept, Late as LateKind}
use Rattle.decide.specs.Rooms.{first_send}
use Rattle.decide.specs.ActionsAfter.{late_actions}
use Rattle.decide.specs.StateAfter.{late_state}
use Rattle.block.specs.Caches.GraftSteps.{grafts_at, kept_at}
use Rattle.block.proofs.LinkLaws.{eager-here}
use Rattle.steps.specs.Rooms.{rooms_in}
use Rattle.steps.specs.Settled.Then.{no_grafted}
use Rattle.steps.proofs.SettledLaws.ThenLaws.{settled-still}
use Rattle.steps.proofs.RoomsLaws.{kth-link, kth-stranger}
use Rattle.payloads.specs.OnLateGraftReply.{copy_kind, late_value, late_bytes, kept_state, after_late}
use Rattle.payloads.specs.declared.on_late_graft_reply.LateCopy.{LateCopy}
use Rattle.payloads.specs.declared.on_late_graft_reply.Late.{Late}
use Rattle.payloads.specs.declared.on_late_graft_reply.Late.TheVariants.{Duplicate, Repeated, Faster}

-- whether the link of a peer is eager
pub link-eager : (s : State) (p l : ℕ) → ascending (keys s.links) ≡ true → LinkAt s p l → (k : NumberedLink) → k ≡ numbered_link l (link_at s l) → eager_in p s.links ≡ k.eager
link-eager s p l up a k e =
    eager-here p l s.links (up_of (keys s.links) up) (record { within = omega (arith, a.below, length-map s.links (λ e. e.key)); same = a.peer })
    ∙ ap (λ (x : NumberedLink). x.eager) (sym e)

-- a stranger is not
pub stranger-lazy : (p : ℕ) (m : Links) → is_neighbour p m ≡ false → eager_in p m ≡ false
unfolding eager_in marked
stranger-lazy p m n = by (lookup p m) n
  where
    by : (o : Option Mark) → is_some o ≡ false → marked is_eager o ≡ false
    by None e = refl
    by (Some x) e = true≢ (sym e)

-- two tests
pub second-no : (a b : Bool) → b ≡ false → (a && b) ≡ false
second-no false b h = refl
second-no true b h = h

-- four tests, of which the first and the third are known
first-no : (a b c e : Bool) → a ≡ false → (a && b && c && e) ≡ false
first-no false b c e h = refl
first-no true b c e h = true≢ (sym h)

third-no : (a b c e : Bool) → c ≡ false → (a && b && c && e) ≡ false
third-no false b c e h = refl
third-no true false c e h = refl
third-no true true false e h = refl
third-no true true true e h = true≢ (sym h)

both-yes : (a b c e : Bool) → a ≡ true → c ≡ true → (a && b && c && e) ≡ (b && e)
both-yes true true true e h k = refl
both-yes true false true e h k = refl
both-yes false b c e h k = true≢ h
both-yes true true false e h k = true≢ k
both-yes true false false e h k = refl

-- a copy, once the grafts are there
module _ (sender : ℕ) (d : Delivery) (l : Links) (g : Grafts) where
  pub from-none : None ≡ g.first → duplicate ≡ late_from sender d l g g.first
  unfolding late_from
  from-none e = ap (late_from sender d l g) e

  pub from-other : has sender g.peers ≡ false → duplicate ≡ late_from sender d l g g.first
  unfolding late_from
  from-other q = by g.first
    where
      by : (o : Option Hop) → duplicate ≡ late_from sender d l g o
      by None = refl
      by (Some f) = rw q refl

  module _ (f : Hop) (e : Some f ≡ g.first) (q : has sender g.peers ≡ true) where
    abbrev again : Bool
    again = eqb f.peer sender || same_as sender g.kept

    abbrev near : Bool
    near = no_more_hops d f.round && not (has f.peer g.peers) && eager_in sender l && eager_in f.peer l

    asked : (if again then repeated else if near then faster f.peer else duplicate) ≡ late_from sender d l g g.first
    unfolding late_from
    asked =
        sym (ap (λ (b : Bool). if not b then duplicate else if again then repeated else if near then faster f.peer else duplicate) q)
        ∙ ap (late_from sender d l g) e

    pub from-again : again ≡ true → repeated ≡ late_from sender d l g g.first
    from-again r = sym (ap (λ (b : Bool). if b then repeated else if near then faster f.peer else duplicate) r) ∙ asked

    not-again : again ≡ false → (b : Bool) → near ≡ b → (if b then faster f.peer else duplicate) ≡ late_from sender d l g g.first
    not-again r b n =
        sym (ap (λ (b : Bool). if b then faster f.peer else duplicate) n)
        ∙ sym (ap (λ (b : Bool). if b then repeated else if near then faster f.peer else duplicate) r) ∙ asked

    pub from-far : again ≡ false → no_more_hops d f.round ≡ false → duplicate ≡ late_from sender d l g g.first
    from-far r n = not-again r false (first-no (no_more_hops d f.round) (not (has f.peer g.peers)) (eager_in sender l) (eager_in f.peer l) n)

    pub from-lazy : again ≡ false → eager_in sender l ≡ false → duplicate ≡ late_from sender d l g g.first
    from-lazy r n = not-again r false (third-no (no_more_hops d f.round) (not (has f.peer g.peers)) (eager_in sender l) (eager_in f.peer l) n)

    pub from-near : again ≡ false → no_more_hops d f.round ≡ true → eager_in sender l ≡ true → (b : Bool) → (not (has f.peer g.peers) && eager_in f.peer l) ≡ b
        → (if b then faster f.peer else duplicate) ≡ late_from sender d l g g.first
    from-near r n z b t = not-again r b (both-yes (no_more_hops d f.round) (not (has f.peer g.peers)) (eager_in sender l) (eager_in f.peer l) n z ∙ t)

-- a stranger is not among the peers of a grafted message
not-among : (f : ℕ → Bool) (p : ℕ) (m : Map ℕ) → all f (keys m) ≡ true → f p ≡ false → has p m ≡ false
unfolding lookup
not-among f p [] a n = refl
not-among f p (e ∷ m) a n =
    cases (eqb p e.key) (λ q. true≢ (sym n ∙ ap f (eqb-true p e.key q) ∙ all_head f e.key (keys m) a))
    (λ q. rw q (not-among f p m (all_tail f e.key (keys m) a) n))

-- what a copy is, by what is found for its identifier
module _ (now sender : ℕ) (i : Id) (d : CodeDelivery) (s : State) where
  pub kind-none : get (id_of i) (settled now s).grafted ≡ None → duplicate ≡ copy_kind sender i d (settled now s)
  unfolding late_kind
  kind-none e = sym (ap (late_kind sender (delivery_value d) (settled now s).links) e)

  module _ (at : ℕ) (held : HeldAt no_grafted s.grafted.entries (id_of i) (get (id_of i) (settled now s).grafted) at) where
    pub kind-held : late_from sender (delivery_value d) s.links (grafts_at s at) (grafts_at s at).first ≡ copy_kind sender i d (settled now s)
    unfolding late_kind
    kind-held = sym (λ k. late_kind sender (delivery_value d) (same_links now s k) (held.value k))

    near-peers : AtRest s → all (λ p. is_neighbour p s.links) (keys (grafts_at s at).peers) ≡ true
    unfolding grafts_whole neighbours
    near-peers rest =
        and_right (ascending (keys (grafts_at s at).peers)) (all (λ p. is_neighbour p s.links) (keys (grafts_at s at).peers))
        (all-at (grafts_whole s.links) no_grafted s.grafted.entries rest.consistent.core.grafting at held.below)

    pub kind-stranger : AtRest s → is_neighbour sender s.links ≡ false → duplicate ≡ copy_kind sender i d (settled now s)
    kind-stranger rest n =
        from-other sender (delivery_value d) s.links (grafts_at s at) (not-among (λ p. is_neighbour p s.links) sender (grafts_at s at).peers (near-peers rest) n)
        ∙ kind-held

-- the first send to the event's peer
module _ (call : Call) (s : State) (up : ascending (keys s.links) ≡ true) where
  pub taken-link : (p l : ℕ) → LinkAt s p l → leb 1 (get_or call.rooms.now.links l 0) ≡ kth_taken 1 p (rooms_of call s)
  taken-link p l a = sym (kth-link s call.peer call.rooms.now 1 l up a.below (omega arith)) ∙ ap (λ (n : ℕ). kth_taken 1 n (rooms_of call s)) a.peer

  pub taken-stranger : (p : ℕ) → is_neighbour p s.links ≡ false → p ≡ call.peer → leb 1 call.rooms.now.stranger ≡ kth_taken 1 p (rooms_of call s)
  taken-stranger p n e = rw e (sym (kth-stranger s call.peer call.rooms.now 1 (rw e at n) (omega arith)))

-- the bytes of a Prune, or of none
module _ (call : Call) (c : LateCopy) (s : State) where
  abbrev t : State
  t = settled call.instant.0 s

  abbrev bytes : LateKind → List ℕ
  bytes k = concat_map action_bytes (late_actions (rooms_of call s) c.sender k)

  by-kind : (k : Late) → c.kind ≡ k → late_bytes call c t ≡ bytes (late_value s k)
  unfolding rooms_in
  by-kind k e =
      settled-as call.instant.0 s (λ (u : State). concat_map action_bytes (late_actions (rooms_of call u) c.sender (late_value u c.kind))) refl
      ∙ ap (λ (k : Late). bytes (late_value s k)) e

  pub bytes-sender : c.kind ≡ Duplicate → (b : Bool) → b ≡ kth_taken 1 c.sender (rooms_of call s) → late_bytes call c t ≡ send_head c.sender b ++ message_bytes Prune
  unfolding late_actions first_send concat_map
  bytes-sender e b q =
      by-kind Duplicate e ∙ append-nil (action_bytes (Sent c.sender (kth_taken 1 c.sender (rooms_of call s)) Prune))
      ∙ ap (λ (b : Bool). action_bytes (Sent c.sender b Prune)) (sym q)
      ∙ sent_head c.sender b Prune

  pub bytes-first : (l : ℕ) → c.kind ≡ Faster l → (q : ℕ) → q ≡ peer_at s l → (b : Bool) → b ≡ kth_taken 1 (peer_at s l) (rooms_of call s) → late_bytes call c t ≡ send_head q b ++ message_bytes Prune
  unfolding late_actions first_send concat_map
  bytes-first l e q w b f =
      by-kind (Faster l) e ∙ append-nil (action_bytes (Sent (peer_at s l) (kth_taken 1 (peer_at s l) (rooms_of call s)) Prune))
      ∙ sym (λ k. action_bytes (Sent (w k) (f k) Prune))
      ∙ sent_head q b Prune

  pub bytes-none : c.kind ≡ Repeated → late_bytes call c t ≡ []
  unfolding late_actions concat_map
  bytes-none e = by-kind Repeated e

-- the links are those before
pub kept-links : (c : LateCopy) (s : State) → (kept_state c s).links ≡ s.links
kept-links c s = on (get (id_of c.id) s.grafted)
  where
    on : (o : Option Grafts) → (with_kept (id_of c.id) c.sender o s).links ≡ s.links
    on None = unfold with_kept in refl
    on (Some g) = unfold with_kept in refl

-- the sender is kept, where the entry is there
module _ (now : ℕ) (c : LateCopy) (s : State) (done : s.init ≡ true) where
  by-found : (o : Option Grafts) → get (id_of c.id) (settled now s).grafted ≡ o → kept_state c s ≡ with_kept (id_of c.id) c.sender o s
  by-found o e = ap (λ (x : Option Grafts). with_kept (id_of c.id) c.sender x s) (ap (λ (u : State). get (id_of c.id) u.grafted) (sym (settled-still now s done)) ∙ e)

  pub kept-none : get (id_of c.id) (settled now s).grafted ≡ None → s ≡ kept_state c s
  unfolding with_kept
  kept-none e = sym (by-found None e)

  pub kept-some : (i : ℕ) → HeldAt no_grafted s.grafted.entries (id_of c.id) (get (id_of c.id) (settled now s).grafted) i → kept_at i c.sender s ≡ kept_state c s
  unfolding with_kept
  kept-some i held =
      ap (λ (n : ℕ). with_grafted (replace n (record { first = (grafts_at s i).first; kept = Some c.sender; peers = (grafts_at s i).peers }) s.grafted) s) held.key
      ∙ sym (by-found (Some (grafts_at s i)) held.value)

-- the state after it
module _ (c : LateCopy) (s : State) where
  by-state : (k : Late) → c.kind ≡ k → late_state c.sender (id_of c.id) (late_value s k) s ≡ after_late c s
  by-state k e = ap (λ (x : Late). late_state c.sender (id_of c.id) (late_value s x) s) (sym e)

  pub after-duplicate : c.kind ≡ Duplicate → linked (add_lazy c.sender) s ≡ after_late c s
  unfolding late_state
  after-duplicate = by-state Duplicate

  pub after-repeated : c.kind ≡ Repeated → s ≡ after_late c s
  unfolding late_state
  after-repeated = by-state Repeated

  pub after-faster : (l : ℕ) → c.kind ≡ Faster l → linked (add_lazy (peer_at (kept_state c s) l)) (kept_state c s) ≡ after_late c s
  unfolding late_state
  after-faster l e = ap (λ (m : Links). linked (add_lazy (get_or (keys m) l 0)) (kept_state c s)) (kept-links c s) ∙ by-state (Faster l) e
