-- What each step of a new Swarm message leaves and asks, and that together they are the whole.
-- Assumes nothing.
use Rattle.payloads.proofs.Words.{◌≡◌, refl, sym, ap, ◌∙◌, Bool, true, false, not, ◌&&◌, ℕ, suc, ◌+◌, ◌≤◌, ◌^◌, arith, length, List, [], ◌∷◌, if◌then◌else◌, Option, Some, None, Map, keys, lookup, true≢, lookup-insert-same, id_of, Timed, Cache, holds, Links, is_neighbour, State, Settings, Limits, Hop, Grafts, Cached, with_links, announcers, graft_out, least_from, far_closer, fits, cached_in, optimised_links, rooms_of, AtRest, Allowed, Call, links_of, AllBelow, these_noted, LinkSet}
use Rattle.std.proofs.Math.Path.{subst}
use Rattle.time_cache.specs.TimeCache.{get, replace, value_of, with_value}
use Rattle.protocol.specs.Gossips.{peers_of, grafted_for, with_first}
use Rattle.decide.specs.StateAfter.{recorded_state, pushed_state, pushed_on_state, lazy_state, taken_state, first_set_state, forgotten_state, optimised_state, closed_state, new_state}
use Rattle.decide.proofs.Broadcast.{holds-put}
use Rattle.steps.specs.Rooms.{rooms_in}
use Rattle.steps.specs.TakeIn.{Takes}
use Rattle.steps.proofs.TakeInLaws.{takes-later, taken-rest, rest-kept, kept-rest}
use Rattle.payloads.specs.OnGossip.{Decided, after_gossip}
use Rattle.payloads.specs.EagerPush.Decided.{PushIs}
use Rattle.payloads.specs.OptimizeTree.{shortcut, ShortcutOf, ShortcutHeld, finished_state}
use Rattle.payloads.specs.declared.on_gossip.NewMessage.{NewMessage}
use Rattle.payloads.proofs.NewGossipLaws.KeptLaws.{kept-first-set, kept-pushed-on, kept-lazy}
use Rattle.payloads.proofs.EagerPushLaws.NoteLaws.{noted-back, these-length}
use Rattle.payloads.proofs.EagerPushLaws.SameLaws.{push-same}
use Rattle.payloads.proofs.OptimizeTreeLaws.{shortcut-same, decided-held, finished}
use Rattle.payloads.proofs.PushedLaws.{queue-within, record-within}

-- the limits, the message caches, the queue, the record and the flag of the first event are left
pub record Rest (s t : State) : Type 0 where
  pub limits : t.limits ≡ s.limits
  pub received : t.received ≡ s.received
  pub cache : t.cache ≡ s.cache
  pub queue : t.queue ≡ s.queue
  pub dropped : t.dropped ≡ s.dropped
  pub init : t.init ≡ s.init

rest-still : (s : State) → Rest s s
rest-still s = record { limits = refl; received = refl; cache = refl; queue = refl; dropped = refl; init = refl }

rest_then : {s t u : State} → Rest s t → Rest t u → Rest s u
rest_then a b = record { limits = b.limits ∙ a.limits; received = b.received ∙ a.received; cache = b.cache ∙ a.cache; queue = b.queue ∙ a.queue; dropped = b.dropped ∙ a.dropped; init = b.init ∙ a.init }

rest-if : (b : Bool) {s t u : State} → Rest s t → Rest s u → Rest s (if b then t else u)
rest-if true x y = x
rest-if false x y = y

rest-links : (l : Links) (s : State) → Rest s (with_links l s)
rest-links l s = record { limits = refl; received = refl; cache = refl; queue = refl; dropped = refl; init = refl }

rest-tree : (sender round : ℕ) (hs : List Hop) (s : State) → Rest s (optimised_state sender round hs s)
unfolding optimised_state
rest-tree sender round [] s = rest-still s
rest-tree sender round (h ∷ hs) s =
    rest-if (far_closer s.settings.optimization_threshold round (least_from h hs).round) (rest-links (optimised_links sender (least_from h hs) s.links) s) (rest-still s)

rest-forgotten : (id : ℕ) (s : State) → Rest s (forgotten_state id s)
unfolding forgotten_state
rest-forgotten id s = record { limits = refl; received = refl; cache = refl; queue = refl; dropped = refl; init = refl }

rest-closed : (id sender round : ℕ) (s : State) → Rest s (closed_state id sender round s)
unfolding closed_state
rest-closed id sender round s =
    rest-if (is_neighbour sender s.links && not (graft_out sender round (grafted_for id s)))
    (rest_then (rest-forgotten id s) (rest-tree sender (suc round) (announcers id s) (forgotten_state id s))) (rest-forgotten id s)

-- `first` leaves the peers
get-replaced : (id : ℕ) (v g : Grafts) (c : Cache Grafts) → get id c ≡ Some g → get id (replace id v c) ≡ Some v
unfolding get replace
get-replaced id v g c e = on (lookup id c.entries) e
  where
    on : (o : Option (Timed Grafts)) → value_of o ≡ Some g → value_of (lookup id (with_value id v o c.entries)) ≡ Some v
    on None q = let z : false ≡ true = unfold value_of in (cc) in true≢ z
    on (Some t) q = unfold with_value in (unfold value_of in (rw (lookup-insert-same id (record { expires = t.expires; value = v }) c.entries) refl))

-- `first` changes the grafted messages alone, and no peer of them
pub record FirstRest (id : ℕ) (s t : State) : Type 0 where
  pub rest : Rest s t
  pub links : t.links ≡ s.links
  pub settings : t.settings ≡ s.settings
  pub missing : t.missing ≡ s.missing
  pub peers : grafted_for id t ≡ grafted_for id s

first_by : (id : ℕ) (h : Hop) (o : Option Grafts) (s : State) → get id s.grafted ≡ o → FirstRest id s (with_first id h o s)
unfolding with_first grafted_for peers_of
first_by id h None s e = record { rest = rest-still s; links = refl; settings = refl; missing = refl; peers = refl }
first_by id h (Some g) s e = record {
  rest = record { limits = refl; received = refl; cache = refl; queue = refl; dropped = refl; init = refl };
  links = refl;
  settings = refl;
  missing = refl;
  peers = rw (get-replaced id (record { first = Some h; kept = g.kept; peers = g.peers }) g s.grafted e, e) refl;
}

rest-first : (id sender round : ℕ) (s : State) → FirstRest id s (first_set_state id sender round s)
unfolding first_set_state
rest-first id sender round s = first_by id (record { peer = sender; round = round }) (get id s.grafted) s refl

-- the stages; `next` is the round that is sent on
module _ (call : Call) (m : NewMessage) (next : ℕ) (s : State) where
  abbrev now : ℕ
  now = call.instant.0

  abbrev id : ℕ
  id = id_of m.id

  abbrev round : ℕ
  round = m.round.0

  abbrev pub taken : State
  taken = taken_state now id m.content.now next s

  abbrev pub first_set : State
  first_set = first_set_state id m.sender round taken

  abbrev pub pushed_on : State
  pushed_on = pushed_on_state (rooms_of call s) id next m.sender first_set

  abbrev pub queued : State
  queued = lazy_state id next m.sender pushed_on

  abbrev pub end : State
  end = closed_state id m.sender round queued

  pub end-new : next ≡ suc round → end ≡ after_gossip call m s
  unfolding new_state
  end-new e =
      ap (λ (n : ℕ). closed_state id m.sender round (lazy_state id n m.sender (pushed_on_state (rooms_of call s) id n m.sender (first_set_state id m.sender round (taken_state now id m.content.now n s))))) e

  pub end-limits : end.limits ≡ s.limits
  unfolding lazy_state pushed_on_state pushed_state recorded_state taken_state
  end-limits = (rest-closed id m.sender round queued).limits ∙ (rest-first id m.sender round taken).rest.limits

  pub end-received : end.received ≡ taken.received
  unfolding lazy_state pushed_on_state pushed_state recorded_state
  end-received = (rest-closed id m.sender round queued).received ∙ (rest-first id m.sender round taken).rest.received

  pub end-cache : end.cache ≡ taken.cache
  unfolding lazy_state pushed_on_state pushed_state recorded_state
  end-cache = (rest-closed id m.sender round queued).cache ∙ (rest-first id m.sender round taken).rest.cache

  pub end-queue : end.queue ≡ queued.queue
  end-queue = (rest-closed id m.sender round queued).queue

  pub end-record : end.dropped ≡ pushed_on.dropped
  unfolding lazy_state
  end-record = (rest-closed id m.sender round queued).dropped

  pub first-links : first_set.links ≡ s.links
  unfolding taken_state
  first-links = (rest-first id m.sender round taken).links

  first-settings : first_set.settings ≡ s.settings
  unfolding taken_state
  first-settings = (rest-first id m.sender round taken).settings

  first-missing : first_set.missing ≡ s.missing
  unfolding taken_state
  first-missing = (rest-first id m.sender round taken).missing

  first-peers : grafted_for id first_set ≡ grafted_for id s
  unfolding taken_state grafted_for
  first-peers = (rest-first id m.sender round taken).peers

  pub first-queue : first_set.queue ≡ taken.queue
  first-queue = (rest-first id m.sender round taken).rest.queue

  pub first-record : first_set.dropped ≡ s.dropped
  unfolding taken_state
  first-record = (rest-first id m.sender round taken).rest.dropped

  pub first-cached : holds id first_set.cache ≡ true
  unfolding taken_state
  first-cached = ap (λ (c : Cache Cached). holds id c) (rest-first id m.sender round taken).rest.cache ∙ holds-put id _ _ s.cache

  first-limits : first_set.limits ≡ s.limits
  unfolding taken_state
  first-limits = (rest-first id m.sender round taken).rest.limits

  first-init : first_set.init ≡ s.init
  unfolding taken_state
  first-init = (rest-first id m.sender round taken).rest.init

  taken-init : taken.init ≡ s.init
  unfolding taken_state
  taken-init = refl

  pushed-limits : pushed_on.limits ≡ s.limits
  unfolding pushed_on_state pushed_state recorded_state
  pushed-limits = first-limits

  first-rooms : rooms_of call first_set ≡ rooms_of call s
  unfolding rooms_in
  first-rooms = ap (λ (l : Links). rooms_of call (with_links l s)) first-links

  -- by what was decided
  module _ (d : Decided call m.sender id round s m.decision) where
    abbrev noted : LinkSet
    noted = m.decision.push.noted

    first-decided : PushIs call m.sender (keys (grafted_for id first_set)) id first_set m.decision.push
    first-decided =
        subst (λ (ps : Map ℕ). PushIs call m.sender (keys ps) id first_set m.decision.push) (sym first-peers)
        (push-same s first_set first-links first-record (ap (λ (x : Settings). x.me) first-settings) call m.sender (keys (grafted_for id s)) id m.decision.push d.push)

    pub notes : these_noted (links_of noted) id next first_set ≡ pushed_on
    unfolding pushed_on_state
    notes =
        noted-back call m.decision.push.to id next first_set (links_of noted) (first-decided.noted.same (cached_in first_set.cache) next first-cached)
        ∙ (λ j. pushed_state (first-rooms j) (sym first-decided.to.same j) (record { id = id; round = next }) first_set)

    pub pushed-long : length s.dropped + length (links_of noted) ≡ length pushed_on.dropped
    pushed-long = omega (arith, ap (λ (x : State). length x.dropped) notes, these-length (links_of noted) id next first_set, ap length first-record)

    queued-links : queued.links ≡ s.links
    unfolding lazy_state pushed_on_state pushed_state recorded_state
    queued-links = first-links

    queued-shortcut : ShortcutOf queued m.sender (shortcut (grafted_for id queued) id m.sender round queued) m.decision.shortcut
    unfolding lazy_state pushed_on_state pushed_state recorded_state grafted_for
    queued-shortcut =
        subst (λ (ps : Map ℕ). ShortcutOf queued m.sender (shortcut ps id m.sender round queued) m.decision.shortcut) (sym first-peers)
        (shortcut-same s queued queued-links first-missing (ap (λ (x : Settings). x.optimization_threshold) first-settings) (grafted_for id s) id m.sender round m.decision.shortcut d.shortcut)

    pub finishes : finished_state id m.decision.shortcut queued ≡ end
    finishes = finished id m.sender round queued m.decision.shortcut queued-shortcut

  -- where the whole is within the limits
  module _ (up : next ≡ suc round) (allowed : Allowed (after_gossip call m) s) (done : s.init ≡ true) where
    end_fits : fits end ≡ true
    end_fits = ap fits (end-new up) ∙ allowed.fits

    pub takes : now ≤ 2 ^ 62 → Takes now id m.content.now next s
    takes early = takes-later now id m.content.now next s end allowed.rest early end_fits end-limits end-received end-cache

    taken_rest : AtRest taken
    taken_rest = taken-rest now id m.content.now next s allowed.rest

    first_rest : AtRest first_set
    first_rest = rest-kept first_set (kept-first-set id m.sender round taken (kept-rest taken taken_rest))

    pushed_rest : AtRest pushed_on
    pushed_rest = rest-kept pushed_on (kept-pushed-on (rooms_of call s) id next m.sender first_set (kept-rest first_set first_rest))

    queued_rest : AtRest queued
    queued_rest = rest-kept queued (kept-lazy id next m.sender pushed_on (kept-rest pushed_on pushed_rest))

    pub first-asks : (u : State) → u ≡ taken → AtRest u × (u.init ≡ true)
    first-asks u e = (subst AtRest (sym e) taken_rest, ap (λ (x : State). x.init) e ∙ taken-init ∙ done)

    -- what noting asks
    module _ (d : Decided call m.sender id round s m.decision) (u : State) (e : u ≡ first_set) where
      pub notes-below : AllBelow m.decision.push.noted (length u.links)
      notes-below = subst (λ (x : State). AllBelow m.decision.push.noted (length x.links)) (sym e) (first-decided d).noted.below

      pub notes-room : length u.dropped + length (links_of m.decision.push.noted) ≤ u.limits.D
      notes-room =
          omega (
            arith,
            record-within end end_fits,
            ap length end-record,
            ap (λ (l : Limits). l.D) end-limits,
            pushed-long d,
            ap length first-record,
            ap (λ (x : State). length x.dropped) e,
            ap (λ (x : State). x.limits.D) e,
            ap (λ (l : Limits). l.D) first-limits,
          )

    pub lazy-asks : (u : State) → u ≡ pushed_on → length (lazy_state id next m.sender u).queue ≤ u.limits.Q
    lazy-asks u e =
        omega (
          arith,
          queue-within end end_fits,
          ap length end-queue,
          ap (λ (l : Limits). l.Q) end-limits,
          ap (λ (l : Limits). l.Q) pushed-limits,
          ap (λ (x : State). x.limits.Q) e,
          ap (λ (x : State). length (lazy_state id next m.sender x).queue) e,
        )

    pub finish-asks : Decided call m.sender id round s m.decision → (u : State) → u ≡ queued → AtRest u × ShortcutHeld u m.decision.shortcut
    finish-asks d u e =
        subst (λ (x : State). AtRest x × ShortcutHeld x m.decision.shortcut) (sym e)
        (queued_rest, decided-held queued m.sender (shortcut (grafted_for id queued) id m.sender round queued) m.decision.shortcut (queued-shortcut d))
