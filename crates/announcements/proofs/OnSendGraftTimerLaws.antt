-- SendGraft: what is left once the mark is gone, and what asking the first announcer leaves and sends.
-- Assumes nothing.
use Rattle.announcements.proofs.Words.{◌≡◌, ℕ, suc, ◌+◌, ◌-◌, ◌*◌, ◌^◌, ◌≤◌, ◌<◌, length, get_or, drop, refl, sym, ap, ◌∙◌, arith, Bool, true, false, List, [], ◌∷◌, ◌++◌, append_assoc, add-one, if◌then◌else◌, subst, Some, None, Option, is_some, leb-true, ne_eqb, leb, ltb, eqb, is_empty, ascending, Map, Entry, keys, lookup, insert, remove, remove_key, id_of, true≢, and_left, and_right, length-filter, count-length, concat-append, concat-one, Timed, Expiry, Cache, holds, Action, Sent, Scheduled, Graft, SendGraft, message_bytes, taken_byte, eager, mark_if_there, State, Hop, Grafts, Settings, zero_counts, with_links, with_missing, with_grafted, with_init, with_received, with_cache, Run, begin, announcers_whole, Sizes, sized_timers, sized_missing, sized_grafted, sized_grafted_expiry, peer_at, link_at, linked, rooms_of, AtRest, EntryIs, sizes_value, settled-as, settled-up, settled-low, in_order, same_keys, link-key, kth-link}
use Rattle.std.specs.Prelude.{Option as Option'}
use Rattle.std.specs.Option as std
use lib.ListN.{length-map}
use mir.Val.{bool_byte}
use Rattle.storage.specs.Lists.Base.{member, concat_map}
use Rattle.storage.specs.Lists.Map.{entry}
use Rattle.storage.specs.declared.rows.id.Id.{Id}
use Rattle.storage.proofs.ListsLaws.Places.{all-at}
use Rattle.time_cache.specs.TimeCache.{value_of, get, later_cache}
use Rattle.postcard.specs.Number.{number_bytes}
use Rattle.postcard.specs.Message.{action_bytes}
use Rattle.postcard.specs.Output.{send_head}
use Rattle.protocol.specs.Links.{add_eager}
use Rattle.protocol.specs.State.{durations_in_range}
use Rattle.protocol.specs.Gossips.{announcers}
use Rattle.protocol.specs.Control.{with_graft}
use Rattle.protocol.specs.Whole.{cache_fits, fits}
use Rattle.protocol.specs.declared.TheConstants.{LATEST}
use Rattle.protocol.proofs.ConsistentSteps.{core-timers}
use Rattle.protocol.proofs.ConsistentTables.{ascending-remove_key, wider-mark, wider-grafts, to-announcers}
use Rattle.decide.specs.Rooms.{kth_taken, first_send}
use Rattle.decide.specs.Settled.{settled}
use Rattle.decide.specs.Sizes.{sizes_of, grown, shrunk}
use Rattle.decide.proofs.SizesAfter.{unmarked_sizes, ask_sizes, send_graft_sizes}
use Rattle.decide.specs.StateAfter.{asked_state, send_graft_state}
use Rattle.decide.specs.ActionsAfter.{ask_actions, send_graft_actions}
use Rattle.decide.proofs.TableSizes.{length-remove_key}
use Rattle.decide.proofs.GraftSendGraft.{send_graft-sizes}
use Rattle.decide.proofs.StateAfterLaws.{send_graft-state}
use Rattle.block.specs.View.{state_of}
use Rattle.block.specs.MissingSteps.{hop, missed_at, hops_at, left_after}
use Rattle.block.specs.TimerSteps.{timer_out}
use Rattle.block.specs.declared.head.Head.{Head}
use Rattle.block.specs.declared.hops.Hop.{Hop as LinkHop}
use Rattle.block.specs.Caches.InBlock.{AtMost}
use Rattle.steps.specs.Asked.{grafted_until, Graftable}
use Rattle.block.specs.Found.{MissingAt, HopOf}
use Rattle.steps.specs.declared.call.Call.{Call}
use Rattle.steps.specs.declared.Sizes.{Sizes as CodeSizes}
use Rattle.steps.proofs.EvictStepLaws.{rest-settled}
use Rattle.steps.proofs.TakeInLaws.{byte-small}
use Rattle.announcements.specs.SendGraft.Asks.{asked_first, missing_left}
use Rattle.announcements.specs.OnSendGraftTimer.{send_graft_bytes}

-- the marks
byte-fewer : (b : Bool) (k : ℕ) (xs : List ℕ) → b ≡ member k xs → bool_byte b ≤ length xs
unfolding member
byte-fewer b k [] e = omega (arith, ap bool_byte e)
byte-fewer b k (x ∷ xs) e = omega (arith, byte-small b)

less-byte : (b : Bool) (n : ℕ) → n - bool_byte b ≡ shrunk b n
unfolding shrunk
less-byte true n = refl
less-byte false n = omega arith

module _ (id : ℕ) (s : State) (r : AtRest s) where
  -- the mark is gone
  pub unmarked-rest : AtRest (timer_out id s)
  unmarked-rest = record {
    consistent = record {
      core = core-timers (remove_key id s.timers.graft) s (ascending-remove_key id s.timers.graft r.consistent.core.timers_up) r.consistent.core;
      queue_flag = r.consistent.queue_flag;
      record_flag = r.consistent.record_flag;
    };
    ranged = record { size = r.ranged.size; durations = r.ranged.durations; threshold = r.ranged.threshold; limits = r.ranged.limits };
  }

-- by whether the message is received
module _ (now id : ℕ) (s : State) where
  pub sent-received : holds id s.received ≡ true → timer_out id s ≡ send_graft_state now id s
  unfolding send_graft_state
  sent-received e = sym (ap (λ (t : Bool). if t then timer_out id s else asked_state now id (announcers id s) (timer_out id s)) e)

  pub sent-asked : holds id s.received ≡ false → asked_first now id (timer_out id s) ≡ send_graft_state now id s
  unfolding send_graft_state announcers
  sent-asked e = sym (ap (λ (t : Bool). if t then timer_out id s else asked_state now id (announcers id s) (timer_out id s)) e)

  pub sent-nobody : holds id s.received ≡ false → announcers id (timer_out id s) ≡ [] → timer_out id s ≡ send_graft_state now id s
  unfolding asked_state
  sent-nobody e a = sym (ap (λ (hs : List Hop). asked_state now id hs (timer_out id s)) a) ∙ sent-asked e

-- the first announcer is asked

some-there : (hs : List Hop) → is_empty hs ≡ false → 0 < length hs
some-there [] e = true≢ (sym e)
some-there (x ∷ hs) e = omega arith

-- somebody announced a missing message
pub some-hops : (s : State) (i : ℕ) → AtRest s → i < length s.missing → 0 < length (hops_at s i)
some-hops s i r q =
    some-there (hops_at s i) (to-announcers s.links (missed_at s i) (all-at (announcers_whole s.links) (entry 0 []) s.missing r.consistent.core.announcing i q)).some

asked-hop : (s : State) (now id p rd : ℕ) (hs : List Hop) → 0 < length hs → get_or hs 0 (hop 0 0) ≡ hop p rd
    → with_grafted (with_graft id (now + s.settings.message_cache_retention) (hop p rd) (get id s.grafted) s.grafted)
    (with_links (add_eager p s.links) (with_missing (if is_empty (drop 1 hs) then remove id s.missing else insert id (drop 1 hs) s.missing) s))
    ≡ asked_state now id hs s
unfolding asked_state
asked-hop s now id p rd [] h e = absurd (omega arith)
asked-hop s now id p rd (x ∷ hs) h e =
    ap (λ (y : Hop). with_grafted (with_graft id (now + s.settings.message_cache_retention) y (get id s.grafted) s.grafted)
    (with_links (add_eager y.peer s.links) (with_missing (if is_empty hs then remove id s.missing else insert id hs s.missing) s))) (sym e)

fits-grafted : (s : State) → fits s ≡ true → AtMost s.limits.G s.grafted
unfolding fits cache_fits
fits-grafted s h = record {
  entries = leb-true (length s.grafted.entries) s.limits.G (search (and_left, and_right) depth 25);
  expiry = leb-true (length s.grafted.expiry) (2 * s.limits.G) (search (and_left, and_right) depth 25);
}

retention-small : (c : Settings) → durations_in_range c ≡ true → c.message_cache_retention ≤ 2 ^ 40
unfolding durations_in_range
retention-small c d = leb-true c.message_cache_retention (2 ^ 40) (search (and_left, and_right) depth 25)

module _ (id i : ℕ) (s : State) (rest : AtRest s) (m : MissingAt s id i) (r : LinkHop) (first : HopOf s (get_or (hops_at s i) 0 (hop 0 0)) r) where
  abbrev p : ℕ
  p = peer_at s r.link

  -- the first announcer has left, and is eager
  abbrev pub mid : State
  mid = linked (add_eager p) (left_after i s)

  same-keys : keys (add_eager p s.links) ≡ keys s.links
  unfolding add_eager
  same-keys = same_keys r.link s rest.consistent.core.links_up first.below eager

  same-peer : peer_at mid r.link ≡ p
  same-peer = ap (λ (ks : List ℕ). get_or ks r.link 0) same-keys

  pub asked-graft : (now : ℕ) → grafted_until now r.link id r.round.0 mid ≡ asked_first now id s
  asked-graft now =
      let hs : List Hop = hops_at s i in
      (λ z. with_grafted (with_graft id (now + s.settings.message_cache_retention) (hop (same-peer z) r.round.0) (get id s.grafted) s.grafted)
      (with_links (add_eager p s.links) (with_missing (if is_empty (drop 1 hs) then remove (m.key z) s.missing else insert (m.key z) (drop 1 hs) s.missing) s)))
      ∙ asked-hop s now id p r.round.0 hs (some-hops s i rest m.below) first.same
      ∙ ap (λ (ys : List Hop). asked_state now id ys s) (sym m.same)

  pub asked-graftable : (now : ℕ) → now ≤ LATEST.0 → fits (asked_first now id s) ≡ true → Graftable now r.link id r.round.0 mid
  unfolding add_eager
  asked-graftable now early f = record {
    links = ap ascending same-keys ∙ rest.consistent.core.links_up;
    link = omega (arith, first.below, length-map s.links (λ e. e.key), length-map mid.links (λ e. e.key), ap length same-keys);
    order = in_order s.grafted rest.consistent.core.grafted_on;
    whole = wider-grafts s.links (mark_if_there p eager s.links) (wider-mark p eager s.links) s.grafted.entries rest.consistent.core.grafting;
    room = subst (λ (t : State). AtMost mid.limits.G t.grafted) (sym (asked-graft now))
        (subst (λ (n : ℕ). AtMost n (asked_first now id s).grafted) (ap (λ (t : State). t.limits.G) (sym (asked-graft now))) (fits-grafted (asked_first now id s) f));
    early = early;
    retention = omega (arith, retention-small s.settings rest.ranged.durations);
  }

-- the numbers of entries

-- a message with one announcer goes
less-one : (m n : ℕ) (hs : List Hop) → 0 < length hs → n ≡ length hs → m - bool_byte (eqb n 1) ≡ (if is_empty (drop 1 hs) then m - 1 else m)
unfolding shrunk
less-one m n [] q e = absurd (omega arith)
less-one m n (x ∷ []) q e = ap (λ (k : ℕ). m - bool_byte (eqb k 1)) e
less-one m n (x ∷ y ∷ hs) q e = ap (λ (b : Bool). m - bool_byte b) (ne_eqb n 1 (λ o. omega (arith, e, o))) ∙ less-byte false m

-- what a look-up among the grafted messages found
module _ {A : Type 0} (d : Entry (Timed A)) (m : Map (Timed A)) (id : ℕ) (found : Option A) where
  pub entry-there : (r : Option' ℕ) → EntryIs d m id found r → std.is_some r ≡ true → is_some found ≡ true
  entry-there None h e = true≢ e
  entry-there (Some i) h e = ap is_some h.value

  pub entry-gone : (r : Option' ℕ) → EntryIs d m id found r → std.is_some r ≡ false → is_some found ≡ false
  entry-gone None h e = ap is_some h
  entry-gone (Some i) h e = true≢ (sym e)

holds-some : {A : Type 0} (k : ℕ) (c : Cache A) → holds k c ≡ is_some (get k c)
unfolding get value_of
holds-some {A} k c = go (lookup k c.entries)
  where
    go : (o : Option (Timed A)) → is_some o ≡ is_some (value_of o)
    go None = refl
    go (Some v) = refl

module _ (now id : ℕ) (s : State) (rest : AtRest s) where
  abbrev t : State
  t = settled now s

  settled-announcers : announcers id t ≡ announcers id s
  unfolding announcers
  settled-announcers = settled-as now s (λ (u : State). announcers id u) refl

  settled-timers : t.timers.graft ≡ s.timers.graft
  settled-timers = settled-as now s (λ (u : State). u.timers.graft) refl

  settled-missing : t.missing ≡ s.missing
  settled-missing = settled-as now s (λ (u : State). u.missing) refl

  -- of what the numbers tell
  marks : (z : CodeSizes) → sizes_value z ≡ sizes_of t → z.timers ≡ length s.timers.graft
  unfolding sizes_of
  marks z w = ap (λ (y : Sizes). y.timers) w ∙ ap length settled-timers

  missed : (z : CodeSizes) → sizes_value z ≡ sizes_of t → z.missing ≡ length s.missing
  unfolding sizes_of
  missed z w = ap (λ (y : Sizes). y.missing) w ∙ ap length settled-missing

  pub marks-fewer : (z : CodeSizes) → sizes_value z ≡ sizes_of t → (b : Bool) → b ≡ member id s.timers.graft → bool_byte b ≤ z.timers
  marks-fewer z w b e = omega (arith, marks z w, byte-fewer b id s.timers.graft e)

  pub marks-left : (z : CodeSizes) → sizes_value z ≡ sizes_of t → (b : Bool) → b ≡ member id s.timers.graft → z.timers - bool_byte b ≡ length (timer_out id s).timers.graft
  marks-left z w b e =
      ap (λ (n : ℕ). n - bool_byte b) (marks z w)
      ∙ less-byte b (length s.timers.graft)
      ∙ sym (length-remove_key id s.timers.graft rest.consistent.core.timers_up ∙ ap (λ (c : Bool). shrunk c (length s.timers.graft)) (sym e))

  pub missing-fewer : (z : CodeSizes) → sizes_value z ≡ sizes_of t → (i : ℕ) (b : Bool) → i < length s.missing → bool_byte b ≤ z.missing
  missing-fewer z w i b q = omega (arith, missed z w, byte-small b)

  pub missing-left : (z : CodeSizes) → sizes_value z ≡ sizes_of t → (i n : ℕ) → i < length s.missing → n ≡ length (hops_at s i) → z.missing - bool_byte (eqb n 1) ≡ missing_left i s
  missing-left z w i n q e = ap (λ (m : ℕ). m - bool_byte (eqb n 1)) (missed z w) ∙ less-one (length s.missing) n (hops_at s i) (some-hops s i rest q) e

  -- those of the state after
  after-sized : send_graft_sizes id t ≡ sizes_of (send_graft_state now id t)
  after-sized =
      let r : Run = begin t zero_counts [] in
      sym (send_graft-sizes now id r (rest-settled now s rest).consistent) ∙ ap sizes_of (send_graft-state now id r)

  -- the mark is gone
  module _ (n : ℕ) (e : n ≡ length (timer_out id s).timers.graft) where
    pub unmarked-sized : (z : Sizes) → z ≡ sizes_of t → sized_timers n z ≡ unmarked_sizes id t
    unfolding unmarked_sizes
    unmarked-sized z w =
        (λ k. sized_timers (e k) (w k))
        ∙ ap (λ (l : List ℕ). sized_timers (length (remove_key id l)) (sizes_of t)) (sym settled-timers)
        ∙ ap (λ (k : ℕ). sized_timers k (sizes_of t)) (length-remove_key id t.timers.graft (rest-settled now s rest).consistent.core.timers_up)

    pub sized-received : (z : Sizes) → z ≡ sizes_of t → holds id t.received ≡ true → sized_timers n z ≡ sizes_of (send_graft_state now id t)
    unfolding send_graft_sizes
    sized-received z w h =
        unmarked-sized z w ∙ ap (λ (b : Bool). if b then unmarked_sizes id t else ask_sizes id (announcers id t) t) (sym h) ∙ after-sized

    module _ (h : holds id t.received ≡ false) where
      asks : ask_sizes id (announcers id s) t ≡ sizes_of (send_graft_state now id t)
      unfolding send_graft_sizes
      asks =
          ap (λ (hs : List Hop). ask_sizes id hs t) (sym settled-announcers)
          ∙ ap (λ (b : Bool). if b then unmarked_sizes id t else ask_sizes id (announcers id t) t) (sym h)
          ∙ after-sized

      pub sized-nobody : (z : Sizes) → z ≡ sizes_of t → announcers id s ≡ [] → sized_timers n z ≡ sizes_of (send_graft_state now id t)
      unfolding ask_sizes
      sized-nobody z w a = unmarked-sized z w ∙ sym (ap (λ (hs : List Hop). ask_sizes id hs t) a) ∙ asks

      -- the numbers once the first of these announcers was asked
      asked-of : (hs : List Hop) → 0 < length hs
          → ask_sizes id hs t
          ≡ sized_missing (if is_empty (drop 1 hs) then length s.missing - 1 else length s.missing)
          (sized_grafted (grown (holds id t.grafted) (length t.grafted.entries)) (sized_grafted_expiry (grown (holds id t.grafted) (length t.grafted.expiry)) (unmarked_sizes id t)))
      unfolding ask_sizes
      asked-of [] q = absurd (omega arith)
      asked-of (x ∷ hs) q =
          ap (λ (m : Map (List Hop)). sized_missing (if is_empty hs then length m - 1 else length m)
          (sized_grafted (grown (holds id t.grafted) (length t.grafted.entries)) (sized_grafted_expiry (grown (holds id t.grafted) (length t.grafted.expiry)) (unmarked_sizes id t)))) settled-missing

      module _ (i left : ℕ) (m : MissingAt s id i) (is : left ≡ missing_left i s) where
        asked : (b : Bool) → holds id t.grafted ≡ b
            → sized_missing left (sized_grafted (grown b (length t.grafted.entries)) (sized_grafted_expiry (grown b (length t.grafted.expiry)) (unmarked_sizes id t))) ≡ sizes_of (send_graft_state now id t)
        asked b g =
            (λ k. sized_missing (is k) (sized_grafted (grown (sym g k) (length t.grafted.entries)) (sized_grafted_expiry (grown (sym g k) (length t.grafted.expiry)) (unmarked_sizes id t))))
            ∙ sym (ap (λ (hs : List Hop). ask_sizes id hs t) m.same ∙ asked-of (hops_at s i) (some-hops s i rest m.below))
            ∙ asks

        -- the message has an entry then, or gets one
        pub sized-there : (z : Sizes) → z ≡ sizes_of t → is_some (get id t.grafted) ≡ true → sized_missing left (sized_timers n z) ≡ sizes_of (send_graft_state now id t)
        unfolding grown unmarked_sizes sizes_of
        sized-there z w g = ap (sized_missing left) (unmarked-sized z w) ∙ asked true (holds-some id t.grafted ∙ g)

        pub sized-new : (z : Sizes) → z ≡ sizes_of t → is_some (get id t.grafted) ≡ false
            → sized_missing left (sized_grafted (z.grafted + 1) (sized_grafted_expiry (z.grafted_expiry + 1) (sized_timers n z))) ≡ sizes_of (send_graft_state now id t)
        unfolding grown unmarked_sizes sizes_of
        sized-new z w g =
            (λ k. sized_missing left (sized_grafted (add-one z.grafted k) (sized_grafted_expiry (add-one z.grafted_expiry k) (sized_timers n z))))
            ∙ (λ k. sized_missing left (sized_grafted (suc (w k).grafted) (sized_grafted_expiry (suc (w k).grafted_expiry) (unmarked-sized z w k))))
            ∙ asked false (holds-some id t.grafted ∙ g)

  -- eviction leaves no more
  grafted-few : length t.grafted.entries ≤ length s.grafted.entries
  unfolding settled later_cache
  grafted-few = go s.init
    where
      go : (b : Bool) → length (if b then s else with_init true (with_grafted (later_cache now s.grafted) (with_received (later_cache now s.received) (with_cache (later_cache now s.cache) s)))).grafted.entries ≤ length s.grafted.entries
      go true = omega arith
      go false = omega (arith, length-filter (λ (e : Entry (Timed Grafts)). ltb now e.value.expires) s.grafted.entries, count-length (λ (e : Entry (Timed Grafts)). ltb now e.value.expires) s.grafted.entries)

  expiry-few : length t.grafted.expiry ≤ length s.grafted.expiry
  unfolding settled later_cache
  expiry-few = go s.init
    where
      go : (b : Bool) → length (if b then s else with_init true (with_grafted (later_cache now s.grafted) (with_received (later_cache now s.received) (with_cache (later_cache now s.cache) s)))).grafted.expiry ≤ length s.grafted.expiry
      go true = omega arith
      go false = omega (arith, length-filter (λ (x : Expiry). ltb now x.time) s.grafted.expiry, count-length (λ (x : Expiry). ltb now x.time) s.grafted.expiry)

  pub sized-few : (z : CodeSizes) → sizes_value z ≡ sizes_of t → (z.grafted ≤ length s.grafted.entries) × (z.grafted_rows ≤ length s.grafted.expiry)
  unfolding sizes_of
  sized-few z w = (omega (arith, grafted-few, ap (λ (y : Sizes). y.grafted) w), omega (arith, expiry-few, ap (λ (y : Sizes). y.grafted_expiry) w))

-- its actions

no-action : concat_map action_bytes [] ≡ []
unfolding concat_map
no-action = refl

module _ (call : Call) (id : Id) (s : State) where
  abbrev now : ℕ
  now = call.instant.0

  abbrev i : ℕ
  i = id_of id

  abbrev u : State
  u = settled now s

  pub bytes-received : holds i u.received ≡ true → send_graft_bytes call id u ≡ []
  unfolding send_graft_actions
  bytes-received e = ap (λ (b : Bool). concat_map action_bytes (if b then [] else ask_actions (rooms_of call u) i (announcers i u) u)) e ∙ no-action

  -- of these announcers
  asked-bytes : (hs : List Hop) → holds i u.received ≡ false → announcers i s ≡ hs → send_graft_bytes call id u ≡ concat_map action_bytes (ask_actions (rooms_of call u) i hs u)
  unfolding send_graft_actions announcers
  asked-bytes hs e a =
      ap (λ (b : Bool). concat_map action_bytes (if b then [] else ask_actions (rooms_of call u) i (announcers i u) u)) e
      ∙ ap (λ (ys : List Hop). concat_map action_bytes (ask_actions (rooms_of call u) i ys u)) (settled-as now s (λ (x : State). announcers i x) refl ∙ a)

  pub bytes-nobody : holds i u.received ≡ false → announcers i s ≡ [] → send_graft_bytes call id u ≡ []
  unfolding ask_actions
  bytes-nobody e a = asked-bytes [] e a ∙ no-action

  two-actions : (p rd : ℕ) (hs : List Hop) → 0 < length hs → get_or hs 0 (hop 0 0) ≡ hop p rd
      → ask_actions (rooms_of call u) i hs u ≡ Sent p (kth_taken 1 p (rooms_of call u)) (Graft (Some i) rd) ∷ Scheduled u.settings.graft_timeout_2 (SendGraft i) ∷ []
  unfolding ask_actions first_send
  two-actions p rd [] q e = absurd (omega arith)
  two-actions p rd (x ∷ hs) q e =
      ap (λ (y : Hop). Sent y.peer (kth_taken 1 y.peer (rooms_of call u)) (Graft (Some i) y.round) ∷ Scheduled u.settings.graft_timeout_2 (SendGraft i) ∷ []) e

both-bytes : (p : ℕ) (b : Bool) (i rd : ℕ) (a : Action)
    → concat_map action_bytes (Sent p b (Graft (Some i) rd) ∷ a ∷ []) ≡ (send_head p b ++ message_bytes (Graft (Some i) rd)) ++ action_bytes a
unfolding send_head action_bytes
both-bytes p b i rd a =
    concat-append action_bytes (Sent p b (Graft (Some i) rd) ∷ []) (a ∷ [])
    ∙ (λ k. concat-one action_bytes (Sent p b (Graft (Some i) rd)) k ++ concat-one action_bytes a k)
    ∙ ap (λ (l : List ℕ). l ++ action_bytes a) (sym (append_assoc (1 ∷ number_bytes p) (taken_byte b ∷ []) (message_bytes (Graft (Some i) rd))))

module _ (call : Call) (id : Id) (h : Head) (xs : List ℕ) (rest : AtRest (state_of h xs)) (j : ℕ) (m : MissingAt (state_of h xs) (id_of id) j) (r : LinkHop) where
  abbrev at : ℕ
  at = call.instant.0

  abbrev st : State
  st = state_of h xs

  abbrev later : State
  later = settled at st

  pub bytes-asked : HopOf st (get_or (hops_at st j) 0 (hop 0 0)) r → (q : ℕ) (b : Bool) → holds (id_of id) later.received ≡ false → q ≡ (link_at st r.link).key
      → b ≡ leb 1 (get_or call.rooms.now.links r.link 0)
      → send_graft_bytes call id later ≡ (send_head q b ++ message_bytes (Graft (Some (id_of id)) r.round.0)) ++ action_bytes (Scheduled h.settings.config.graft_timeout_2.0 (SendGraft (id_of id)))
  unfolding state_of
  bytes-asked first q b e eq eb =
      asked-bytes call id st (hops_at st j) e m.same
      ∙ ap (concat_map action_bytes) (two-actions call id st (peer_at st r.link) r.round.0 (hops_at st j) (some-hops st j rest m.below) first.same)
      ∙ (λ k. concat_map action_bytes (Sent (peer k) (taken k) (Graft (Some (id_of id)) r.round.0) ∷ Scheduled (delay k) (SendGraft (id_of id)) ∷ []))
      ∙ both-bytes q b (id_of id) r.round.0 (Scheduled h.settings.config.graft_timeout_2.0 (SendGraft (id_of id)))
    where
      peer : peer_at st r.link ≡ q
      peer = link-key st r.link ∙ sym eq

      same : peer_at st r.link ≡ peer_at later r.link
      same = sym (settled-as at st (λ (x : State). peer_at x r.link) refl)

      taken : kth_taken 1 (peer_at st r.link) (rooms_of call later) ≡ b
      taken =
          ap (λ (x : ℕ). kth_taken 1 x (rooms_of call later)) same
          ∙ kth-link later call.peer call.rooms.now 1 r.link (settled-up at st rest) (settled-low at st r.link first.below) (omega arith)
          ∙ sym eb

      delay : later.settings.graft_timeout_2 ≡ h.settings.config.graft_timeout_2.0
      delay = settled-as at st (λ (x : State). x.settings.graft_timeout_2) refl
