-- A Graft from the neighbour of a link: what is sent, and the state after it.
-- Assumes nothing.
use Rattle.payloads.proofs.Words.{◌≡◌, ℕ, ◌+◌, ◌≤◌, ◌<◌, length, get_or, sym, ◌∙◌, ap, refl, arith, Bool, true, false, not, ◌&&◌, List, [], ◌∷◌, ◌++◌, append_assoc, leb, leb-true, length-append, Some, Option, None, is_empty, ascending, keys, and_right, concat-append, concat-one, get, Sent, message_bytes, taken_byte, eager, Links, State, Note, Cached, Room, cache_fits, kth_taken, back_peers, cached_in, add_note, add_batches, batches_for, announce_action, Sizes, sized_recorded, peer_at, linked, link_at, sizes_value, takes_note, Notable, same_keys, link-key, id_of, Id, settled, Head, AtRest, Call, settled-up, settled-low, same_links, same_flag, rooms_of}
use lib.ListN.{length-map}
use Rattle.storage.specs.Lists.Base.{concat_map}
use Rattle.postcard.specs.Number.{number_bytes}
use Rattle.postcard.specs.Message.{Gossip, Swarm, action_bytes}
use Rattle.postcard.specs.Output.{send_head}
use Rattle.protocol.specs.Links.{add_eager}
use Rattle.protocol.specs.Whole.{content_held, fits}
use Rattle.protocol.specs.Consistent.{Flagged}
use Rattle.decide.specs.Rooms.{first_send}
use Rattle.decide.specs.RecordGrowth.{push_actions}
use Rattle.decide.specs.Sizes.{sizes_of}
use Rattle.decide.specs.StateAfter.{recorded_state, pushed_state, reply_state, graft_state}
use Rattle.decide.specs.ActionsAfter.{reply_actions, graft_actions}
use Rattle.decide.proofs.GraftSendGraft.{length-mark}
use Rattle.payloads.proofs.EagerLaws.TargetLaws.{back-held, back-taken}
use Rattle.steps.specs.Pushes.Noted.{noted, noted_state}
use Rattle.steps.specs.declared.Sizes.{Sizes as CodeSizes}
use Rattle.steps.proofs.RoomsLaws.{kth-link}
use Rattle.payloads.proofs.EagerLaws.BackLaws.{for-one, for-none, recorded-same}
use Rattle.steps.proofs.RecordLaws.{noted-yes, noted-no, holds_found}
use Rattle.std.specs.Prelude.{Option as Option'}
use Rattle.block.specs.View.{state_of}
use Rattle.block.specs.Caches.CachedReads.{cached_value}
use Rattle.payloads.specs.OnGraft.{graft_bytes}
use Rattle.block.specs.declared.caches.cached.CachedMessage.{CachedMessage}

-- a push of a cached message to one peer
module _ (rooms : List Room) (p id : ℕ) where
  pub reply-taken : (c : Cached) (s : State) → kth_taken 1 p rooms ≡ true → reply_state rooms p id (Some c) s ≡ recorded_state s.dropped s
  unfolding reply_state pushed_state
  reply-taken c s e =
      ap (λ (qs : List ℕ). recorded_state (add_batches (cached_in s.cache) (batches_for (record { id = id; round = c.round }) qs) s.dropped) s) (back-taken rooms p e)
      ∙ ap (λ (ds : List Note). recorded_state ds s) (for-none (cached_in s.cache) (record { id = id; round = c.round }) s.dropped)

  pub reply-back : (c : Cached) (s : State) → kth_taken 1 p rooms ≡ false → reply_state rooms p id (Some c) s ≡ recorded_state (add_note (cached_in s.cache) p (record { id = id; round = c.round }) s.dropped) s
  unfolding reply_state pushed_state
  reply-back c s e =
      ap (λ (qs : List ℕ). recorded_state (add_batches (cached_in s.cache) (batches_for (record { id = id; round = c.round }) qs) s.dropped) s) (back-held rooms p e)
      ∙ ap (λ (ds : List Note). recorded_state ds s) (for-one (cached_in s.cache) (record { id = id; round = c.round }) p s.dropped)

  pub sent-bytes : (c : Cached) (s : State) (b : Bool) → kth_taken 1 p rooms ≡ b → get id s.cache ≡ Some c
      → concat_map action_bytes (graft_actions rooms p (Some id) s) ≡ (send_head p b ++ message_bytes (Gossip id c.content (Swarm c.round))) ++ concat_map action_bytes (announce_action (not b) s.timers.announce)
  unfolding graft_actions reply_actions push_actions first_send send_head action_bytes
  sent-bytes c s b t e =
      ap (λ (o : Option Cached). concat_map action_bytes (reply_actions rooms p id o s)) e
      ∙ concat-append action_bytes (Sent p (kth_taken 1 p rooms) (Gossip id c.content (Swarm c.round)) ∷ []) (announce_action (not (is_empty (back_peers rooms (p ∷ [])))) s.timers.announce)
      ∙ (λ k. one k ++ concat_map action_bytes (announce_action (not (none-back b t k)) s.timers.announce))
    where
      none-back : (b : Bool) → kth_taken 1 p rooms ≡ b → is_empty (back_peers rooms (p ∷ [])) ≡ b
      none-back true e = ap is_empty (back-taken rooms p e)
      none-back false e = ap is_empty (back-held rooms p e)

      one : concat_map action_bytes (Sent p (kth_taken 1 p rooms) (Gossip id c.content (Swarm c.round)) ∷ []) ≡ send_head p b ++ message_bytes (Gossip id c.content (Swarm c.round))
      one = concat-one action_bytes (Sent p (kth_taken 1 p rooms) (Gossip id c.content (Swarm c.round)))
          ∙ ap (λ (x : Bool). action_bytes (Sent p x (Gossip id c.content (Swarm c.round)))) t
          ∙ sym (append_assoc (1 ∷ number_bytes p) (taken_byte b ∷ []) (message_bytes (Gossip id c.content (Swarm c.round))))

  pub no-bytes : (s : State) → concat_map action_bytes (graft_actions rooms p None s) ≡ []
  unfolding graft_actions concat_map
  no-bytes s = refl

  pub not-there : (s : State) → get id s.cache ≡ None → concat_map action_bytes (graft_actions rooms p (Some id) s) ≡ []
  unfolding graft_actions reply_actions concat_map
  not-there s e = ap (λ (o : Option Cached). concat_map action_bytes (reply_actions rooms p id o s)) e

fits-record : (s : State) → fits s ≡ true → length s.dropped ≤ s.limits.D
unfolding fits
fits-record s h =
    leb-true (length s.dropped) s.limits.D
    (and_right
    (leb (length s.links) s.limits.N && cache_fits s.limits.R s.received && cache_fits s.limits.C s.cache && leb (content_held s) s.limits.B && cache_fits s.limits.G s.grafted
    && leb (length s.missing) s.limits.S && leb (length s.timers.graft) s.limits.T && leb (length s.queue) s.limits.Q)
    (leb (length s.dropped) s.limits.D) h)

-- of the peer of a link
module _ (call : Call) (l : ℕ) (s : State) (up : ascending (keys s.links) ≡ true) (low : l < length s.links) where
  abbrev p : ℕ
  p = peer_at s l

  abbrev rooms : List Room
  rooms = rooms_of call s

  -- with the peer eager
  abbrev m : State
  m = linked (add_eager p) s

  pub first-taken : (b : Bool) → b ≡ leb 1 (get_or call.rooms.now.links l 0) → kth_taken 1 p rooms ≡ b
  first-taken b e = kth-link s call.peer call.rooms.now 1 l up low (omega arith) ∙ sym e

  pub same_eager : keys m.links ≡ keys s.links
  unfolding add_eager
  same_eager = same_keys l s up low eager

  pub eager-up : ascending (keys m.links) ≡ true
  eager-up = ap ascending same_eager ∙ up

  pub eager-peer : peer_at m l ≡ p
  eager-peer = ap (λ (ks : List ℕ). get_or ks l 0) same_eager

  pub eager-low : l < length m.links
  eager-low = omega (arith, low, length-map s.links (λ e. e.key), length-map m.links (λ e. e.key), ap length same_eager)

  -- the state
  pub graft-only : graft_state rooms p None s ≡ m
  unfolding graft_state
  graft-only = refl

  module _ (id : ℕ) where
    pub graft-missed : get id s.cache ≡ None → graft_state rooms p (Some id) s ≡ m
    unfolding graft_state reply_state
    graft-missed e = ap (λ (o : Option Cached). reply_state rooms p id o m) e

    module _ (c : Cached) (e : get id s.cache ≡ Some c) where
      found : graft_state rooms p (Some id) s ≡ reply_state rooms p id (Some c) m
      unfolding graft_state
      found = ap (λ (o : Option Cached). reply_state rooms p id o m) e

      pub graft-taken : kth_taken 1 p rooms ≡ true → graft_state rooms p (Some id) s ≡ recorded_state s.dropped m
      graft-taken t = found ∙ reply-taken rooms p id c m t

      pub graft-still : Flagged s.dropped s.timers.announce → kth_taken 1 p rooms ≡ true → graft_state rooms p (Some id) s ≡ m
      graft-still f t = graft-taken t ∙ recorded-same m f

      pub graft-noted : kth_taken 1 p rooms ≡ false → graft_state rooms p (Some id) s ≡ noted_state l id c.round m
      unfolding noted_state
      graft-noted t = found ∙ reply-back rooms p id c m t ∙ ap (λ (q : ℕ). recorded_state (add_note (cached_in m.cache) q (record { id = id; round = c.round }) m.dropped) m) (sym eager-peer)

      -- how long the record is
      pub length-taken : kth_taken 1 p rooms ≡ true → length s.dropped + 0 ≡ length (graft_state rooms p (Some id) s).dropped
      unfolding recorded_state
      length-taken t = omega (arith, ap (λ (u : State). length u.dropped) (graft-taken t))

      record-is : kth_taken 1 p rooms ≡ false → (graft_state rooms p (Some id) s).dropped ≡ noted l id c.round s
      unfolding recorded_state
      record-is t = ap (λ (u : State). u.dropped) (found ∙ reply-back rooms p id c m t)

      pub length-noted : kth_taken 1 p rooms ≡ false → takes_note p id s.dropped ≡ true → length s.dropped + 1 ≡ length (graft_state rooms p (Some id) s).dropped
      length-noted t n =
          omega (arith, ap length (record-is t), ap length (noted-yes l id c.round s (holds_found id s.cache c e) n), length-append s.dropped (record { peer = p; id = id; round = c.round } ∷ []))

      pub length-full : kth_taken 1 p rooms ≡ false → takes_note p id s.dropped ≡ false → length s.dropped + 0 ≡ length (graft_state rooms p (Some id) s).dropped
      length-full t n = omega (arith, ap length (record-is t), ap length (noted-no l id c.round s (holds_found id s.cache c e) n))

      -- what noting it asks
      pub graft-notable : kth_taken 1 p rooms ≡ false → fits (graft_state rooms p (Some id) s) ≡ true → Notable l id c.round m
      unfolding noted_state recorded_state
      graft-notable t f = record {
        up = eager-up;
        link = eager-low;
        cached = holds_found id s.cache c e;
        room = omega (arith, fits-record (graft_state rooms p (Some id) s) f, ap (λ (u : State). length u.dropped) (graft-noted t), ap (λ (u : State). u.limits.D) (graft-noted t));
      }

    pub length-missed : get id s.cache ≡ None → length s.dropped + 0 ≡ length (graft_state rooms p (Some id) s).dropped
    length-missed e = omega (arith, ap (λ (u : State). length u.dropped) (graft-missed e))

  pub length-only : length s.dropped + 0 ≡ length (graft_state rooms p None s).dropped
  length-only = omega (arith, ap (λ (u : State). length u.dropped) graft-only)

  -- the other tables are as long as before
  pub graft-sizes : (w : Option ℕ) → sizes_of (graft_state rooms p w s) ≡ sized_recorded (length (graft_state rooms p w s).dropped) (sizes_of s)
  unfolding graft_state reply_state pushed_state recorded_state sizes_of content_held add_eager
  graft-sizes None = rw (length-mark p eager s.links up) refl
  graft-sizes (Some id) = on (get id s.cache)
    where
      on : (o : Option Cached) → sizes_of (reply_state rooms p id o m) ≡ sized_recorded (length (reply_state rooms p id o m).dropped) (sizes_of s)
      on None = rw (length-mark p eager s.links up) refl
      on (Some c) = rw (length-mark p eager s.links up) refl

-- how many are recorded, of the sizes
pub recorded-of : (t : State) (z : CodeSizes) → sizes_value z ≡ sizes_of t → z.dropped ≡ length t.dropped
unfolding sizes_of
recorded-of t z w = ap (λ (y : Sizes). y.recorded) w

-- its actions: the send, and the record's timer
flag_of : (h : Head) (xs : List ℕ) → (state_of h xs).timers.announce ≡ h.live.announce_dropped_scheduled
unfolding state_of
flag_of h xs = refl

module _ (call : Call) (l : ℕ) (w : Option' Id) (id : Id) (m : CachedMessage) (h : Head) (xs : List ℕ) where
  abbrev s : State
  s = state_of h xs

  abbrev now : ℕ
  now = call.instant.0

  abbrev t : State
  t = settled now s

  pub sends : (q : ℕ) (b : Bool) (r : Option' CachedMessage) → AtRest s → l < length s.links → w ≡ Some id → r ≡ Some m → cached_value r ≡ get (id_of id) t.cache
      → q ≡ (link_at s l).key → b ≡ leb 1 (get_or call.rooms.now.links l 0)
      → graft_bytes call l w t ≡ (send_head q b ++ message_bytes (Gossip (id_of id) m.content.now (Swarm m.round.0))) ++ concat_map action_bytes (announce_action (not b) h.live.announce_dropped_scheduled)
  sends q b r rest low ew er eg eq eb =
      ap (λ (x : Option' Id). graft_bytes call l x t) ew
      ∙ sent-bytes (rooms_of call t) (peer_at t l) (id_of id) (record { content = m.content.now; round = m.round.0 }) t b
      (first-taken call l t (settled-up now s rest) (settled-low now s l low) b eb)
      (sym eg ∙ ap cached_value er)
      ∙ (λ k. (send_head (peer k) b ++ message_bytes (Gossip (id_of id) m.content.now (Swarm m.round.0))) ++ concat_map action_bytes (announce_action (not b) (flag k)))
    where
      peer : peer_at t l ≡ q
      peer = ap (λ (ls : Links). get_or (keys ls) l 0) (same_links now s) ∙ link-key s l ∙ sym eq

      flag : t.timers.announce ≡ h.live.announce_dropped_scheduled
      flag = same_flag now s ∙ flag_of h xs
