-- The steps by which no payload and no announcement is handed back (`Silent`); those among them that leave record and cache alone as well (`Calm`).
use Rattle.std.proofs.Common.{Some, None, ℕ, suc, ◌≡◌, refl, ◌∙◌, Bool, false, not, ◌&&◌, ◌||◌, List, [], ◌∷◌, eqb}
use Rattle.storage.specs.Lists.Base.{is_empty, any, member}
use Rattle.time_cache.specs.TimeCache.{holds, get, expired_keys}
use Rattle.postcard.specs.Message.{Delivery, Ihave, Message, Prune, Graft, Sent, Scheduled, Emitted, Timer}
use Rattle.protocol.specs.Links.{is_neighbour, eager_in}
use Rattle.protocol.specs.State.{Hop}
use Rattle.protocol.specs.Run.{Run, act, send, takes}
use Rattle.protocol.specs.Push.{schedule_dispatch, schedule_announce_dropped, note_one, record_full, record_also, notes, note_each, note_dropped, note_for_each, lazy_push}
use Rattle.protocol.specs.Gossips.{announcers, grafted_for, graft_out, forget_missing, least_from, far_closer, update_links, graft_unless_eager, prune_back, optimize_tree, forget_and_optimise, Late, duplicate, repeated, faster, late_kind, set_kept, on_duplicate, on_late_graft_reply}
use Rattle.protocol.specs.Control.{announce, schedule_graft, on_announced, on_ihave, on_prune, note_graft, leave_announcers, ask_first, unmark, on_send_graft_timer}
use Rattle.protocol.specs.Ticks.{still_cached, move_oldest, dispatch_if_queued, on_announce_dropped_timer, tell_forgotten, on_evict_cache_timer}
use Rattle.protocol.specs.Handle.{first_event, if_neighbour}
use Rattle.protocol.specs.NoNeighbourPassedOver.{carries, sends, was_handed_back}
use Rattle.storage.proofs.ListsLaws.MapLaws.{cases}
use Rattle.storage.proofs.ListsLaws.Lists.{any_append, any-one}
use Rattle.protocol.proofs.EmitSteps.{any-skip, any-told}
use Rattle.protocol.proofs.Walk.{walk-if}

module _ (p id : ℕ) where
  -- the identifier's payload or announcement, sent to the peer, was handed back
  abbrev pub back : Run → Bool
  back r = any (sends p (carries id) was_handed_back) r.actions

  -- no more is handed back
  pub record Silent (r r' : Run) : Type 0 where
    pub same : back r' ≡ back r

  -- and record and cache stay
  pub record Calm (r r' : Run) : Type 0 where
    pub silent : Silent r r'
    pub dropped : r'.state.dropped ≡ r.state.dropped
    pub cache : r'.state.cache ≡ r.state.cache

  infixr 4 ◌⨾◌
  pub ◌⨾◌ : {a b c : Run} → Silent a b → Silent b c → Silent a c
  k ⨾ l = record { same = l.same ∙ k.same }

  infixr 4 ◌then◌
  pub ◌then◌ : {a b c : Run} → Calm a b → Calm b c → Calm a c
  k then l = record { silent = k.silent ⨾ l.silent; dropped = l.dropped ∙ k.dropped; cache = l.cache ∙ k.cache }

  -- steps without an action

  pub silent-still : {r r' : Run} → r'.actions ≡ r.actions → Silent r r'
  silent-still e = record { same = rw e }

  pub calm-still : {r r' : Run} → r'.actions ≡ r.actions → r'.state.dropped ≡ r.state.dropped → r'.state.cache ≡ r.state.cache → Calm r r'
  calm-still e d c = record { silent = silent-still e; dropped = d; cache = c }

  -- the actions

  calm-schedule : (delay : ℕ) (t : Timer) (r : Run) → Calm r (act (Scheduled delay t) r)
  unfolding act sends
  calm-schedule delay t r = record { silent = record { same = any-skip (sends p (carries id) was_handed_back) r.actions _ refl }; dropped = refl; cache = refl }

  pub calm-emit : (q : ℕ) (content : List ℕ) (d : Delivery) (r : Run) → Calm r (act (Emitted q content d) r)
  unfolding act sends
  calm-emit q content d r = record { silent = record { same = any-skip (sends p (carries id) was_handed_back) r.actions _ refl }; dropped = refl; cache = refl }

  -- a message sent
  pub back-send : (q : ℕ) (m : Message) (r : Run) → back (send q m r) ≡ (back r || (eqb q p && carries id m && not (takes q r)))
  unfolding send sends
  back-send q m r = any_append (sends p (carries id) was_handed_back) r.actions _ ∙ rw (any-one (sends p (carries id) was_handed_back) (Sent q (takes q r) m))

  -- one that does not carry it
  calm-send : (q : ℕ) (m : Message) (r : Run) → carries id m ≡ false → Calm r (send q m r)
  unfolding send sends
  calm-send q m r h =
      record { silent = record { same = any-skip (sends p (carries id) was_handed_back) r.actions _ (cases (eqb q p) (λ e. rw (e, h)) (λ e. rw e)) }; dropped = refl; cache = refl }

  -- what follows the push of a new message

  calm-schedule_dispatch : (r : Run) → Calm r (schedule_dispatch r)
  unfolding schedule_dispatch
  calm-schedule_dispatch r = walk-if Calm r.state.timers.dispatch (calm-still refl refl refl) (calm-still refl refl refl then calm-schedule _ _ _)

  pub calm-lazy_push : (j round sender : ℕ) (r : Run) → Calm r (lazy_push j round sender r)
  unfolding lazy_push
  calm-lazy_push j round sender r = calm-still refl refl refl then calm-schedule_dispatch _

  calm-prune_back : (q : ℕ) (r : Run) → Calm r (prune_back q r)
  unfolding prune_back update_links carries
  calm-prune_back q r = calm-still refl refl refl then calm-send q Prune _ refl

  calm-optimize_tree : (sender round : ℕ) (hs : List Hop) (r : Run) → Calm r (optimize_tree sender round hs r)
  unfolding optimize_tree graft_unless_eager update_links carries
  calm-optimize_tree sender round [] r = calm-still refl refl refl
  calm-optimize_tree sender round (h ∷ hs) r =
      walk-if Calm (far_closer r.state.settings.optimization_threshold round (least_from h hs).round)
      (walk-if Calm (eager_in (least_from h hs).peer r.state.links) (calm-still refl refl refl) (calm-still refl refl refl then calm-send (least_from h hs).peer (Graft None (least_from h hs).round) _ refl)
      then calm-prune_back sender _)
      (calm-still refl refl refl)

  pub calm-forget_and_optimise : (j sender round : ℕ) (r : Run) → Calm r (forget_and_optimise j sender round r)
  unfolding forget_and_optimise forget_missing
  calm-forget_and_optimise j sender round r =
      walk-if Calm (is_neighbour sender r.state.links && not (graft_out sender round (grafted_for j r.state)))
      (calm-still refl refl refl then calm-optimize_tree sender (suc round) (announcers j r.state) _) (calm-still refl refl refl)

  -- the steps by which no message is sent on

  silent-told : (ids : List ℕ) (r : Run) → Silent r (tell_forgotten ids r)
  unfolding sends
  silent-told ids r = record { same = any-told (sends p (carries id) was_handed_back) (λ i. refl) ids r.actions }

  pub silent-evict : (now : ℕ) (r : Run) → Silent r (on_evict_cache_timer now r)
  unfolding on_evict_cache_timer
  silent-evict now r = silent-told (expired_keys now r.state.cache) r ⨾ silent-still refl ⨾ (calm-schedule _ _ _).silent

  pub silent-first : (now : ℕ) (r : Run) → Silent r (first_event now r)
  unfolding first_event
  silent-first now r = walk-if Silent r.state.init (silent-still refl) (silent-still refl ⨾ silent-evict now _)

  pub silent-late : (sender j : ℕ) (d : Delivery) (r : Run) → Silent r (on_late_graft_reply sender j d r)
  unfolding on_late_graft_reply on_duplicate set_kept
  silent-late sender j d r = on (late_kind sender d r.state.links (get j r.state.grafted))
    where
      on : (l : Late) → Silent r (on_duplicate sender j l r)
      on duplicate = (calm-prune_back sender r).silent
      on repeated = silent-still refl
      on (faster first) = silent-still refl ⨾ (calm-prune_back first _).silent

  pub silent-on_prune : (sender : ℕ) (r : Run) → Silent r (if_neighbour sender (on_prune sender) r)
  unfolding if_neighbour on_prune update_links
  silent-on_prune sender r = walk-if Silent (is_neighbour sender r.state.links) (silent-still refl) (silent-still refl)

  silent-schedule_graft : (j : ℕ) (r : Run) → Silent r (schedule_graft j r)
  unfolding schedule_graft
  silent-schedule_graft j r = walk-if Silent (member j r.state.timers.graft) (silent-still refl) (silent-still refl ⨾ (calm-schedule _ _ _).silent)

  silent-on_announced : (sender : ℕ) (h : Ihave) (r : Run) → Silent r (on_announced sender h r)
  unfolding on_announced announce
  silent-on_announced sender h r = walk-if Silent (holds h.id r.state.received) (silent-still refl) (silent-still refl ⨾ silent-schedule_graft h.id _)

  silent-announcements : (sender : ℕ) (hs : List Ihave) (r : Run) → Silent r (on_ihave sender hs r)
  unfolding on_ihave
  silent-announcements sender [] r = silent-still refl
  silent-announcements sender (h ∷ hs) r = silent-on_announced sender h r ⨾ silent-announcements sender hs _

  pub silent-on_ihave : (sender : ℕ) (hs : List Ihave) (r : Run) → Silent r (if_neighbour sender (on_ihave sender hs) r)
  unfolding if_neighbour
  silent-on_ihave sender hs r = walk-if Silent (is_neighbour sender r.state.links) (silent-announcements sender hs r) (silent-still refl)

  silent-ask_first : (now j : ℕ) (hs : List Hop) (r : Run) → Silent r (ask_first now j hs r)
  unfolding ask_first leave_announcers update_links note_graft carries
  silent-ask_first now j [] r = silent-still refl
  silent-ask_first now j (h ∷ hs) r = silent-still refl ⨾ (calm-send h.peer (Graft (Some j) h.round) _ refl).silent ⨾ (calm-schedule _ _ _).silent

  pub silent-on_send_graft_timer : (now j : ℕ) (r : Run) → Silent r (on_send_graft_timer now j r)
  unfolding on_send_graft_timer unmark
  silent-on_send_graft_timer now j r = walk-if Silent (holds j r.state.received) (silent-still refl) (silent-still refl ⨾ silent-ask_first now j (announcers j r.state) _)

  pub calm-schedule_announce_dropped : (r : Run) → Calm r (schedule_announce_dropped r)
  unfolding schedule_announce_dropped
  calm-schedule_announce_dropped r = walk-if Calm (is_empty r.state.dropped || r.state.timers.announce) (calm-still refl refl refl) (calm-still refl refl refl then calm-schedule _ _ _)

  pub silent-on_announce_dropped_timer : (r : Run) → Silent r (on_announce_dropped_timer r)
  unfolding on_announce_dropped_timer dispatch_if_queued
  silent-on_announce_dropped_timer r =
      silent-still refl ⨾ walk-if Silent (is_empty (move_oldest (still_cached r.state) r.state).queue) (silent-still refl) (calm-schedule_dispatch _).silent ⨾ (calm-schedule_announce_dropped _).silent

  -- `note_dropped` sends nothing

  pub silent-note_one : (q : ℕ) (h : Ihave) (r : Run) → Silent r (note_one q h r)
  unfolding note_one record_also
  silent-note_one q h r =
      walk-if Silent (not (record_full q r.state.dropped) && holds h.id r.state.cache && not (any (notes q h.id) r.state.dropped)) (silent-still refl) (silent-still refl)

  silent-note_each : (q : ℕ) (hs : List Ihave) (r : Run) → Silent r (note_each q hs r)
  unfolding note_each
  silent-note_each q [] r = silent-still refl
  silent-note_each q (h ∷ hs) r = silent-note_one q h r ⨾ silent-note_each q hs _

  pub silent-note_dropped : (q : ℕ) (hs : List Ihave) (r : Run) → Silent r (note_dropped q hs r)
  unfolding note_dropped
  silent-note_dropped q hs r = walk-if Silent (is_neighbour q r.state.links) (silent-note_each q hs r ⨾ (calm-schedule_announce_dropped _).silent) (silent-still refl)

  pub silent-note_for_each : (qs : List ℕ) (h : Ihave) (r : Run) → Silent r (note_for_each qs h r)
  unfolding note_for_each
  silent-note_for_each [] h r = silent-still refl
  silent-note_for_each (q ∷ qs) h r = silent-note_dropped q (h ∷ []) r ⨾ silent-note_for_each qs h _
