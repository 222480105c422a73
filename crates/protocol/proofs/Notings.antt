-- The account of the notings follows `handle`: at each step its run is the protocol's.
use Rattle.std.proofs.Common.{ℕ, suc, ◌≡◌, refl, ap, ◌∙◌, Bool, true, false, not, List, [], ◌∷◌, ltb, eqb, length, if◌then◌else◌, Option, Some, None}
use Rattle.time_cache.specs.TimeCache.{holds}
use Rattle.postcard.specs.Message.{Delivery, Swarm, Neighbors, Ihave, Message, Gossip, Prune, Graft, IHave, Timer, SendGraft, DispatchLazyPush, EvictCache, AnnounceDropped, Event, Received, Broadcast, Fired, Up, Down}
use Rattle.protocol.specs.Links.{is_neighbour}
use Rattle.protocol.specs.State.{Note, Cached}
use Rattle.protocol.specs.Run.{Run, takes, emit}
use Rattle.protocol.specs.Push.{schedule_announce_dropped, note_each, note_dropped, note_for_each, push_to, eager_push, lazy_push, send_ihave}
use Rattle.protocol.specs.Gossips.{forget_and_optimise, raise_hops, push_on, take_in, on_new, gossip_size, on_gossip, broadcast_to, broadcast}
use Rattle.protocol.specs.Control.{reply_with, reply, on_graft}
use Rattle.protocol.specs.Ticks.{chunks, queued_for, send_chunks, dispatch_to, clear_dispatch, on_dispatch_timer}
use Rattle.protocol.specs.Handle.{if_neighbour, on_timer, on_message, handle_message, handle}
use Rattle.protocol.specs.Notings.{Account, plain, note_one', note_each', note_dropped', note_for_each', push_to', eager_push', send_ihave', push_on', take_in', on_new', reply_with', reply', on_graft', send_chunks', dispatch_to', on_dispatch_timer', if_neighbour', on_timer', on_gossip', broadcast_to', broadcast', on_message', handle_message', handle'}

run-if : (b : Bool) (x y : Account) {u v : Run} → x.run ≡ u → y.run ≡ v → (if b then x else y).run ≡ (if b then u else v)
run-if true x y p q = p
run-if false x y p q = q

run-note_each : (p : ℕ) (hs : List Ihave) (a : Account) → (note_each' p hs a).run ≡ note_each p hs a.run
unfolding note_each' note_each note_one'
run-note_each p [] a = refl
run-note_each p (h ∷ hs) a = run-note_each p hs (note_one' p h a)

pub run-note_dropped : (p : ℕ) (hs : List Ihave) (a : Account) → (note_dropped' p hs a).run ≡ note_dropped p hs a.run
unfolding note_dropped' note_dropped
run-note_dropped p hs a = run-if (is_neighbour p a.run.state.links) (plain schedule_announce_dropped (note_each' p hs a)) a (ap schedule_announce_dropped (run-note_each p hs a)) refl

pub run-note_for_each : (ps : List ℕ) (h : Ihave) (a : Account) → (note_for_each' ps h a).run ≡ note_for_each ps h a.run
unfolding note_for_each' note_for_each
run-note_for_each [] h a = refl
run-note_for_each (p ∷ ps) h a = run-note_for_each ps h (note_dropped' p (h ∷ []) a) ∙ ap (note_for_each ps h) (run-note_dropped p (h ∷ []) a)

run-eager_push : (id : ℕ) (content : List ℕ) (round sender : ℕ) (skip : List ℕ) (a : Account) → (eager_push' id content round sender skip a).run ≡ eager_push id content round sender skip a.run
unfolding eager_push' eager_push push_to' push_to
run-eager_push id content round sender skip a = run-note_for_each _ _ _

pub run-send_ihave : (p : ℕ) (hs : List Ihave) (a : Account) → (send_ihave' p hs a).run ≡ send_ihave p hs a.run
unfolding send_ihave' send_ihave
run-send_ihave p hs a = run-if (takes p a.run) _ _ refl (run-note_dropped p hs _)

run-take_in : (now sender id : ℕ) (content : List ℕ) (round : ℕ) (a : Account) → (take_in' now sender id content round a).run ≡ take_in now sender id content round a.run
unfolding take_in' take_in push_on' push_on
run-take_in now sender id content round a =
    ap (λ r. raise_hops (suc round) (forget_and_optimise id sender round (lazy_push id (suc round) sender r))) (run-eager_push id content (suc round) sender _ _)

run-on_new : (now sender id : ℕ) (content : List ℕ) (d : Delivery) (a : Account) → (on_new' now sender id content d a).run ≡ on_new now sender id content d a.run
unfolding on_new' on_new
run-on_new now sender id content (Swarm round) a = ap (emit sender content (Swarm round)) (run-take_in now sender id content round a)
run-on_new now sender id content Neighbors a = refl

run-reply_with : (sender id : ℕ) (o : Option Cached) (a : Account) → (reply_with' sender id o a).run ≡ reply_with sender id o a.run
unfolding reply_with' reply_with
run-reply_with sender id None a = refl
run-reply_with sender id (Some c) a = run-if (takes sender a.run) _ _ refl (run-note_dropped sender _ _)

run-on_graft : (sender : ℕ) (wanted : Option ℕ) (a : Account) → (on_graft' sender wanted a).run ≡ on_graft sender wanted a.run
unfolding on_graft' on_graft reply' reply
run-on_graft sender None a = refl
run-on_graft sender (Some id) a = run-reply_with sender id _ _

pub run-send_chunks : (p : ℕ) (cs : List (List Ihave)) (a : Account) → (send_chunks' p cs a).run ≡ send_chunks p cs a.run
unfolding send_chunks' send_chunks
run-send_chunks p [] a = refl
run-send_chunks p (hs ∷ cs) a = run-send_chunks p cs (send_ihave' p hs a) ∙ ap (send_chunks p cs) (run-send_ihave p hs a)

run-dispatch_to : (ps : List ℕ) (k : ℕ) (ns : List Note) (a : Account) → (dispatch_to' ps k ns a).run ≡ dispatch_to ps k ns a.run
unfolding dispatch_to' dispatch_to
run-dispatch_to [] k ns a = refl
run-dispatch_to (p ∷ ps) k ns a = run-dispatch_to ps k ns _ ∙ ap (dispatch_to ps k ns) (run-send_chunks p (chunks (length ns) k (queued_for p ns)) a)

run-on_timer : (now : ℕ) (t : Timer) (a : Account) → (on_timer' now t a).run ≡ on_timer now t a.run
unfolding on_timer' on_timer on_dispatch_timer' on_dispatch_timer
run-on_timer now (SendGraft id) a = refl
run-on_timer now DispatchLazyPush a = ap clear_dispatch (run-dispatch_to _ _ _ _)
run-on_timer now EvictCache a = refl
run-on_timer now AnnounceDropped a = refl

module _ (hash : List ℕ → ℕ) where
  run-on_gossip : (now sender id : ℕ) (content : List ℕ) (d : Delivery) (a : Account) → (on_gossip' hash now sender id content d a).run ≡ on_gossip hash now sender id content d a.run
  unfolding on_gossip' on_gossip
  run-on_gossip now sender id content d a =
      run-if (not (eqb (hash content) id)) _ _ refl (run-if (holds id a.run.state.received) _ _ refl (run-on_new now sender id content d a))

  run-broadcast_to : (now : ℕ) (content : List ℕ) (a : Account) → (broadcast_to' hash now content a).run ≡ broadcast_to hash now content a.run
  unfolding broadcast_to' broadcast_to
  run-broadcast_to now content a = run-eager_push _ content 0 _ [] _

  run-broadcast : (now : ℕ) (content : List ℕ) (a : Account) → (broadcast' hash now content a).run ≡ broadcast hash now content a.run
  unfolding broadcast' broadcast
  run-broadcast now content a = run-if (ltb a.run.state.settings.max_message_size (gossip_size (length content))) _ _ refl (run-broadcast_to now content a)

  run-on_message : (now sender : ℕ) (m : Message) (a : Account) → (on_message' hash now sender m a).run ≡ on_message hash now sender m a.run
  unfolding on_message' on_message if_neighbour' if_neighbour
  run-on_message now sender (Gossip id content d) a = run-on_gossip now sender id content d a
  run-on_message now sender Prune a = refl
  run-on_message now sender (Graft wanted round) a = run-if (is_neighbour sender a.run.state.links) _ _ (run-on_graft sender wanted a) refl
  run-on_message now sender (IHave hs) a = refl

  pub run-handle : (now : ℕ) (e : Event) (a : Account) → (handle' hash now e a).run ≡ handle hash now e a.run
  unfolding handle' handle handle_message' handle_message
  run-handle now (Received p m) a = run-on_message now p m _
  run-handle now (Broadcast content) a = run-broadcast now content _
  run-handle now (Fired t) a = run-on_timer now t _
  run-handle now (Up as_quiet p) a = refl
  run-handle now (Down p) a = refl
