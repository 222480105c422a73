-- "Order in alike", computed: what `alike` sees and what it leaves unseen, and calls that the old one does not foretell.
-- Assumes nothing.
use Rattle.std.proofs.Common.{Some, None, ℕ, ◌-◌, ◌^◌, ◌≡◌, refl, true, false, List, [], ◌∷◌, map}
use Rattle.storage.specs.Lists.Base as Base
use Rattle.storage.specs.Lists.Map as Map
use Rattle.postcard.specs.Number as Number
use Rattle.postcard.specs.Message as Message
use Rattle.postcard.specs.Decode as Decode
use Rattle.time_cache.specs.TimeCache as TimeCache
use Rattle.protocol.specs.State as State
use Rattle.protocol.specs.Run as Run
use Rattle.protocol.specs.Answer as Answer
use Rattle.protocol.specs.Whole as Whole
use Rattle.protocol.specs.Links as Links
use Rattle.protocol.specs.Neighbours as Neighbours
use Rattle.protocol.specs.Push as Push
use Rattle.protocol.specs.Gossips as Gossips
use Rattle.protocol.specs.Ticks as Ticks
use Rattle.protocol.specs.Control as Control
use Rattle.protocol.specs.Handle as Handle
use Rattle.protocol.specs.Calls as Calls
use Rattle.protocol.specs.Panel as Panel
use Rattle.protocol.specs.Alike as Alike
use Rattle.protocol.specs.AlikeUnordered as AlikeUnordered
use Rattle.storage.specs.Lists.Map.{entry}
use Rattle.postcard.specs.Message.{Swarm, Gossip, Graft, IHave, DispatchLazyPush, AnnounceDropped, Event, Received, Broadcast, Fired, Up, Action, Sent, event_bytes}
use Rattle.time_cache.specs.TimeCache.{Cache, Expiry, empty_cache, put}
use Rattle.protocol.specs.State.{State, Note, fresh, zero_counts, with_queue, with_dropped, with_missing, with_received, with_grafted, with_cache}
use Rattle.protocol.specs.Whole.{whole}
use Rattle.protocol.specs.Answer.{Call}
use Rattle.protocol.specs.Calls.{Ran, run_calls}
use Rattle.protocol.specs.Panel.{panel_settings, panel_limits}
use Rattle.protocol.specs.Alike.{alike}
use Rattle.protocol.specs.AlikeUnordered.{alike_unordered}
use Rattle.protocol.specs.AlikeCalls.CommissioningSheet.{number_of, actions_of}

-- a fresh panel 1
abbrev panel : State
panel = fresh panel_settings panel_limits

-- an identifier for a peer
abbrev note : ℕ → ℕ → Note
note p id = record { peer = p; id = id; round = 0 }

-- the lists of 2 and 3, in two interleavings
abbrev in_turn : List Note
in_turn = note 2 7 ∷ note 3 7 ∷ note 2 8 ∷ note 3 8 ∷ []

abbrev by_peer : List Note
by_peer = note 2 7 ∷ note 2 8 ∷ note 3 7 ∷ note 3 8 ∷ []

-- 7 is missing, and was announced by these
abbrev announced_by : List ℕ → State
announced_by ps = with_missing (entry 7 (map (λ p. record { peer = p; round = 0 }) ps) ∷ []) panel

-- a cache of this value at 7 and 8, with these expiry entries
abbrev cache_of : {A : Type 0} → A → List Expiry → Cache A
cache_of v x = record { entries = entry 7 (record { expires = 5; value = v }) ∷ entry 8 (record { expires = 5; value = v }) ∷ []; expiry = x }

-- the keys 7 and 8 expire at 5, in either order
abbrev seven_first : List Expiry
seven_first = record { time = 5; key = 7 } ∷ record { time = 5; key = 8 } ∷ []

abbrev eight_first : List Expiry
eight_first = record { time = 5; key = 8 } ∷ record { time = 5; key = 7 } ∷ []

abbrev received_of : List Expiry → State
received_of x = with_received (cache_of tt x) panel

abbrev grafted_of : List Expiry → State
grafted_of x = with_grafted (cache_of (record { first = None; kept = None; peers = [] }) x) panel

abbrev cached_of : List Expiry → State
cached_of x = with_cache (cache_of (record { content = []; round = 0 }) x) panel

-- the identifier of a content is its first byte
abbrev first_byte : List ℕ → ℕ
first_byte [] = 0
first_byte (b ∷ bs) = b

-- a call at time 0 with room without bound, and one whose sends to 2 are handed back
abbrev free : Event → Call
free e = record { now = 0; event = event_bytes e; rooms = []; output = 40960 }

abbrev shut : Event → Call
shut e = record { now = 0; event = event_bytes e; rooms = record { peer = 2; room = 0 } ∷ []; output = 40960 }

-- two broadcasts reach 2, which then asks for them in this order; its link hands the replies back
abbrev asked : ℕ → ℕ → Ran
asked x y = run_calls first_byte panel zero_counts
    (free (Up false 2) ∷ free (Broadcast (7 ∷ [])) ∷ free (Broadcast (8 ∷ [])) ∷ shut (Received 2 (Graft (Some x) 0)) ∷ shut (Received 2 (Graft (Some y) 0)) ∷ [])

-- the actions of the next two ticks
abbrev ticks : Ran → List (List Action)
ticks r = map actions_of (run_calls first_byte r.state r.counts (free (Fired AnnounceDropped) ∷ free (Fired DispatchLazyPush) ∷ [])).answers

-- the numbers of a message's call with so many payloads counted, and of a tick's with an output of this length
abbrev with_payloads : ℕ → List ℕ
with_payloads n = map number_of (run_calls first_byte panel (record { payload = n; control = 0; hops = 0 }) (free (Received 2 (Gossip 7 (7 ∷ []) (Swarm 0))) ∷ [])).answers

abbrev with_output : ℕ → List ℕ
with_output n = map number_of (run_calls first_byte panel zero_counts (record { now = 0; event = event_bytes (Fired DispatchLazyPush); rooms = []; output = n } ∷ [])).answers

pub record AlikeExamples : Type 0 where
  -- a peer's records in another order: alike in the old way alone; likewise its queue
  pub record1 : alike (with_dropped (note 2 7 ∷ note 2 8 ∷ []) panel) (with_dropped (note 2 8 ∷ note 2 7 ∷ []) panel) ≡ false
  pub record2 : alike_unordered (with_dropped (note 2 7 ∷ note 2 8 ∷ []) panel) (with_dropped (note 2 8 ∷ note 2 7 ∷ []) panel) ≡ true
  pub queue1 : alike (with_queue (note 2 7 ∷ note 2 8 ∷ []) panel) (with_queue (note 2 8 ∷ note 2 7 ∷ []) panel) ≡ false
  pub queue2 : alike_unordered (with_queue (note 2 7 ∷ note 2 8 ∷ []) panel) (with_queue (note 2 8 ∷ note 2 7 ∷ []) panel) ≡ true
  -- how those of different peers are interleaved is not seen
  pub interleaved1 : alike (with_dropped in_turn panel) (with_dropped by_peer panel) ≡ true
  pub interleaved2 : alike (with_queue in_turn panel) (with_queue by_peer panel) ≡ true
  -- a peer for whom something stands in one of the two alone is seen
  pub second1 : alike (with_dropped (note 2 7 ∷ []) panel) (with_dropped (note 2 7 ∷ note 3 7 ∷ []) panel) ≡ false
  pub first1 : alike (with_dropped (note 2 7 ∷ note 3 7 ∷ []) panel) (with_dropped (note 2 7 ∷ []) panel) ≡ false
  -- announcers in another order
  pub announcers1 : alike (announced_by (2 ∷ 3 ∷ [])) (announced_by (3 ∷ 2 ∷ [])) ≡ false
  pub announcers2 : alike_unordered (announced_by (2 ∷ 3 ∷ [])) (announced_by (3 ∷ 2 ∷ [])) ≡ true
  -- two expiry entries of one time in another order, in each of the caches
  pub received1 : alike (received_of seven_first) (received_of eight_first) ≡ false
  pub received2 : alike_unordered (received_of seven_first) (received_of eight_first) ≡ true
  pub grafted1 : alike (grafted_of seven_first) (grafted_of eight_first) ≡ false
  pub grafted2 : alike_unordered (grafted_of seven_first) (grafted_of eight_first) ≡ true
  pub cached1 : alike (cached_of seven_first) (cached_of eight_first) ≡ false
  pub cached2 : alike_unordered (cached_of seven_first) (cached_of eight_first) ≡ true
  -- of different times: whichever is put first, the earlier pops first
  pub times : alike (with_received (put 8 tt 10 (put 7 tt 5 empty_cache)) panel) (with_received (put 7 tt 5 (put 8 tt 10 empty_cache)) panel) ≡ true
  -- "sent different identifiers on the next ticks, since their records held the same ones in another order": whole states, alike in the old way alone
  pub asked_whole : map whole ((asked 7 8).state ∷ (asked 8 7).state ∷ []) ≡ true ∷ true ∷ []
  pub asked_new : alike (asked 7 8).state (asked 8 7).state ≡ false
  pub asked_old : alike_unordered (asked 7 8).state (asked 8 7).state ≡ true
  pub ticks78 : ticks (asked 7 8) ≡ [] ∷ (Sent 2 true (IHave (record { id = 7; round = 0 } ∷ record { id = 8; round = 0 } ∷ [])) ∷ []) ∷ []
  pub ticks87 : ticks (asked 8 7) ≡ [] ∷ (Sent 2 true (IHave (record { id = 8; round = 0 } ∷ record { id = 7; round = 0 } ∷ [])) ∷ []) ∷ []
  -- "equal counts": with one payload more the counts do not stay under 2^64
  pub payloads1 : with_payloads (2 ^ 64 - 2) ≡ 0 ∷ []
  pub payloads2 : with_payloads (2 ^ 64 - 1) ≡ 11 ∷ []
  -- "output space": with one byte less the actions do not fit
  pub output1 : with_output 4 ≡ 0 ∷ []
  pub output2 : with_output 3 ≡ 14 ∷ []

pub alike-examples : AlikeExamples
unfolding Base.filter Base.count Base.any Base.all Base.member Base.sum Base.concat_map Base.ascending Map.lookup Map.insert Number.groups Number.number_bytes Number.big_endian Number.id_bytes Number.from_big_endian Number.read_kind Number.kind_number Number.read_padded Number.read_bytes Number.read_id Number.last_group Number.read_groups Number.read_round Number.read_number Message.content_bytes Message.delivery_bytes Message.optional_id_bytes Message.message_bytes Message.timer_bytes Message.event_bytes Message.taken_byte Message.action_bytes Decode.read_content Decode.delivery_of Decode.read_delivery Decode.broadcast_of Decode.optional_id_of Decode.message_of Decode.read_message Decode.message_kind Decode.delivery_kind Decode.read_padded_content Decode.message_part Decode.timer_of Decode.read_timer Decode.event_of Decode.read_event Decode.ended Decode.unless_retired Decode.decode_event TimeCache.value_of TimeCache.get TimeCache.add_expiry TimeCache.put TimeCache.expires_at TimeCache.pop TimeCache.due TimeCache.later TimeCache.pop_all TimeCache.popped TimeCache.expired_keys TimeCache.expire_until TimeCache.expires_on_time TimeCache.in_pop_order State.fresh State.zero_counts State.size_in_range State.durations_in_range State.up_to State.limits_in_range Run.act Run.has_room Run.use_room Run.send Answer.message_fits Answer.counts_below Answer.counts_stay Answer.last_round Answer.output_of Answer.last_two Answer.too_far_message Answer.too_far Answer.ask_of Answer.ask_read Answer.ask Answer.ask_whole Whole.content_held Whole.cache_fits Whole.fits Whole.in_range Whole.keys_once Whole.neighbours Whole.noted_once Whole.record_within Whole.flags_stand Whole.whole Links.peers_marked Links.eager_peers Links.lazy_peers Links.marked Links.eager_in Links.quiet_in Links.up_mark Links.mark_if_there Links.add_eager Links.add_lazy Links.link_up Neighbours.on_neighbor_up Push.schedule_dispatch Push.schedule_announce_dropped Push.record_full Push.record_also Push.note_one Push.note_each Push.note_dropped Push.send_each Push.handed_back Push.note_for_each Push.eager_targets Push.push_to Push.eager_push Push.note_for Push.lazy_push Push.send_ihave Gossips.mark_received Gossips.cache_at Gossips.hops_of Gossips.announcers Gossips.peers_of Gossips.grafted_for Gossips.with_first Gossips.set_first Gossips.graft_out Gossips.forget_missing Gossips.raise_hops Gossips.update_links Gossips.forget_and_optimise Gossips.push_on Gossips.take_in Gossips.on_new Gossips.gossip_size Gossips.on_gossip Gossips.broadcast_to Gossips.broadcast Ticks.per_message Ticks.chunks Ticks.queued_for Ticks.queued_peers Ticks.send_chunks Ticks.dispatch_to Ticks.clear_dispatch Ticks.on_dispatch_timer Ticks.oldest Ticks.younger Ticks.move_oldest Ticks.still_cached Ticks.dispatch_if_queued Ticks.on_announce_dropped_timer Ticks.evict Ticks.on_evict_cache_timer Control.reply_with Control.reply Control.on_graft Handle.first_event Handle.one_payload Handle.one_control Handle.count_message Handle.if_neighbour Handle.on_timer Handle.on_message Handle.handle_message Handle.handle Calls.state_after Calls.counts_after Calls.prepend Calls.run_calls Panel.panel_settings Panel.panel_limits Decode.read_optional_id Alike.same_list Alike.same_option Alike.same_map Alike.same_mark Alike.same_hop Alike.same_note Alike.same_notes Alike.same_expiry Alike.same_grafts Alike.same_cached Alike.same_unit Alike.same_cache Alike.same_settings Alike.same_limits Alike.same_tables Alike.same_caches Alike.same_flags Alike.alike AlikeUnordered.same_bag AlikeUnordered.same_cache_unordered AlikeUnordered.same_tables_unordered AlikeUnordered.same_caches_unordered AlikeUnordered.alike_unordered number_of actions_of Number.number_length Map.insert_key Message.ihave_bytes Map.remove Map.remove_key
alike-examples = record { record1 = refl; record2 = refl; queue1 = refl; queue2 = refl; interleaved1 = refl; interleaved2 = refl; second1 = refl; first1 = refl; announcers1 = refl; announcers2 = refl; received1 = refl; received2 = refl; grafted1 = refl; grafted2 = refl; cached1 = refl; cached2 = refl; times = refl; asked_whole = refl; asked_new = refl; asked_old = refl; ticks78 = refl; ticks87 = refl; payloads1 = refl; payloads2 = refl; output1 = refl; output2 = refl }
