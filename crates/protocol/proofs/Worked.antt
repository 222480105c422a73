-- The specification, "Calls worked through": the starred examples, as one theorem about the definitions, and panelrun's three answers. Each holds by computation.
use Rattle.std.proofs.Common.{ℕ, ◌≡◌, refl, List, [], ◌∷◌}
use Rattle.storage.specs.Lists.Base.{count, any, filter, member, concat_map, all, sum, ascending}
use Rattle.storage.specs.Lists.Map.{lookup, insert, remove, insert_key, remove_key}
use Rattle.postcard.specs.Number.{groups, number_bytes, number_length, read_round, read_groups, last_group, read_number, kind_number, read_bytes, read_kind}
use Rattle.postcard.specs.Message.{Neighbors, content_bytes, delivery_bytes, message_bytes, timer_bytes, action_bytes}
use Rattle.postcard.specs.Decode.{message_part, message_kind, read_message, message_of, read_timer, timer_of, event_of, read_event, ended, unless_retired, decode_event}
use Rattle.time_cache.specs.TimeCache.{put, add_expiry, get, value_of, expires_at, pop, due, later, pop_all, popped, expire_until, expired_keys, expires_on_time, in_pop_order}
use Rattle.protocol.specs.Links.{eager_peers, lazy_peers, eager_in, quiet_in, up_mark, marked, peers_marked, mark_if_there, add_eager, add_lazy, link_up}
use Rattle.protocol.specs.State.{fresh, zero_counts, size_in_range, durations_in_range, limits_in_range, up_to}
use Rattle.protocol.specs.Run.{act, send, has_room, use_room}
use Rattle.protocol.specs.Push.{schedule_dispatch, send_each, handed_back, note_for_each, push_to, eager_targets, eager_push, note_for, lazy_push}
use Rattle.protocol.specs.Gossips.{gossip_size, hops_of, announcers, peers_of, grafted_for, with_first, set_first, graft_out, forget_missing, raise_hops, far_closer, least_from, graft_unless_eager, prune_back, optimize_tree, forget_and_optimise, update_links, mark_received, cache_at, push_on, take_in, on_new, on_gossip, broadcast_to, broadcast}
use Rattle.protocol.specs.Ticks.{per_message, queued_peers, dispatch_to, clear_dispatch, on_dispatch_timer, evict, on_evict_cache_timer}
use Rattle.protocol.specs.Control.{on_prune, add_announcer, announce, schedule_graft, on_announced, on_ihave}
use Rattle.protocol.specs.Neighbours.{on_neighbor_up}
use Rattle.protocol.specs.Handle.{first_event, count_message, one_payload, one_control, if_neighbour, on_timer, on_message, handle_message, handle}
use Rattle.protocol.specs.Whole.{content_held, cache_fits, fits, in_range, keys_once, neighbours, noted_once, record_within, flags_stand, whole}
use Rattle.protocol.specs.Answer.{message_fits, counts_below, counts_stay, output_of, last_two, too_far_message, too_far, ask_of, ask_read, ask, ask_whole}
use Rattle.protocol.specs.Calls.{state_after, counts_after}
use Rattle.protocol.specs.Panel.{panel_settings, panel_limits, read_lengthed, read_record, written, or_cut, read_records, run_records, panelrun}
use Rattle.protocol.specs.WorkedCalls.{WorkedCalls}
use Rattle.postcard.proofs.Lengths.{length-gossip}

-- "Input (hexadecimal) 00 02 03 02 00 02 02 01 00 03 00 05 01 … Output: 00 00 00 04 02 E8 07 02 00 00"
panelrun-example : (hash : List ℕ → ℕ) →
    panelrun hash (0x00 ∷ 0x02 ∷ 0x03 ∷ 0x02 ∷ 0x00 ∷ 0x02 ∷ 0x02 ∷ 0x01 ∷ 0x00 ∷ 0x03 ∷ 0x00 ∷ 0x05 ∷ 0x01 ∷ [])
    ≡ 0x00 ∷ 0x00 ∷ 0x00 ∷ 0x04 ∷ 0x02 ∷ 0xE8 ∷ 0x07 ∷ 0x02 ∷ 0x00 ∷ 0x00 ∷ []
unfolding panelrun run_records read_records or_cut read_record read_lengthed written read_number read_bytes read_groups last_group read_kind kind_number message_kind message_part ask_whole ask ask_read ask_of last_two
    too_far too_far_message message_fits counts_stay counts_below output_of concat_map action_bytes timer_bytes message_bytes number_bytes groups decode_event unless_retired ended read_event event_of read_timer timer_of read_message message_of
    state_after counts_after handle handle_message on_message if_neighbour on_timer count_message one_control first_event on_evict_cache_timer expired_keys popped evict expire_until due later pop_all
    on_dispatch_timer dispatch_to queued_peers clear_dispatch per_message on_neighbor_up update_links link_up up_mark lookup insert act
    whole in_range size_in_range durations_in_range limits_in_range up_to fits cache_fits content_held sum keys_once ascending all any neighbours noted_once record_within expires_on_time in_pop_order flags_stand
    fresh zero_counts panel_settings panel_limits
panelrun-example hash = refl

pub worked : (hash : List ℕ → ℕ) → WorkedCalls hash
unfolding content_bytes delivery_bytes count any filter member lookup insert remove groups number_bytes number_length read_round read_groups last_group put add_expiry get value_of expires_at pop due later pop_all expire_until
    peers_marked eager_peers lazy_peers eager_in quiet_in up_mark marked mark_if_there add_eager add_lazy link_up fresh zero_counts act send has_room use_room schedule_dispatch send_each handed_back note_for_each
    push_to eager_targets eager_push note_for lazy_push gossip_size far_closer least_from graft_unless_eager prune_back optimize_tree update_links mark_received cache_at broadcast_to broadcast
    per_message evict expired_keys popped on_evict_cache_timer on_prune on_neighbor_up panel_limits
    insert_key remove_key add_announcer announce schedule_graft on_announced on_ihave hops_of announcers peers_of grafted_for with_first set_first graft_out forget_missing raise_hops forget_and_optimise push_on take_in on_new on_gossip
    first_event count_message one_payload one_control if_neighbour on_message handle_message handle
worked hash = record {
  size0 = refl;
  size127 = refl;
  size128 = refl;
  size_neighbors = λ id. length-gossip id [] Neighbors;
  sent471 = refl;
  unsent472 = refl;
  ihave510 = refl;
  ihave4094 = refl;
  round127 = refl;
  round128 = refl;
  round65535 = refl;
  read127 = refl;
  read128 = refl;
  read65535 = refl;
  optimises = refl;
  does_not = refl;
  keeps = refl;
  removes = refl;
  keeps_put_again = refl;
  panelrun_example = panelrun-example hash;
}
