-- The examples of the four ticks (`FourTicksExamples`), by computation.
use Rattle.std.proofs.Common.{refl}
use Rattle.storage.specs.Lists.Base as Base
use Rattle.storage.specs.Lists.Map as Map
use Rattle.postcard.specs.Number as Number
use Rattle.postcard.specs.Message as Message
use Rattle.postcard.specs.Decode as Decode
use Rattle.time_cache.specs.TimeCache as TimeCache
use Rattle.protocol.specs.State as State
use Rattle.protocol.specs.Run as Run
use Rattle.protocol.specs.Answer as Answer
use Rattle.protocol.specs.Whole as Whole
use Rattle.protocol.specs.Links as Links
use Rattle.protocol.specs.Neighbours as Neighbours
use Rattle.protocol.specs.Push as Push
use Rattle.protocol.specs.Gossips as Gossips
use Rattle.protocol.specs.Ticks as Ticks
use Rattle.protocol.specs.Control as Control
use Rattle.protocol.specs.Handle as Handle
use Rattle.protocol.specs.Calls as Calls
use Rattle.protocol.specs.NoNeighbourPassedOver as NoNeighbourPassedOver
use Rattle.protocol.specs.Panel as Panel
use Rattle.protocol.specs.ReadingsFollowTheTree as ReadingsFollowTheTree
use Rattle.protocol.specs.FourTicks as FourTicks
use Rattle.protocol.specs.AlikeCalls.CommissioningSheet as CommissioningSheet
use Rattle.protocol.specs.GuaranteeExamples.{recorded, cached, ticked, FourTicksExamples}

pub four-ticks-examples : FourTicksExamples
unfolding recorded cached ticked CommissioningSheet.number_of ReadingsFollowTheTree.is_payload ReadingsFollowTheTree.payloads_to ReadingsFollowTheTree.announcement_of Base.filter Base.count Base.any Base.all Base.member Base.sum Base.concat_map Base.ascending Base.once Map.lookup Map.insert Map.remove Map.insert_key Map.remove_key Number.groups Number.number_bytes Number.number_length Number.big_endian Number.id_bytes Number.from_big_endian Number.read_kind Number.kind_number Number.read_padded Number.read_bytes Number.read_id Number.last_group Number.read_groups Number.read_round Number.read_number Message.content_bytes Message.delivery_bytes Message.ihave_bytes Message.optional_id_bytes Message.message_bytes Message.timer_bytes Message.event_bytes Message.taken_byte Message.action_bytes Decode.read_content Decode.delivery_of Decode.read_delivery Decode.broadcast_of Decode.optional_id_of Decode.read_optional_id Decode.read_ihave Decode.read_ihaves Decode.message_of Decode.read_message Decode.message_kind Decode.delivery_kind Decode.read_padded_content Decode.message_part Decode.timer_of Decode.read_timer Decode.event_of Decode.read_event Decode.ended Decode.unless_retired Decode.decode_event TimeCache.value_of TimeCache.get TimeCache.add_expiry TimeCache.put TimeCache.with_value TimeCache.replace TimeCache.expires_at TimeCache.pop TimeCache.due TimeCache.later TimeCache.pop_all TimeCache.popped TimeCache.expire_until TimeCache.expired_keys TimeCache.expires_on_time TimeCache.in_pop_order TimeCache.later_cache State.fresh State.zero_counts State.size_in_range State.durations_in_range State.up_to State.limits_in_range State.block_need State.create Run.act Run.has_room Run.use_room Run.send Answer.message_fits Answer.counts_below Answer.counts_stay Answer.last_round Answer.output_of Answer.last_two Answer.too_far_message Answer.too_far Answer.ask_of Answer.ask_read Answer.ask Answer.ask_whole Answer.outcome Answer.answer_of Answer.answer_block Whole.content_held Whole.cache_fits Whole.fits Whole.in_range Whole.keys_once Whole.neighbours Whole.announcers_whole Whole.grafts_whole Whole.noted_once Whole.record_within Whole.flags_stand Whole.whole Whole.long_enough Whole.whole_state Links.peers_marked Links.eager_peers Links.lazy_peers Links.marked Links.eager_in Links.quiet_in Links.up_mark Links.mark_if_there Links.add_eager Links.add_lazy Links.link_up Links.link_down Neighbours.on_neighbor_up Neighbours.without_announcer Neighbours.forget_announcer Neighbours.without_notes Neighbours.without_graft Neighbours.forget_grafted Neighbours.forget_peer Neighbours.on_neighbor_down Push.schedule_dispatch Push.schedule_announce_dropped Push.record_full Push.record_also Push.note_one Push.note_each Push.note_dropped Push.send_each Push.handed_back Push.note_for_each Push.eager_targets Push.push_to Push.eager_push Push.note_for Push.lazy_push Push.send_ihave Gossips.mark_received Gossips.cache_at Gossips.hops_of Gossips.announcers Gossips.peers_of Gossips.grafted_for Gossips.with_first Gossips.set_first Gossips.graft_out Gossips.forget_missing Gossips.raise_hops Gossips.least_from Gossips.far_closer Gossips.update_links Gossips.graft_unless_eager Gossips.prune_back Gossips.optimize_tree Gossips.forget_and_optimise Gossips.push_on Gossips.take_in Gossips.same_as Gossips.no_more_hops Gossips.late_from Gossips.late_kind Gossips.with_kept Gossips.set_kept Gossips.on_duplicate Gossips.on_late_graft_reply Gossips.on_new Gossips.gossip_size Gossips.on_gossip Gossips.broadcast_to Gossips.broadcast Ticks.per_message Ticks.chunks Ticks.queued_for Ticks.queued_peers Ticks.send_chunks Ticks.dispatch_to Ticks.clear_dispatch Ticks.on_dispatch_timer Ticks.oldest Ticks.younger Ticks.move_oldest Ticks.still_cached Ticks.dispatch_if_queued Ticks.on_announce_dropped_timer Ticks.evict Ticks.on_evict_cache_timer Control.add_announcer Control.announce Control.schedule_graft Control.on_announced Control.on_ihave Control.on_prune Control.reply_with Control.reply Control.on_graft Control.lower Control.with_graft Control.note_graft Control.leave_announcers Control.ask_first Control.unmark Control.on_send_graft_timer Handle.first_event Handle.one_payload Handle.one_control Handle.count_message Handle.if_neighbour Handle.on_timer Handle.on_message Handle.handle_message Handle.handle Calls.state_after Calls.counts_after Calls.prepend Calls.run_calls NoNeighbourPassedOver.by_event NoNeighbourPassedOver.by_action NoNeighbourPassedOver.is_up NoNeighbourPassedOver.is_down NoNeighbourPassedOver.tells_down NoNeighbourPassedOver.up_after_call NoNeighbourPassedOver.up_after NoNeighbourPassedOver.told_up NoNeighbourPassedOver.is_emit NoNeighbourPassedOver.took_gossip NoNeighbourPassedOver.took_broadcast NoNeighbourPassedOver.took_by_event NoNeighbourPassedOver.took NoNeighbourPassedOver.is_of NoNeighbourPassedOver.lists NoNeighbourPassedOver.announces_in NoNeighbourPassedOver.announced NoNeighbourPassedOver.is_graft_for NoNeighbourPassedOver.carries NoNeighbourPassedOver.sends NoNeighbourPassedOver.sent NoNeighbourPassedOver.left_out NoNeighbourPassedOver.met_full NoNeighbourPassedOver.is_tick NoNeighbourPassedOver.schedules_tick NoNeighbourPassedOver.scheduled NoNeighbourPassedOver.fires_tick NoNeighbourPassedOver.fired Panel.panel_settings Panel.panel_limits Panel.read_lengthed Panel.read_record Panel.written Panel.or_cut Panel.read_records Panel.run_records Panel.panelrun FourTicks.by_state
four-ticks-examples = record {
  whole1 = refl;
  lengths = refl;
  last = refl;
  last_queued = refl;
  recorded2 = refl;
  queued2 = refl;
  sent2 = refl;
  back2 = refl;
  refused4 = refl;
  both2 = refl;
  neither2 = refl;
}
