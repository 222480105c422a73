-- 256 stand recorded for 2, and the links of 2 and 3 hand a broadcast back: 2 met a full record, and the account of the notings says so; by computation. Every content has identifier 9.
use Rattle.std.proofs.Common.{refl}
use Rattle.storage.specs.Lists.Base as Base
use Rattle.storage.specs.Lists.Map as Map
use Rattle.postcard.specs.Number as Number
use Rattle.time_cache.specs.TimeCache as TimeCache
use Rattle.protocol.specs.State as State
use Rattle.protocol.specs.Run as Run
use Rattle.protocol.specs.Links as Links
use Rattle.protocol.specs.Push as Push
use Rattle.protocol.specs.Gossips as Gossips
use Rattle.protocol.specs.Ticks as Ticks
use Rattle.protocol.specs.Handle as Handle
use Rattle.protocol.specs.Whole as Whole
use Rattle.protocol.specs.NoNeighbourPassedOver as NoNeighbourPassedOver
use Rattle.protocol.specs.Panel as Panel
use Rattle.protocol.specs.Notings as Notings
use Rattle.protocol.specs.State.{State, fresh}
use Rattle.protocol.specs.Push.{record_full}
use Rattle.protocol.specs.Handle.{handle}
use Rattle.protocol.specs.Whole.{whole}
use Rattle.protocol.specs.NoNeighbourPassedOver.{met_full}
use Rattle.protocol.specs.Panel.{panel_settings}
use Rattle.protocol.specs.GuaranteeExamples.{recorded, MetFullExample}

pub met-full-example : MetFullExample
unfolding recorded Base.filter Base.count Base.any Base.all Base.member Base.sum Base.ascending Map.lookup Map.insert Number.groups Number.number_bytes Number.number_length TimeCache.add_expiry TimeCache.put TimeCache.due TimeCache.later TimeCache.pop_all TimeCache.popped TimeCache.expired_keys TimeCache.expire_until TimeCache.expires_on_time TimeCache.in_pop_order State.fresh State.size_in_range State.durations_in_range State.up_to State.limits_in_range Run.act Run.has_room Run.use_room Run.send Whole.content_held Whole.cache_fits Whole.fits Whole.in_range Whole.keys_once Whole.neighbours Whole.noted_once Whole.record_within Whole.flags_stand Whole.whole Links.peers_marked Links.eager_peers Links.lazy_peers Push.schedule_dispatch Push.schedule_announce_dropped Push.record_full Push.record_also Push.note_one Push.note_each Push.note_dropped Push.send_each Push.handed_back Push.note_for_each Push.eager_targets Push.push_to Push.eager_push Push.note_for Push.lazy_push Gossips.mark_received Gossips.cache_at Gossips.gossip_size Gossips.broadcast_to Gossips.broadcast Ticks.evict Ticks.on_evict_cache_timer Handle.first_event Handle.handle NoNeighbourPassedOver.carries NoNeighbourPassedOver.sends NoNeighbourPassedOver.left_out NoNeighbourPassedOver.met_full Panel.panel_settings Notings.note_one' Notings.note_each' Notings.note_dropped' Notings.note_for_each' Notings.push_to' Notings.eager_push' Notings.broadcast_to' Notings.broadcast' Notings.handle'
met-full-example = record { whole1 = refl; met2 = refl; met3 = refl; peers = refl; ids = refl; was_full = refl }
