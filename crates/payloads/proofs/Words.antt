-- The words of the crates below that the proofs of this crate use most, passed on.
pub use Rattle.block.proofs.PanelLaws.{here, link-key, same-state, same_keys}
pub use Rattle.block.proofs.ViewLaws.{links-few}
pub use Rattle.block.specs.Found.{HopOf, LinkAt, LinkIf, hop_value}
pub use Rattle.block.specs.LinkSteps.{LinksAscend, link_at, linked, peer_at}
pub use Rattle.block.specs.MissingSteps.{hop, hops_at, miss_out, missed_at}
pub use Rattle.block.specs.Panels.{Allowed, AtRest, state}
pub use Rattle.block.specs.View.{only_if, state_of}
pub use Rattle.block.specs.Views.{links_from, numbered_link, shown}
pub use Rattle.block.specs.declared.head.Head.{Head}
pub use Rattle.block.specs.declared.links.NumberedLink.{NumberedLink}
pub use Rattle.decide.specs.RecordGrowth.{Batch, add_batches, add_note, announce_action, batches_for, cached_in, push_actions}
pub use Rattle.decide.specs.Rooms.{back_peers, kth_taken}
pub use Rattle.decide.specs.Settled.{settled}
pub use Rattle.decide.specs.Sizes.{Sizes, sized_recorded, sizes_of}
pub use Rattle.decide.specs.StateAfter.{first_set_state, lazy_state, optimised_links}
pub use Rattle.postcard.specs.Message.{Action, Delivery, Emitted, Graft, Ihave, Prune, Sent, action_bytes, message_bytes, taken_byte}
pub use Rattle.postcard.specs.Output.{send_head}
pub use Rattle.protocol.specs.Gossips.{announcers, duplicate, far_closer, faster, graft_out, grafted_for, least_from, no_more_hops, repeated, same_as}
pub use Rattle.protocol.specs.Links.{Links, Mark, add_lazy, eager, eager_in, eager_peers, is_eager, is_neighbour, lazy, lazy_peers, quiet}
pub use Rattle.protocol.specs.Push.{eager_push, eager_targets, for_peer, lazy_push, note_for}
pub use Rattle.protocol.specs.Run.{Room, Run, begin}
pub use Rattle.protocol.specs.State.{Cached, Grafts, Hop, Limits, Note, Settings, State, durations_in_range, limits_in_range, size_in_range, with_announce_scheduled, with_dropped, with_grafted, with_links, with_missing, zero_counts}
pub use Rattle.protocol.specs.Whole.{cache_fits, content_held, fits, neighbours}
pub use Rattle.std.proofs.Common.{All, Bool, List, None, Option, Some, [], add-one, ap, append-nil, append_assoc, arith, count_by, drop, drop-cons, eq-eqb, eqb, eqb-true, false, get_or, get_or-set_other, get_or-set_same, if◌then◌else◌, inl, inr, is_some, le-leb, le-ltb, leb, leb-false, leb-true, length, length-append, length-set, lt-ltb, ltb, map, ne_eqb, not, refl, set, suc, sym, take, take-suc, take_all, true, ℕ, ◌&&◌, ◌++◌, ◌+◌, ◌-◌, ◌<◌, ◌==◌, ◌^◌, ◌||◌, ◌∙◌, ◌∷◌, ◌≡◌, ◌≤◌, ◌⊎◌}
pub use Rattle.steps.proofs.AtRestLaws.{grafted-order, same_dropped, same_flag, same_links, settled-as, settled-low, settled-takes, settled-up}
pub use Rattle.steps.proofs.LinkSetLaws.{below-in, below-of, below-out, below-start, below-wider, each-below, few-links}
pub use Rattle.steps.specs.Calls.{rooms_of}
pub use Rattle.steps.specs.Grafted.{peers_at}
pub use Rattle.steps.specs.LinkSets.{AllBelow, has_link, links_below, links_of}
pub use Rattle.steps.specs.Record.{Notable, note_of, takes_note, these_noted, with_these}
pub use Rattle.steps.specs.Shared.{HeldAt, sizes_value}
pub use Rattle.steps.specs.declared.call.Call.{Call}
pub use Rattle.steps.specs.declared.link_set.LinkSet.{LinkSet}
pub use Rattle.storage.proofs.ListsLaws.ListLaws.{concat-append, concat-one, count-append, filter-append}
pub use Rattle.storage.proofs.ListsLaws.MapLaws.{all_head, all_tail, and_left, and_right, cases, lookup-insert-same, true≢}
pub use Rattle.storage.specs.Lists.Base.{all, any, ascending, concat_map, count, filter, is_empty, member, once, sum}
pub use Rattle.storage.specs.Lists.Map.{Entry, Map, entry, has, keys, lookup}
pub use Rattle.storage.specs.Rows.Ident.{id_of}
pub use Rattle.storage.specs.declared.rows.id.Id.{Id}
pub use Rattle.time_cache.specs.TimeCache.{Cache, Timed, get, holds, replace, value_of, with_value}
pub use Rattle.wire.proofs.EncodeLaws.IntakeLaws.{after_append, after_nil}
pub use Rattle.wire.specs.Encode.Intake.{Intake, after}
pub use lib.ListN.{get_or-map}
