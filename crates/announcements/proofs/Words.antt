-- The words of the crates below that the proofs of this crate use most, passed on.
pub use Rattle.block.proofs.NoteLaws.{count-dropped, count-queue}
pub use Rattle.block.proofs.NoteRowLaws.{map-at, queue-few, record-few}
pub use Rattle.block.proofs.PanelLaws.{link-key, same-state, same_keys}
pub use Rattle.block.proofs.ViewLaws.{links-few}
pub use Rattle.block.specs.LinkSteps.{link_at, linked, peer_at}
pub use Rattle.block.specs.NoteSteps.{Column, NoteOf, drop_instead, note, note_at, note_for, queue_also, record_cut}
pub use Rattle.block.specs.Panels.{Allowed, AtRest, Goes, state}
pub use Rattle.block.specs.View.{state_of}
pub use Rattle.block.specs.Views.{shown}
pub use Rattle.decide.specs.ActionsAfter.{dispatch_actions}
pub use Rattle.decide.specs.Pieces.{Piece, dispatch_batches, numbered, peer_pieces, piece_actions, pieces}
pub use Rattle.decide.specs.RecordGrowth.{Batch, add_batches, add_note, add_notes, announce_action, cached_in}
pub use Rattle.decide.specs.Settled.{settled}
pub use Rattle.decide.specs.Sizes.{Sizes, sized_grafted, sized_grafted_expiry, sized_missing, sized_queued, sized_recorded, sized_timers, sizes_of}
pub use Rattle.decide.specs.StateAfter.{announced_state, recorded_state}
pub use Rattle.postcard.specs.Message.{Action, AnnounceDropped, Graft, IHave, Ihave, Scheduled, SendGraft, Sent, action_bytes, ihave_bytes, message_bytes, taken_byte}
pub use Rattle.postcard.specs.Values.{ihave_value}
pub use Rattle.protocol.specs.Links.{Links, Mark, add_eager, eager, is_neighbour, mark_if_there}
pub use Rattle.protocol.specs.Push.{for_peer, notes, record_full}
pub use Rattle.protocol.specs.Run.{Room, Run, begin}
pub use Rattle.protocol.specs.State.{Grafts, Hop, Limits, Note, Settings, State, with_announce_scheduled, with_cache, with_dispatch_scheduled, with_dropped, with_graft_timers, with_grafted, with_init, with_links, with_missing, with_queue, with_received, zero_counts}
pub use Rattle.protocol.specs.Ticks.{oldest, per_message, queued_for, queued_peers, younger}
pub use Rattle.protocol.specs.Whole.{announcers_whole, cache_fits, fits}
pub use Rattle.std.proofs.Common.{All, Bool, List, None, Option, Some, [], add-one, add-zero, ap, append-nil, append_assoc, arith, bit_and, drop, drop-cons, drop-drop, drop_of_length-le, eq-eqb, eqb, eqb-true, false, get_or, get_or-set_other, get_or-set_same, if◌then◌else◌, inl, inr, is_some, le-leb, le-ltb, le-mul_of_pos_right, leb, leb-false, leb-true, length, length-append, length-drop, length-set, length-take, length-take-le, lt-ltb, ltb, ltb-false, ltb-true, map, min, ne_eqb, not, refl, replicate, rules, set, subst, suc, suc-le-suc, sym, take, take-add, true, zero, zero-add, zero-le, ℕ, ⊎_elim, ◌%◌, ◌&&◌, ◌*◌, ◌++◌, ◌+◌, ◌-◌, ◌<◌, ◌^◌, ◌||◌, ◌∙◌, ◌∷◌, ◌≡◌, ◌≤◌, ◌⊎◌}
pub use Rattle.std.proofs.Math.Seq.{drop-append_seam, take-append_seam, take-suc}
pub use Rattle.std.proofs.lemmas.List.{drop_all, length-replicate, nil_from_length, take-map}
pub use Rattle.std.proofs.lemmas.List.Elements.{All-drop, All-head, All-nil, All-push, All-same, All-tail, All-take, All-weaker}
pub use Rattle.steps.proofs.AtRestLaws.{in_order, same_dropped, same_links, settled-as, settled-low, settled-up}
pub use Rattle.steps.proofs.RoomsLaws.{first-link, has-member, kth-link, same-rooms-in}
pub use Rattle.steps.specs.Calls.{rooms_of}
pub use Rattle.steps.specs.Shared.{EntryIs, sizes_value}
pub use Rattle.storage.proofs.ListsLaws.ListLaws.{all-imp, all-insert-entry, all_map, concat-append, concat-one, count-append, count-length, filter-append, length-filter}
pub use Rattle.storage.proofs.ListsLaws.Lists.{any-one, any-right, any_append, any_left, any_none, or_cases, or_left, or_right}
pub use Rattle.storage.proofs.ListsLaws.MapLaws.{all_head, all_tail, and_intro, and_left, and_right, ascending-insert, cases, true≢}
pub use Rattle.storage.specs.Lists.Base.{all, any, ascending, concat_map, filter, is_empty, member}
pub use Rattle.storage.specs.Lists.Map.{Entry, Map, has, insert, insert_key, keys, lookup, remove, remove_key}
pub use Rattle.storage.specs.Rows.Ident.{id_of}
pub use Rattle.time_cache.specs.TimeCache.{Cache, Expiry, Timed, get, holds, later_cache}
pub use Rattle.wire.proofs.EncodeLaws.IntakeLaws.{after_append, after_nil}
pub use Rattle.wire.specs.Encode.Intake.{Intake}
pub use Rattle.wire.specs.Reader.Values.{ihaves_value}
pub use borrow.Author.Tests.{eqb-false, not-false, not-true}
pub use lib.ListN.{get_or-map}
