-- The words of the crates below that the proofs of this crate use most, passed on.
pub use Rattle.block.proofs.PanelLaws.{same-state}
pub use Rattle.block.specs.LinkSteps.{link_at, linked, peer_at}
pub use Rattle.block.specs.NoteSteps.{drop_also, note, note_also, queue_also, standing}
pub use Rattle.block.specs.Panels.{AtRest, Goes, state}
pub use Rattle.block.specs.View.{cached_of, limits_of}
pub use Rattle.block.specs.Views.{numbered_link, shown}
pub use Rattle.block.specs.declared.head.Head.{Head}
pub use Rattle.decide.proofs.SizesAfter.{down_sizes}
pub use Rattle.decide.specs.Settled.{forgotten_actions, settled}
pub use Rattle.decide.specs.Sizes.{Sizes, sized_links, sizes_of}
pub use Rattle.decide.specs.StateAfter.{first_state}
pub use Rattle.postcard.specs.Message.{Action, EvictCache, Forgotten, Scheduled, action_bytes}
pub use Rattle.protocol.specs.Consistent.{Consistent, CoreOf, Ranged}
pub use Rattle.protocol.specs.Links.{Links, Mark, eager, is_lazy, is_neighbour, lazy, quiet, up_mark}
pub use Rattle.protocol.specs.State.{Cached, Grafts, Limits, Note, Settings, State, with_cache, with_dispatch_scheduled, with_dropped, with_grafted, with_init, with_queue, with_received}
pub use Rattle.protocol.specs.Whole.{cache_fits, fits, whole}
pub use Rattle.std.proofs.Common.{All, Bool, List, None, Option, Some, [], add-one, ap, append-nil, append_assoc, arith, bit_or, cond, count_by, drop, eq-eqb, eqb, false, get_or, if◌then◌else◌, inl, inr, le-leb, le-ltb, leb, leb-true, length, length-append, length-set, lit<, lt-ltb, ltb, ltb-false, ltb-true, map, ne_eqb, not, not-suc-le-zero, refl, rules, set, suc, sym, take, true, zero, ℕ, ◌%◌, ◌&&◌, ◌*◌, ◌++◌, ◌+◌, ◌-◌, ◌/◌, ◌<◌, ◌==◌, ◌^◌, ◌||◌, ◌∙◌, ◌∷◌, ◌≡◌, ◌≤◌, ◌⊎◌}
pub use Rattle.std.proofs.lemmas.List.{drop_all, ext_get_or, get_or-drop, get_or-replicate, get_or-set_other, get_or-set_same, get_or-take, get_or_append_left, length-drop, length-take-le, map-append, take-append-drop}
pub use Rattle.storage.proofs.ListsLaws.MapLaws.{all_head, all_tail, and_intro, and_left, and_right, cases, true≢}
pub use Rattle.storage.specs.Lists.Base.{all, any, ascending, concat_map, count, is_empty}
pub use Rattle.storage.specs.Lists.Map.{Entry, Map, entry, has, insert, keys, lookup}
pub use Rattle.storage.specs.Rows.Ident.{id_of}
pub use Rattle.time_cache.specs.TimeCache.{Cache, Expiry, Timed, Timely, due, expired_keys, get, holds, later_cache, put, replace}
pub use Rattle.wire.specs.Encode.Intake.{Intake, after}
