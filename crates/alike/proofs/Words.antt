-- The words of the crates below that the proofs of this crate use most, passed on.
pub use Rattle.block.specs.LinkSteps.{LinksAscend, link_at, mark_value, peer_at}
pub use Rattle.block.specs.NoteSteps.{count_of, note, notes_of}
pub use Rattle.block.specs.Views.{numbered_link, shown}
pub use Rattle.protocol.specs.Alike.{alike, likeness, not_whole, same_cached, same_grafts, same_hop, same_list, same_map, same_mark, same_note, same_unit}
pub use Rattle.protocol.specs.State.{Cached, Grafts, Hop, Limits, Note, State, block_need, limits_in_range}
pub use Rattle.std.proofs.Common.{Bool, List, None, Option, Some, [], add-one, ap, arith, below_more, drop, drop-cons, drop_of_length-le, eq-eqb, eqb, eqb-true, false, get_or, if◌then◌else◌, inl, inr, le_of_suc-le-suc, leb, leb-false, leb-true, length, lit<, map, ne_eqb, not, not-suc-le-zero, refl, rules, subst, suc, suc-le-suc, sym, true, zero, zero-le, ℕ, ◌&&◌, ◌+◌, ◌-◌, ◌<◌, ◌∙◌, ◌∷◌, ◌≡◌, ◌≤◌, ◌⊎◌}
pub use Rattle.storage.specs.Lists.Map.{Entry, Map, entry, keys}
pub use Rattle.time_cache.specs.TimeCache.{Cache, Expiry, Timed}
pub use Rattle.whole.proofs.Tests.{no, yes}
