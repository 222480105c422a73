-- The words of the crates below that the proofs of this crate use most, passed on.
pub use Rattle.block.proofs.LinkLaws.{count-links, count-peers, neighbour-here}
pub use Rattle.block.proofs.Tables.{length-table, length-view, rows-table, within-need}
pub use Rattle.block.specs.Fit.{Ceilings, Fit, WithinLimits}
pub use Rattle.block.specs.Layout.{sizes, table, tables}
pub use Rattle.block.specs.Sound.{AllNumbered, Laid, Numbered, Sound, adjoin}
pub use Rattle.block.specs.View.{byte_at, cached_of, grafts_of, id_at, limits_of, missed_of, nothing_of, peer_of, settings_of, state_of, view_of}
pub use Rattle.block.specs.declared.head.Head.{Head}
pub use Rattle.protocol.specs.State.{Counts, Created, Hop, Limits, Note, Settings, State, block_need, created, durations_in_range, limits_in_range, not_created, size_in_range, zero_counts}
pub use Rattle.protocol.specs.Whole.{announcers_whole, content_held, grafts_whole, neighbours, noted_once, record_within, whole}
pub use Rattle.std.proofs.Common.{Bool, Err, List, None, Ok, Option, Result, Some, [], add-one, add-zero, ap, append_assoc, arith, drop, drop-cons, drop-drop, drop_at, drop_of_length-le, eq-eqb, eq-or-lt_of_le, eqb, eqb-true, ext_get_or, false, get_or, get_or-set_other, get_or-set_same, get_or-take, if◌then◌else◌, inl, inr, is_ok, le-leb, le-ltb, le_of_suc-le-suc, leb, leb-false, leb-true, length, length-append, length-drop, length-set, length-take, length-take-le, lit<, lt-ltb, ltb, ltb-true, map, mul-le-mul_left, mul-suc, mul-zero, ne_eqb, not, not-suc-le-zero, refl, replicate, rules, set, subst, suc, suc-le-suc, sym, take, take-append-drop, take-suc, take-take, take_all, take_at, true, zero, zero-add, zero-le, ℕ, ◌&&◌, ◌*◌, ◌++◌, ◌+◌, ◌-◌, ◌<◌, ◌^◌, ◌||◌, ◌∙◌, ◌∷◌, ◌≡◌, ◌≤◌, ◌⊎◌}
pub use Rattle.storage.proofs.ListsLaws.MapLaws.{all_head, all_tail, and_intro, and_left, and_right, cases, true≢}
pub use Rattle.storage.proofs.ListsLaws.Places.{all-at, at_all, of-once, once-of}
pub use Rattle.storage.proofs.RowsLaws.Parts.{drop-put, get_d_part, get_or-put-after, get_or-put-before, get_or-put-in, length-put, length_part, part-add, part-after, part-before, part-between, part-part, part-put-in, put-comm, put-nil, put-over, put-put-next, put-within, put_all, put_right, set-put}
pub use Rattle.storage.proofs.RowsLaws.Rows.{get_d_rows, length-rows, row-end}
pub use Rattle.storage.specs.Lists.Base.{all, ascending, concat_map, is_empty, once, sum}
pub use Rattle.storage.specs.Lists.Map.{Entry, entry, lookup}
pub use Rattle.storage.specs.Refs.Refs.{Below, Ref, places, ref_of, refs}
pub use Rattle.storage.specs.Rows.Digits.{be_nat, le_bytes, le_nat}
pub use Rattle.storage.specs.Rows.Part.{part, put}
pub use Rattle.storage.specs.Rows.Rows.{rows}
pub use Rattle.time_cache.proofs.Orders.{below_of, of-below, of-up, tells-ascending, up_of}
pub use Rattle.time_cache.specs.Tables.{ExpiryRow, cache_in, entry_of, expiry_of, expiry_row_of, expiry_rows, row_at, sound, value_bytes}
pub use borrow.Author.Tests.{eqb-false, lt-leb, not-false, not-true}
