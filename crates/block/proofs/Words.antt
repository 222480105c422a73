-- The words of the crates below that the proofs of this crate use most, passed on.
pub use Rattle.protocol.specs.Links.{Links, Mark, eager, is_eager, is_neighbour, is_quiet, lazy, quiet_in}
pub use Rattle.protocol.specs.Neighbours.{forget_peer, without_announcer, without_notes}
pub use Rattle.protocol.specs.State.{Cached, Grafts, Hop, Limits, Note, State, with_announce_scheduled, with_cache, with_dropped, with_graft_timers, with_grafted, with_links, with_missing, with_queue, with_received}
pub use Rattle.std.proofs.Common.{Bool, Err, List, None, Ok, Option, Result, Some, [], add-one, add_assoc, ap, append-nil, append_assoc, arith, drop, drop-cons, drop-drop, drop_at, drop_of_length-le, eq-eqb, eqb, eqb-true, false, get_or, get_or-append-add, get_or-set_other, get_or-set_same, if◌then◌else◌, inl, inr, le-leb, le-ltb, le_of_suc-le-suc, leb, leb-true, length, length-append, length-set, lit<, lt-ltb, ltb, ltb-false, ltb-true, map, min, mul-suc, ne_eqb, not, not-suc-le-zero, refl, rules, set, set-set, subst, suc, suc-le-suc, sym, take, take-append-drop, take-suc, take-take, take_all, take_at, true, zero, zero-add, zero-le, ℕ, ◌&&◌, ◌*◌, ◌++◌, ◌+◌, ◌-◌, ◌<◌, ◌^◌, ◌||◌, ◌∙◌, ◌∷◌, ◌≡◌, ◌≤◌, ◌⊎◌}
pub use Rattle.std.specs.declared.ops.Range.{Range}
pub use Rattle.storage.proofs.ListsLaws.ListLaws.{all-imp, all_append, all_map, count-length, filter-all, filter_map, has-remove, length-filter}
pub use Rattle.storage.proofs.ListsLaws.MapLaws.{all_cons, all_head, all_tail, and_intro, and_left, and_right, ascending-insert, cases, lookup-insert-same, true≢}
pub use Rattle.storage.proofs.RefsLaws.Places.{get_or-map-in, length-refs, ref-at}
pub use Rattle.storage.proofs.RefsLaws.Shifts.{done-read, done-start, done_all, done_more, low_or_high, named-dropped, named-shifted, shifted-le}
pub use Rattle.storage.proofs.RowsLaws.Digits.{be_nat-be_bytes, le_nat-le_bytes, length-be_bytes, length-le_bytes}
pub use Rattle.storage.proofs.RowsLaws.Ids.{id-lt, tri}
pub use Rattle.storage.proofs.RowsLaws.Parts.{drop-put, drop-take, get_d_part, get_or-put-after, get_or-put-before, length-put, length_part, loan-put, part-add, part-after, part-before, part-between, part-inside, part-part, part-put, part-put-in, part-zero, put-cons, put-drop, put-inside, put-nil, put-put-next, put-put-prev, put-within, put_all, set-put, take_put}
pub use Rattle.storage.proofs.RowsLaws.Rows.{get_d_rows, length-opened, length-rows, put-gap, row-end, rows-field, rows-opened, rows-part, rows-put, rows-put-one, rows_same, take-rows}
pub use Rattle.storage.proofs.RowsLaws.Views.{map-drop, map-gap, map-put, map-take}
pub use Rattle.storage.specs.Lists.Base.{all, any, ascending, count, filter, is_empty, once, sum}
pub use Rattle.storage.specs.Lists.Map.{Entry, Map, entry, has, insert, insert_key, keys, lookup, remove, remove_key}
pub use Rattle.storage.specs.Refs.Numbers.{entries, lower_all, numbered, raised, stays}
pub use Rattle.storage.specs.Refs.Refs.{Below, Ref, moved, names, places, ref, ref_of, refs, shifted}
pub use Rattle.storage.specs.Rows.Digits.{be_bytes, be_nat, le_bytes, le_nat}
pub use Rattle.storage.specs.Rows.Ident.{id_of}
pub use Rattle.storage.specs.Rows.Part.{part, put}
pub use Rattle.storage.specs.Rows.Rows.{differs, rows}
pub use Rattle.storage.specs.Rows.Sorted.{Ascending, Between, FoundIs, Here}
pub use Rattle.storage.specs.Tables.Listed.{inserted, removed}
pub use Rattle.time_cache.proofs.ExpiryLaws.{length-expiry_rows, row-at}
pub use Rattle.time_cache.proofs.MapPlaces.{between-tail, first_below, here-tail, insert-between, insert-here, lookup-between, lookup-here, up-tail}
pub use Rattle.time_cache.proofs.Orders.{below, below_of, of-below, of-up, up_of}
pub use Rattle.time_cache.proofs.TableLaws.{all-gap, keys-named}
pub use Rattle.time_cache.proofs.ValueLaws.{expire-as, expired-as, holds_as, keys-as, later-as, length-as, put_as, replace-put, values-read, values_same}
pub use Rattle.time_cache.proofs.WriteLaws.{own-refs, own-rows, own-sound, own-stored, own-written, put-get_or-same, rest-stored}
pub use Rattle.time_cache.specs.Steps.{Expires, Inserts, held_at, ref_at}
pub use Rattle.time_cache.specs.Tables.{ExpiryRow, FitsOneMore, Lies, OnlyTwo, ValueBytes, cache_at, cache_in, cache_of, entry_for, entry_of, expiry_of, expiry_row, expiry_row_of, expiry_rows, named, no_expiry, no_row, read_as, refs_at, row_at, rows_at, value_bytes, values_as}
pub use Rattle.time_cache.specs.TimeCache.{Cache, Expiry, Timed, due, expire_until, expired_keys, holds, in_pop_order, later_cache, replace}
pub use Rattle.time_cache.specs.declared.cache.TimeBoundCache.{TimeBoundCache}
pub use lib.ListN.{get_or-append, get_or-map}
pub use lib.Seq.{drop-append-add, get_or_at, set-get_or, take-append-le}
pub use mathlib.Core.List.{map-append}
