-- *Alike* as the specification has it: "order inside queue, record, announcer and expiry lists ignored, repeats counted".
-- "Order in alike" holds the new one against it: "Two blocks alike in the new way are alike in the old way."
use Rattle.std.specs.Prelude.{Bool, ◌&&◌, List, eqb}
use Rattle.storage.specs.Lists.Base.{all, count}
use Rattle.time_cache.specs.TimeCache.{Cache}
use Rattle.protocol.specs.State.{State}
use Rattle.protocol.specs.Alike.{same_list, same_map, same_mark, same_hop, same_note, same_expiry, same_grafts, same_cached, same_unit, same_settings, same_limits, same_flags}

-- "order … ignored, repeats counted": each element stands as often in both
unfoldable pub same_bag : {A : Type 0} → (A → A → Bool) → List A → List A → Bool
same_bag same xs ys =
    all (λ x. eqb (count (same x) xs) (count (same x) ys)) xs && all (λ y. eqb (count (same y) xs) (count (same y) ys)) ys

-- the same entries with the same expiry and value, the same expiry entries in any order
unfoldable pub same_cache_unordered : {A : Type 0} → (A → A → Bool) → Cache A → Cache A → Bool
same_cache_unordered same a b =
    same_map (λ x y. eqb x.expires y.expires && same x.value y.value) a.entries b.entries
    && same_bag same_expiry a.expiry b.expiry

-- "sets … and maps": links, queue, record, announcers, graft timers
unfoldable pub same_tables_unordered : State → State → Bool
same_tables_unordered a b =
    same_map same_mark a.links b.links
    && same_bag same_note a.queue b.queue
    && same_bag same_note a.dropped b.dropped
    && same_map (same_bag same_hop) a.missing b.missing
    && same_list eqb a.timers.graft b.timers.graft

-- "maps": the three time caches
unfoldable pub same_caches_unordered : State → State → Bool
same_caches_unordered a b =
    same_cache_unordered same_unit a.received b.received
    && same_cache_unordered same_grafts a.grafted b.grafted
    && same_cache_unordered same_cached a.cache b.cache

-- *Alike*, of two states, in the old way
unfoldable pub alike_unordered : State → State → Bool
alike_unordered a b =
    same_settings a.settings b.settings && same_limits a.limits b.limits && same_tables_unordered a b && same_caches_unordered a b && same_flags a b
