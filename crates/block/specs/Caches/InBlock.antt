-- The three time caches of the panel: in which tables of the block they stand, and what is asked of them.
-- Assumes nothing.
use Rattle.std.specs.Prelude.{ℕ, ◌*◌, ◌≤◌, ◌≡◌, true, length}
use Rattle.storage.specs.Lists.Base.{ascending}
use Rattle.storage.specs.Lists.Map.{keys}
use Rattle.time_cache.specs.TimeCache.{Cache, put, expire_until, in_pop_order}
use Rattle.protocol.specs.State.{State, with_received, with_grafted}

-- keys ascend, and expiry entries stand in pop order: a part of being whole
pub record InOrder {A : Type 0} (c : Cache A) : Type 0 where
  pub up : ascending (keys c.entries) ≡ true
  pub order : in_pop_order c.expiry ≡ true

-- at most n entries, and twice as many expiry entries: "Expiry entries: 2R, 2C, 2G"
pub record AtMost {A : Type 0} (n : ℕ) (c : Cache A) : Type 0 where
  pub entries : length c.entries ≤ n
  pub expiry : length c.expiry ≤ 2 * n

-- "mark received" until an instant
abbrev pub received_also : ℕ → ℕ → State → State
received_also id expires s = with_received (put id tt expires s.received) s

-- `expire_until` of the received messages
abbrev pub received_left : ℕ → State → State
received_left instant s = with_received (expire_until instant s.received) s

-- `expire_until` of the grafted messages
abbrev pub grafted_left : ℕ → State → State
grafted_left instant s = with_grafted (expire_until instant s.grafted) s
