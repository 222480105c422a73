-- What it is for a time cache to stand in two tables of a block.
-- Assumes nothing.
use Rattle.std.specs.Prelude.{ℕ, ◌≡◌, List}
use Rattle.time_cache.specs.TimeCache.{Cache}
use Rattle.time_cache.specs.Tables.{ValueBytes, cache_at, values_as, Lies, FitsOneMore, Sound}
use Rattle.time_cache.specs.declared.cache.TimeBoundCache.{TimeBoundCache}
use Rattle.block.specs.Caches.InBlock.{InOrder}

-- the tables lie in the block, with room for one row more in each, the values are read from the bytes of theirs, and the tables are sound where the cache is in order
pub record StandsIn {A : Type 0} (t : TimeBoundCache) (block : List ℕ) (c : Cache A) : Type 0 where
  pub lies : Lies t block
  pub room : FitsOneMore t block
  pub value : ValueBytes → A
  pub same : values_as value (cache_at t block) ≡ c
  pub sound : InOrder c → Sound t block
