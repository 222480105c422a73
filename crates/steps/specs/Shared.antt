-- What the types that the functions of a call share stand for.
-- Assumes nothing.
use Rattle.std.specs.Prelude.{ℕ, ◌<◌, ◌≡◌, length, get_or, Option as Answer, Some, None, Option}
use Rattle.storage.specs.Lists.Map.{Map, Entry}
use Rattle.time_cache.specs.TimeCache.{Timed}
use Rattle.decide.specs.Sizes.{Sizes}
use Rattle.steps.specs.declared.Sizes.{Sizes as CodeSizes}

-- entry i of a time cache is that of the identifier, and its value is the one found; d stands where there is no entry
pub record HeldAt {A : Type 0} (d : Entry (Timed A)) (m : Map (Timed A)) (id : ℕ) (found : Option A) (i : ℕ) : Type 0 where
  pub below : i < length m
  pub key : (get_or m i d).key ≡ id
  pub value : found ≡ Some (get_or m i d).value.value

-- what a look-up answers: the entry, or that nothing was found
abbrev pub EntryIs : {A : Type 0} → Entry (Timed A) → Map (Timed A) → ℕ → Option A → Answer ℕ → Type 0
EntryIs d m id found (Some i) = HeldAt d m id found i
EntryIs d m id found None = found ≡ None

-- the numbers of entries
abbrev pub sizes_value : CodeSizes → Sizes
sizes_value z = record {
  links = z.links;
  received = z.received;
  received_expiry = z.received_rows;
  cached = z.cached;
  cached_expiry = z.cached_rows;
  content = z.contents;
  grafted = z.grafted;
  grafted_expiry = z.grafted_rows;
  missing = z.missing;
  timers = z.timers;
  queued = z.queued;
  recorded = z.dropped;
}
