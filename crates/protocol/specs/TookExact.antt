-- "It is taken in by the call that puts it into the message cache": what `took` reads from an event and its actions is what the event does to that cache.
-- Assumes nothing.
use Rattle.std.specs.Prelude.{ℕ, ◌≡◌, ◌+◌, true, false, List, Some}
use Rattle.storage.specs.Lists.Map.{lookup}
use Rattle.postcard.specs.Message.{Event}
use Rattle.time_cache.specs.TimeCache.{Timed}
use Rattle.protocol.specs.State.{State, Settings, Counts, Cached}
use Rattle.protocol.specs.Run.{Room, begin}
use Rattle.protocol.specs.Handle.{handle}
use Rattle.protocol.specs.Whole.{whole}
use Rattle.protocol.specs.Answer.{accept}
use Rattle.protocol.specs.NoNeighbourPassedOver.{Took, took, is_of}

-- the message stands in the cache as a call at this time puts it there
pub record PutAt (now id : ℕ) (c : Settings) (s : State) : Type 0 where
  pub content : List ℕ
  pub round : ℕ
  pub there : lookup id s.cache.entries ≡ Some (record { expires = now + c.message_cache_retention; value = record { content = content; round = round } })

pub record TookExact (hash : List ℕ → ℕ) : Type 0 where
  -- a message that is taken in is put into the cache by that call
  pub puts : (s : State) (n : Counts) (rooms : List Room) (now : ℕ) (e : Event) (t : Took) → took hash s.settings (accept e (handle hash now e (begin s n rooms))) ≡ Some t →
      PutAt now t.id s.settings (handle hash now e (begin s n rooms)).state
  -- and one that is not taken in is not: what is cached of it after the call was so before
  pub only : (s : State) (n : Counts) (rooms : List Room) (now : ℕ) (e : Event) → whole s ≡ true → (id : ℕ) →
      is_of id (took hash s.settings (accept e (handle hash now e (begin s n rooms)))) ≡ false →
      (v : Timed Cached) → lookup id (handle hash now e (begin s n rooms)).state.cache.entries ≡ Some v → lookup id s.cache.entries ≡ Some v
