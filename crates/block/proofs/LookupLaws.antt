-- What a look-up in the message cache finds.
-- Assumes nothing.
use Rattle.block.proofs.Words.{◌≡◌, ℕ, ap, ◌∙◌, sym, refl, List, [], Bool, true, false, not, Some, None, Entry, entry, keys, true≢, Here, Between, Timed, lookup-here, lookup-between, up_of, State, Cached}
use Rattle.std.specs.Prelude.{Option as Option'}
use Rattle.std.specs.Option.{is_some}
use Rattle.block.specs.Caches.CachedReads.{cached_value, cached_at}
use Rattle.block.specs.declared.caches.cached.CachedMessage.{CachedMessage}
use Rattle.time_cache.specs.TimeCache.{value_of, get}
use Rattle.block.specs.Caches.InBlock.{InOrder}

abbrev nothing : Entry (Timed Cached)
nothing = entry 0 (record { expires = 0; value = record { content = []; round = 0 } })

module _ (id : ℕ) (s : State) where
  pub round-here : InOrder s.cache → (i r : ℕ) → r ≡ (cached_at s i).round → Here (keys s.cache.entries) id i
      → (content : List ℕ) × (get id s.cache ≡ Some (record { content = content; round = r }))
  unfolding get value_of
  round-here o i r e h = (
    (cached_at s i).content,
    ap value_of (lookup-here id i nothing s.cache.entries (up_of (keys s.cache.entries) o.up) h)
        ∙ ap (λ (n : ℕ). Some (record { content = (cached_at s i).content; round = n })) (sym e),
  )

  pub round-between : (i : ℕ) → Between (keys s.cache.entries) id i → get id s.cache ≡ None
  unfolding get value_of
  round-between i b = ap value_of (lookup-between id i s.cache.entries b)

-- what `is_none` tells of a cached message that was looked up
pub value-missed : (o : Option' CachedMessage) (b : Bool) → is_some o ≡ not b → b ≡ true → cached_value o ≡ None
value-missed None b e t = refl
value-missed (Some m) b e t = true≢ (sym (e ∙ ap not t))

pub value-there : (o : Option' CachedMessage) (b : Bool) → is_some o ≡ not b → b ≡ false → (c : Cached) × (cached_value o ≡ Some c)
value-there None b e t = true≢ (e ∙ ap not t)
value-there (Some m) b e t = (record { content = m.content.now; round = m.round.0 }, refl)
