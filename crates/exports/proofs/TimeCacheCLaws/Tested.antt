-- What the tests of the tables tell.
-- Assumes nothing.
use Rattle.std.proofs.Common.{◌≡◌, refl, sym, ◌∙◌, Bool, true, false, ◌&&◌, List, ℕ, ltb}
use Rattle.storage.specs.Lists.Base.{all, ascending}
use Rattle.storage.specs.Lists.Map.{keys}
use Rattle.storage.proofs.ListsLaws.MapLaws.{true≢, and_left, and_right, and_intro}
use Rattle.storage.specs.Refs.Refs.{places}
use Rattle.time_cache.specs.TimeCache.{in_pop_order}
use Rattle.time_cache.specs.Tables.{refs_at, cache_at, Sound, sound}
use Rattle.time_cache.specs.declared.cache.TimeBoundCache.{TimeBoundCache}
use Rattle.time_cache.proofs.Orders.{below_of, of-below}
use Rattle.exports.specs.TimeCacheC.Handed.{Tells}

module _ (c : TimeBoundCache) (xs : List ℕ) where
  pub sound-of : sound c xs ≡ true → Sound c xs
  unfolding sound
  sound-of h =
      let names = all (λ p. ltb p c.expiry.len) (places (refs_at c xs)) in
      let up = ascending (keys (cache_at c xs).entries) in
      let order = in_pop_order (cache_at c xs).expiry in
      let both = and_left (names && up) order h in
      record {
        below = below_of c.expiry.len (places (refs_at c xs)) (and_left names up both);
        up = and_right names up both;
        order = and_right (names && up) order h;
      }

  pub of-sound : Sound c xs → sound c xs ≡ true
  unfolding sound
  of-sound s = and_intro (and_intro (of-below c.expiry.len (places (refs_at c xs)) s.below) s.up) s.order

  -- the test of soundness, where P holds
  pub tells_sound : (P : Type 0) → P → (r : Bool) → r ≡ sound c xs → Tells (P × Sound c xs) r
  tells_sound P p true e = (p, sound-of (sym e))
  tells_sound P p false e = λ q. true≢ (e ∙ of-sound q.1)

-- a test that says yes only where P holds, and no only where it does not
pub told_as : (P : Type 0) (r : Bool) → (r ≡ true → P) → (r ≡ false → P → ⊥) → Tells P r
told_as P true f g = f refl
told_as P false f g = g refl
