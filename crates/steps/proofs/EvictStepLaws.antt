-- Eviction and the first event's work: what they leave of a state at rest, and the numbers of entries.
-- Assumes nothing.
use Rattle.steps.proofs.Words.{◌≡◌, ℕ, refl, sym, ap, ◌∙◌, Bool, true, false, List, if◌then◌else◌, later_cache, State, with_init, with_received, with_grafted, with_cache, CoreOf, Head, AtRest}
use Rattle.std.proofs.Common.{subst}
use Rattle.protocol.specs.Ticks.{evict}
use Rattle.protocol.specs.Whole.{content_held}
use Rattle.decide.specs.Sizes.{sizes_of}
use Rattle.decide.proofs.SizesAfter.{evict_sizes}
use Rattle.decide.specs.Settled.{settled}
use Rattle.decide.specs.StateAfter.{first_state}
use Rattle.decide.proofs.SettledLaws.{evicted, length-later, expiry-later, content-later}
use Rattle.block.specs.View.{state_of}
use Rattle.steps.proofs.StandsAfter.{Kept, kept-first}
use Rattle.steps.proofs.EvictAgainLaws.{evict-again}

kept_at : {s : State} → AtRest s → Kept s
kept_at r = record { consistent = r.consistent; ranged = r.ranged }

rest_at : {s : State} → Kept s → AtRest s
rest_at k = record { consistent = k.consistent; ranged = k.ranged }

module _ (now : ℕ) (s : State) where
  pub rest-first : AtRest s → AtRest (first_state now s)
  rest-first r = rest_at (kept-first now s (kept_at r))

  -- the first event's work, as it is foreseen
  pub first-settled : CoreOf s → first_state now s ≡ settled now s
  unfolding first_state settled evict
  first-settled c = on s.init
    where
      on : (b : Bool) → (if b then s else evict now (with_init true s))
          ≡ (if b then s else with_init true (with_grafted (later_cache now s.grafted) (with_received (later_cache now s.received) (with_cache (later_cache now s.cache) s))))
      on true = refl
      on false = let e = evicted now s c in rw (e.received, e.grafted, e.cache) refl

  pub rest-settled : AtRest s → AtRest (settled now s)
  rest-settled r = subst AtRest (first-settled r.consistent.core) (rest-first r)

  -- the numbers of entries
  pub evict-lengths : CoreOf s → sizes_of (evict now s) ≡ evict_sizes now s
  unfolding evict sizes_of evict_sizes content_held
  evict-lengths c =
      let e = evicted now s c in
      rw (e.received, e.grafted, e.cache)
      (rw (length-later now s.received, expiry-later now s.received, length-later now s.cache, expiry-later now s.cache, content-later now s.cache, length-later now s.grafted, expiry-later now s.grafted) refl)

pub evict-then : (now : ℕ) (s : State) → AtRest s → sizes_of (evict now s) ≡ sizes_of (evict now (settled now s))
evict-then now s r = evict-lengths now s r.consistent.core ∙ sym (evict-again now s) ∙ sym (evict-lengths now (settled now s) (rest-settled now s r).consistent.core)

-- the first event's work, by its flag
module _ (now : ℕ) (h : Head) (xs : List ℕ) where
  pub first-still : h.live.init ≡ true → first_state now (state_of h xs) ≡ state_of h xs
  unfolding state_of first_state
  first-still e = ap (λ (b : Bool). if b then state_of h xs else evict now (with_init true (state_of h xs))) e

  pub first-done : h.live.init ≡ false → first_state now (state_of h xs) ≡ with_init true (evict now (state_of h xs))
  unfolding state_of first_state evict
  first-done e = ap (λ (b : Bool). if b then state_of h xs else evict now (with_init true (state_of h xs))) e
