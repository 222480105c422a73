-- Eviction twice at one instant leaves as many as eviction once.
-- Assumes nothing.
use Rattle.steps.proofs.Words.{ℕ, suc, ◌+◌, ◌≡◌, refl, ap, Bool, false, List, [], ◌∷◌, arith, ltb, length, if◌then◌else◌, cases, State}
use Rattle.storage.specs.Lists.Base.{filter, count, sum}
use Rattle.time_cache.specs.TimeCache.{later_cache}
use Rattle.decide.specs.Sizes.{sizes_of}
use Rattle.decide.proofs.SizesAfter.{evict_sizes}
use Rattle.decide.specs.Settled.{settled}
use Rattle.steps.proofs.SettledLaws.ThenLaws.{settled-still}

module _ {A : Type 0} (f : A → Bool) where
  -- what is counted twice is counted once
  count-again : (xs : List A) → count f (filter f xs) ≡ count f xs
  unfolding count filter
  count-again [] = refl
  count-again (x ∷ xs) = cases (f x) (λ p. rw p (rw p (ap suc (count-again xs)))) (λ p. rw p (count-again xs))

  sum-again : (g : A → ℕ) (xs : List A) → sum (λ x. if f x then g x else 0) (filter f xs) ≡ sum (λ x. if f x then g x else 0) xs
  unfolding sum filter
  sum-again g [] = refl
  sum-again g (x ∷ xs) = cases (f x) (λ p. rw p (rw p (ap (λ (n : ℕ). g x + n) (sum-again g xs)))) (λ p. rw p (omega (arith, sum-again g xs)))

again : (now : ℕ) (s : State) → s.init ≡ false → evict_sizes now (settled now s) ≡ evict_sizes now s
unfolding evict_sizes sizes_of settled later_cache
again now s e = rw e (λ p. record {
  links = length s.links;
  received = count-again (λ x. ltb now x.value.expires) s.received.entries p;
  received_expiry = count-again (λ x. ltb now x.time) s.received.expiry p;
  cached = count-again (λ x. ltb now x.value.expires) s.cache.entries p;
  cached_expiry = count-again (λ x. ltb now x.time) s.cache.expiry p;
  content = sum-again (λ x. ltb now x.value.expires) (λ x. length x.value.value.content) s.cache.entries p;
  grafted = count-again (λ x. ltb now x.value.expires) s.grafted.entries p;
  grafted_expiry = count-again (λ x. ltb now x.time) s.grafted.expiry p;
  missing = length s.missing;
  timers = length s.timers.graft;
  queued = length s.queue;
  recorded = length s.dropped;
})

pub evict-again : (now : ℕ) (s : State) → evict_sizes now (settled now s) ≡ evict_sizes now s
evict-again now s = cases s.init (λ e. ap (evict_sizes now) (settled-still now s e)) (again now s)
