-- Actions: the bytes of none, of one, and of some and then others; those of a first event's eviction, and of EvictCache behind it.
-- Assumes nothing.
use Rattle.steps.proofs.Words.{◌≡◌, refl, ap, true, false, List, [], ◌∷◌, ◌++◌, map, ℕ, ltb, ltb-true, cases, Expiry, Cache, Action, action_bytes, Scheduled, Forgotten, EvictCache, State}
use borrow.Author.Tests.{lt-leb}
use Rattle.storage.specs.Lists.Base.{concat_map, filter}
use Rattle.storage.proofs.ListsLaws.ListLaws.{concat-append, concat-one}
use Rattle.time_cache.specs.TimeCache.{due, popped, expired_keys, later_cache}
use Rattle.decide.specs.Settled.{settled, forgotten_actions, settled_actions}
use Rattle.decide.specs.ActionsAfter.{evict_actions}

pub no-action : concat_map action_bytes [] ≡ []
unfolding concat_map
no-action = refl

pub one-action : (a : Action) → concat_map action_bytes (a ∷ []) ≡ action_bytes a
one-action a = concat-one action_bytes a

pub actions-then : (xs ys : List Action) → concat_map action_bytes (xs ++ ys) ≡ concat_map action_bytes xs ++ concat_map action_bytes ys
actions-then xs ys = concat-append action_bytes xs ys

-- what a first event's eviction left is not due any more
none-due : (now : ℕ) (xs : List Expiry) → due now (filter (λ x. ltb now x.time) xs) ≡ []
unfolding due filter
none-due now [] = refl
none-due now (x ∷ xs) = cases (ltb now x.time) (λ p. rw p (rw (lt-leb x.time now (ltb-true now x.time p)) refl)) (λ p. rw p (none-due now xs))

none-gone : {A : Type 0} (now : ℕ) (c : Cache A) → expired_keys now (later_cache now c) ≡ []
unfolding expired_keys later_cache popped
none-gone {A} now c = ap (λ (xs : List Expiry). popped {A = A} xs (later_cache now c).entries) (none-due now c.expiry)

module _ (now : ℕ) (s : State) where
  abbrev pub scheduled : Action
  scheduled = Scheduled s.settings.cache_evict_interval EvictCache

  pub first-yes : s.init ≡ true → settled_actions now s ≡ []
  unfolding settled_actions
  first-yes e = rw e refl

  pub first-no : s.init ≡ false → settled_actions now s ≡ evict_actions now s
  unfolding settled_actions evict_actions
  first-no e = rw e refl

  pub evict-yes : s.init ≡ true → evict_actions now (settled now s) ≡ evict_actions now s
  unfolding settled
  evict-yes e = rw e refl

  pub evict-no : s.init ≡ false → evict_actions now (settled now s) ≡ scheduled ∷ []
  unfolding settled evict_actions forgotten_actions
  evict-no e = rw e (ap (λ (ids : List ℕ). map (λ id. Forgotten id) ids ++ (scheduled ∷ [])) (none-gone now s.cache))
