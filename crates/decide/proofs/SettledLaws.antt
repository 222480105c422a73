-- What a first event leaves, and its sizes and tests read from the state before.
use Rattle.std.proofs.Common.{ℕ, ◌≡◌, refl, sym, ap, ◌∙◌, Bool, true, List, [], ◌∷◌, ◌++◌, append-nil, append_assoc, arith, ltb, length, if◌then◌else◌, Option, Some, None, is_some}
use Rattle.storage.specs.Lists.Base.{filter, count, sum, ascending}
use Rattle.storage.specs.Lists.Map.{keys, lookup}
use Rattle.time_cache.specs.TimeCache.{Timed, Cache, value_of, get, holds, expire_until, later_cache, Timely}
use Rattle.postcard.specs.Message.{EvictCache, Action, Scheduled}
use Rattle.protocol.specs.State.{State, Cached}
use Rattle.protocol.specs.Run.{Run, act}
use Rattle.protocol.specs.Ticks.{evict, on_evict_cache_timer}
use Rattle.protocol.specs.Handle.{first_event}
use Rattle.protocol.specs.Whole.{content_held}
use Rattle.protocol.specs.Consistent.{CoreOf}
use Rattle.decide.specs.Sizes.{sizes_of}
use Rattle.decide.specs.Settled.{alive_at, alive_value, settled, forgotten_actions, settled_actions}
use Rattle.decide.proofs.SizesAfter.{evict_sizes, settled_sizes}
use Rattle.storage.proofs.ListsLaws.MapLaws.{cases}
use Rattle.storage.proofs.ListsLaws.ListLaws.{length-filter}
use Rattle.time_cache.proofs.Timely.{expire-is-filter}
use Rattle.storage.proofs.ListsLaws.Branches.{if-on, if-both, if-same}
use Rattle.storage.proofs.ListsLaws.KeyLaws.{passes, lookup-filter}

module _ {A : Type 0} where
  -- `holds` after eviction, of the cache before
  pub holds_later : (now id : ℕ) (c : Cache A) → Timely c → holds id (later_cache now c) ≡ alive_at now (lookup id c.entries)
  unfolding later_cache alive_at
  holds_later now id c t = ap is_some (lookup-filter (λ e. ltb now e.value.expires) id c.entries t.up) ∙ by (lookup id c.entries)
    where
      by : (o : Option (Timed A)) → is_some (passes (λ e. ltb now e.value.expires) id o) ≡ alive_at now o
      by None = unfold passes in refl
      by (Some x) = unfold passes in (cases (ltb now x.expires) (λ p. rw p refl) (λ p. rw p refl))

  -- `get` after eviction, of the cache before
  pub get-later : (now id : ℕ) (c : Cache A) → ascending (keys c.entries) ≡ true → get id (later_cache now c) ≡ alive_value now (lookup id c.entries)
  unfolding later_cache alive_value get
  get-later now id c up = ap value_of (lookup-filter (λ e. ltb now e.value.expires) id c.entries up) ∙ by (lookup id c.entries)
    where
      by : (o : Option (Timed A)) → value_of (passes (λ e. ltb now e.value.expires) id o) ≡ alive_value now o
      by None = unfold passes in (unfold value_of in refl)
      by (Some x) = unfold passes in (unfold value_of in (cases (ltb now x.expires) (λ p. rw p refl) (λ p. rw p refl)))

  pub length-later : (now : ℕ) (c : Cache A) → length (later_cache now c).entries ≡ count (λ e. ltb now e.value.expires) c.entries
  unfolding later_cache
  length-later now c = length-filter (λ e. ltb now e.value.expires) c.entries

  pub expiry-later : (now : ℕ) (c : Cache A) → length (later_cache now c).expiry ≡ count (λ x. ltb now x.time) c.expiry
  unfolding later_cache
  expiry-later now c = length-filter (λ x. ltb now x.time) c.expiry

  sum-filter : (g : A → ℕ) (f : A → Bool) (xs : List A) → sum g (filter f xs) ≡ sum (λ x. if f x then g x else 0) xs
  unfolding sum filter
  sum-filter g f [] = refl
  sum-filter g f (x ∷ xs) = cases (f x) (λ p. rw p (omega (arith, sum-filter g f xs))) (λ p. rw p (omega (arith, sum-filter g f xs)))

pub content-later : (now : ℕ) (c : Cache Cached) →
    sum (λ e. length e.value.value.content) (later_cache now c).entries ≡ sum (λ e. if ltb now e.value.expires then length e.value.value.content else 0) c.entries
unfolding later_cache
content-later now c = sum-filter (λ e. length e.value.value.content) (λ e. ltb now e.value.expires) c.entries

-- the caches after eviction
pub record Evicted (now : ℕ) (s : State) : Type 0 where
  pub received : expire_until now s.received ≡ later_cache now s.received
  pub grafted : expire_until now s.grafted ≡ later_cache now s.grafted
  pub cache : expire_until now s.cache ≡ later_cache now s.cache

pub evicted : (now : ℕ) (s : State) → CoreOf s → Evicted now s
evicted now s c = record { received = expire-is-filter now s.received c.received_on; grafted = expire-is-filter now s.grafted c.grafted_on; cache = expire-is-filter now s.cache c.cache_on }

-- a first event: the state, and the action
pub first-state : (now : ℕ) (r : Run) → CoreOf r.state → (first_event now r).state ≡ settled now r.state
unfolding first_event settled on_evict_cache_timer evict act
first-state now r c =
    let e = evicted now r.state c in
    if-on (λ (x : Run). x.state) r.state.init _ _ ∙ if-both r.state.init refl (rw (e.received, e.grafted, e.cache) refl)

pub first-actions : (now : ℕ) (r : Run) → (first_event now r).actions ≡ r.actions ++ settled_actions now r.state
unfolding first_event settled_actions forgotten_actions on_evict_cache_timer act
first-actions now r =
    if-on (λ (x : Run). x.actions) r.state.init _ _ ∙ if-both r.state.init (sym (append-nil r.actions)) (append_assoc r.actions (forgotten_actions now r.state) (Scheduled r.state.settings.cache_evict_interval EvictCache ∷ []))
    ∙ sym (if-on (λ (xs : List Action). r.actions ++ xs) r.state.init [] (forgotten_actions now r.state ++ (Scheduled r.state.settings.cache_evict_interval EvictCache ∷ [])))

pub first-rooms : (now : ℕ) (r : Run) → (first_event now r).rooms ≡ r.rooms
unfolding first_event on_evict_cache_timer act
first-rooms now r = if-on (λ (x : Run). x.rooms) r.state.init _ _ ∙ if-same r.state.init refl refl

-- the settled state has the same links
pub settled-links : (now : ℕ) (s : State) → (settled now s).links ≡ s.links
unfolding settled
settled-links now s = if-on (λ (x : State). x.links) s.init _ _ ∙ if-same s.init refl refl

-- the sizes of the settled state, of the state before
pub settled-sizes : (now : ℕ) (s : State) → sizes_of (settled now s) ≡ settled_sizes now s
unfolding settled settled_sizes evict_sizes sizes_of content_held
settled-sizes now s =
    if-on sizes_of s.init _ _
    ∙ if-both s.init refl
    (rw (length-later now s.received, expiry-later now s.received, length-later now s.cache, expiry-later now s.cache, content-later now s.cache, length-later now s.grafted, expiry-later now s.grafted) refl)

-- the question on the settled state, of the state before: `received`
pub settled-received : (now id : ℕ) (s : State) → CoreOf s → holds id (settled now s).received ≡ (if s.init then holds id s.received else alive_at now (lookup id s.received.entries))
unfolding settled
settled-received now id s c = if-on (λ (x : State). holds id x.received) s.init _ _ ∙ if-both s.init refl (holds_later now id s.received c.received_on)
