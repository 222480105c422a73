-- A first event's work and a copy of a message received before emit nothing; a new message is emitted.
use Rattle.std.proofs.Common.{ℕ, ◌≡◌, refl, ◌∙◌, Bool, true, false, List, [], ◌∷◌, ◌++◌, map, if◌then◌else◌}
use Rattle.std.proofs.Math.Bool.{or-false}
use Rattle.storage.specs.Lists.Base.{any}
use Rattle.postcard.specs.Message.{Delivery, Action, Emitted, Forgotten}
use Rattle.time_cache.specs.TimeCache.{expired_keys}
use Rattle.protocol.specs.State.{with_init}
use Rattle.protocol.specs.Run.{Run, with_state, act, send}
use Rattle.protocol.specs.Gossips.{update_links, prune_back, Late, duplicate, repeated, faster, set_kept, on_duplicate}
use Rattle.protocol.specs.Ticks.{on_evict_cache_timer}
use Rattle.protocol.specs.Handle.{first_event}
use Rattle.protocol.specs.NoNeighbourPassedOver.{is_emit}
use Rattle.storage.proofs.ListsLaws.Lists.{any_append, any-right, any-one}

pub any-skip : {A : Type 0} (f : A → Bool) (xs : List A) (x : A) → f x ≡ false → any f (xs ++ (x ∷ [])) ≡ any f xs
any-skip f xs x h = any_append f xs (x ∷ []) ∙ rw (any-one f x, h) (or-false (any f xs))

-- what is told as forgotten passes no test that an action 4 does not pass
pub any-told : (f : Action → Bool) → ((id : ℕ) → f (Forgotten id) ≡ false) → (ids : List ℕ) (xs : List Action) → any f (xs ++ map (λ id. Forgotten id) ids) ≡ any f xs
unfolding any
any-told f h ids xs = any_append f xs (map (λ id. Forgotten id) ids) ∙ rw (untold ids) (or-false (any f xs))
  where
    untold : (ids : List ℕ) → any f (map (λ id. Forgotten id) ids) ≡ false
    untold [] = refl
    untold (i ∷ is) = rw (h i) (untold is)

-- no emit more
abbrev pub Quiet : Run → Run → Type 0
Quiet r r' = any is_emit r'.actions ≡ any is_emit r.actions

quiet_if : (r x y : Run) (b : Bool) → Quiet r x → Quiet r y → Quiet r (if b then x else y)
quiet_if r x y true p q = p
quiet_if r x y false p q = q

pub quiet-first : (now : ℕ) (r : Run) → Quiet r (first_event now r)
unfolding first_event on_evict_cache_timer act is_emit
quiet-first now r = quiet_if r r (on_evict_cache_timer now (with_state (with_init true r.state) r)) r.state.init refl
    (any-skip is_emit (r.actions ++ map (λ id. Forgotten id) (expired_keys now r.state.cache)) _ refl ∙ any-told is_emit (λ id. refl) (expired_keys now r.state.cache) r.actions)

quiet-prune_back : (p : ℕ) (r : Run) → Quiet r (prune_back p r)
unfolding prune_back update_links send is_emit
quiet-prune_back p r = any-skip is_emit r.actions _ refl

pub quiet-duplicate : (p id : ℕ) (l : Late) (r : Run) → Quiet r (on_duplicate p id l r)
unfolding on_duplicate set_kept
quiet-duplicate p id duplicate r = quiet-prune_back p r
quiet-duplicate p id repeated r = refl
quiet-duplicate p id (faster first) r = quiet-prune_back first (set_kept id p r)

pub emits : (p : ℕ) (content : List ℕ) (d : Delivery) (r : Run) → any is_emit (act (Emitted p content d) r).actions ≡ true
unfolding act is_emit
emits p content d r = any-right is_emit r.actions _ (any-one is_emit (Emitted p content d))
