-- What an eviction tells, one identifier after the other.
-- Assumes nothing.
use Rattle.steps.proofs.Words.{◌≡◌, false, not, refl, ℕ, ◌+◌, ◌<◌, ◌≤◌, List, [], ◌∷◌, ◌++◌, map, length, get_or, drop, sym, ap, ◌∙◌, add-one, drop_all, is_empty, due, expired_keys, Forgotten, action_bytes, Intake, after, State, Head}
use Rattle.std.proofs.Math.Seq.{drop-cons}
use Rattle.storage.specs.Lists.Base.{concat_map}
use Rattle.time_cache.proofs.PassedLaws.{none-due}
use Rattle.wire.proofs.EncodeLaws.IntakeLaws.{after_append, after_nil}
use Rattle.block.specs.View.{state_of}
use Rattle.block.specs.Caches.CachedReads.{row_id}
use Rattle.decide.specs.Settled.{forgotten_actions}
use Rattle.decide.specs.ActionsAfter.{evict_actions}
use Rattle.steps.proofs.ActionLaws.{one-action, actions-then, scheduled}

-- whether a first event was
pub init-of : (h : Head) (block : List ℕ) → (state_of h block).init ≡ h.live.init
unfolding state_of
init-of h block = refl

-- where no row is due, nothing is told
pub told-none : (now : ℕ) (s : State) (x : Intake) → not (is_empty (due now s.cache.expiry)) ≡ false → x ≡ after (concat_map action_bytes (forgotten_actions now s)) x
unfolding forgotten_actions concat_map
told-none now s x h = sym (after_nil x) ∙ ap (λ (ids : List ℕ). after (concat_map action_bytes (map (λ id. Forgotten id) ids)) x) (sym (none-due now s.cache h))

module _ (h : Head) (block rows : List ℕ) where
  -- the actions of the rows from i on, as bytes
  abbrev pub told_from : ℕ → List ℕ
  told_from i = concat_map action_bytes (map (λ id. Forgotten id) (map (row_id h block) (drop i rows)))

  -- from the first on they are what an eviction tells
  pub told-all : (now : ℕ) → map (row_id h block) rows ≡ expired_keys now (state_of h block).cache → told_from 0 ≡ concat_map action_bytes (forgotten_actions now (state_of h block))
  unfolding forgotten_actions
  told-all now e = ap (λ (ids : List ℕ). concat_map action_bytes (map (λ id. Forgotten id) ids)) e

  module _ (i : ℕ) (q : i < length rows) (id : ℕ) (e : id ≡ row_id h block (get_or rows i 0)) where
    first : told_from i ≡ action_bytes (Forgotten id) ++ told_from (i + 1)
    unfolding concat_map
    first =
        ap (λ (l : List ℕ). concat_map action_bytes (map (λ k. Forgotten k) (map (row_id h block) l))) (drop-cons rows i 0 q ∙ ap (λ (n : ℕ). get_or rows i 0 ∷ drop n rows) (sym (add-one i)))
        ∙ ap (λ (k : ℕ). action_bytes (Forgotten k) ++ told_from (i + 1)) (sym e)

    pub row-same : (x y z : Intake) → after (told_from i) x ≡ z → y ≡ after (action_bytes (Forgotten id)) x → after (told_from (i + 1)) y ≡ z
    row-same x y z s f =
        ap (after (told_from (i + 1))) f
        ∙ after_append (action_bytes (Forgotten id)) (told_from (i + 1)) x
        ∙ ap (λ (l : List ℕ). after l x) (sym first)
        ∙ s

  -- all were told
  pub rows-done : (i : ℕ) → length rows ≤ i → (x z : Intake) → after (told_from i) x ≡ z → x ≡ z
  unfolding concat_map
  rows-done i q x z s = sym (ap (λ (l : List ℕ). after (concat_map action_bytes (map (λ id. Forgotten id) (map (row_id h block) l))) x) (drop_all i rows q) ∙ after_nil x) ∙ s

module _ (now : ℕ) (s : State) where
  abbrev told : List ℕ
  told = concat_map action_bytes (forgotten_actions now s)

  abbrev rest : List ℕ
  rest = action_bytes (scheduled now s)

  evict-bytes : concat_map action_bytes (evict_actions now s) ≡ told ++ rest
  unfolding evict_actions
  evict-bytes = actions-then (forgotten_actions now s) (scheduled now s ∷ []) ∙ ap (λ (l : List ℕ). told ++ l) (one-action (scheduled now s))

  -- what is told, and the schedule behind it
  pub told-then : (x y z : Intake) → y ≡ after told x → z ≡ after rest y → z ≡ after (concat_map action_bytes (evict_actions now s)) x
  told-then x y z f g = g ∙ ap (after rest) f ∙ after_append told rest x ∙ ap (λ (l : List ℕ). after l x) (sym evict-bytes)
