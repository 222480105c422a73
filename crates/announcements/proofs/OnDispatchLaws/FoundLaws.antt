-- What was found in the message cache, one identifier after the other.
-- Assumes nothing.
use Rattle.announcements.proofs.Words.{◌≡◌, ℕ, ◌+◌, ◌<◌, length, get_or, set, replicate, sym, ap, ◌∙◌, arith, true, List, subst, eqb, get_or-set_same, get_or-set_other, eqb-true, eqb-false, cases, State, note_at}
use Rattle.announcements.specs.QueuedRows.{held_then}
use Rattle.announcements.specs.Marks.{FoundCached}
use Rattle.announcements.proofs.AnnounceLaws.Turns.{zeros}

module _ (now : ℕ) (s : State) where
  pub found-none : (n : ℕ) → FoundCached now s (replicate {A = ℕ} n 0)
  found-none n = record { named = λ p r e. absurd (omega (arith, zeros n p, e)) }

  -- a row whose identifier is cached
  abbrev pub Cached : ℕ → Type 0
  Cached row = (row < length s.queue) × (held_then now s (note_at s.queue row).id ≡ true)

  pub found-next : (rows : List ℕ) → FoundCached now s rows → (place row : ℕ) → place < length rows → Cached row → FoundCached now s (set rows place (row + 1))
  found-next rows f place row q c = record {
    named = λ p r e.
        cases (eqb p place)
        (λ t. let w : row ≡ r = omega (arith, sym (ap (λ (n : ℕ). get_or (set rows place (row + 1)) n 0) (eqb-true p place t) ∙ get_or-set_same rows place (row + 1) 0 q) ∙ e) in subst Cached w c)
        (λ t. f.named p r (sym (get_or-set_other rows place p (row + 1) 0 (eqb-false p place t)) ∙ e));
  }
