-- The notes of what a push got back, link by link, and the loop that adds them.
-- Assumes nothing.
use Rattle.payloads.proofs.Words.{◌≡◌, refl, sym, Bool, List, [], ◌∷◌, ℕ, is_empty, Ihave, State, Note, with_announce_scheduled, add_note}
use Rattle.protocol.specs.Consistent.{Flagged}
use Rattle.decide.specs.RecordGrowth.{add_notes, add_batches, batches_for}
use Rattle.decide.specs.StateAfter.{recorded_state}
use Rattle.decide.proofs.StateLaws.{flag-stands}

module _ (c : ℕ → Bool) where
  pub for-one : (h : Ihave) (p : ℕ) (ds : List Note) → add_batches c (batches_for h (p ∷ [])) ds ≡ add_note c p h ds
  unfolding add_batches batches_for add_notes
  for-one h p ds = refl

  pub for-none : (h : Ihave) (ds : List Note) → add_batches c (batches_for h []) ds ≡ ds
  unfolding add_batches batches_for
  for-none h ds = refl

pub recorded-same : (s : State) → Flagged s.dropped s.timers.announce → recorded_state s.dropped s ≡ s
unfolding recorded_state
recorded-same s f = λ z. with_announce_scheduled (sym (flag-stands (is_empty s.dropped) s.timers.announce f) z) s
