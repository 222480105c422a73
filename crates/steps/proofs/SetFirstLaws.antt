-- `first` of a grafted message, where a first event's work is done.
-- Assumes nothing.
use Rattle.steps.proofs.Words.{Option, Some, None, ◌≡◌, ℕ, sym, ap, ◌∙◌, true, get, replace, State, Grafts, with_grafted, settled}
use Rattle.protocol.specs.Gossips.{with_first}
use Rattle.decide.specs.StateAfter.{first_set_state}
use Rattle.block.specs.Caches.GraftSteps.{grafts_at, first_at}
use Rattle.steps.specs.Settled.Then.{no_grafted}
use Rattle.steps.specs.Shared.{HeldAt}
use Rattle.steps.proofs.SettledLaws.ThenLaws.{settled-still}

module _ (now sender id round : ℕ) (s : State) (init : s.init ≡ true) where
  pub first-some : (i : ℕ) → HeldAt no_grafted s.grafted.entries id (get id (settled now s).grafted) i → first_at i sender round s ≡ first_set_state id sender round s
  unfolding first_set_state with_first
  first-some i held =
      let v : get id s.grafted ≡ Some (grafts_at s i) = ap (λ (t : State). get id t.grafted) (sym (settled-still now s init)) ∙ held.value in
      ap (λ (n : ℕ). with_grafted (replace n (record { first = Some (record { peer = sender; round = round }); kept = (grafts_at s i).kept; peers = (grafts_at s i).peers }) s.grafted) s) held.key
      ∙ ap (λ (o : Option Grafts). with_first id (record { peer = sender; round = round }) o s) (sym v)

  pub first-none : get id (settled now s).grafted ≡ None → s ≡ first_set_state id sender round s
  unfolding first_set_state with_first
  first-none e = ap (λ (o : Option Grafts). with_first id (record { peer = sender; round = round }) o s) (sym (ap (λ (t : State). get id t.grafted) (sym (settled-still now s init)) ∙ e))
