-- The entry that is found, if there is one.
use Rattle.steps.proofs.Words.{None, ◌≡◌, ◌∙◌, refl, id_of, get, State, settled, state, same-state}
use Rattle.std.proofs.Math.Path.{subst}
use Rattle.steps.specs.Settled.Then.{no_grafted}
use Rattle.steps.specs.Shared.{HeldAt}
use Rattle.steps.proofs.AtRestLaws.{grafted-order}
use Rattle.steps.proofs.SetFirstLaws.{first-some, first-none}
use Rattle.steps.proofs.set_first.set_first.Goals as goal
use Rattle.steps.proofs.set_first.set_first.Goals.{In-Some}

-- the entry, of the panel
found : (c : In-Some) → HeldAt no_grafted (state c.args.panel.now).grafted.entries (id_of c.args.id) (get (id_of c.args.id) (settled c.args.call.now.instant.0 (state c.args.panel.now)).grafted) c.in-Some.entry
found c =
    subst (λ (s : State). HeldAt no_grafted s.grafted.entries (id_of c.args.id) (get (id_of c.args.id) (settled c.args.call.now.instant.0 s).grafted) c.in-Some.entry)
    (same-state c.args.panel.now c.view.result c.view.ensures.head c.view.ensures.block) c.in-Some.ensures

pub set_first-requires : goal.set_first-requires
set_first-requires c =
    (grafted-order (state c.args.panel.now) c.requires.0, (found (goal.at.set_first-requires c).In-Some).below)

pub returns-in-Some : goal.returns-in-Some
returns-in-Some c =
    let a = c.args in
    record {
      state = c.set_first.ensures.state ∙ first-some a.call.now.instant.0 a.sender (id_of a.id) a.round.0 (state a.panel.now) c.requires.1 c.in-Some.entry (found (goal.at.returns-in-Some c).In-Some);
      loan = c.set_first.ensures.loan;
    }

pub returns-in_default : goal.returns-in_default
returns-in_default c =
    let a = c.args in
    let none-there = subst (λ (s : State). get (id_of a.id) (settled a.call.now.instant.0 s).grafted ≡ None) (same-state a.panel.now c.view.result c.view.ensures.head c.view.ensures.block) c.in_default.ensures in
    record { state = first-none a.call.now.instant.0 a.sender (id_of a.id) a.round.0 (state a.panel.now) c.requires.1 none-there; loan = refl }
