-- Found it is taken out, and else it is not there.
use Rattle.block.proofs.Words.{sym, ap, ◌∙◌, subst, refl, ℕ, List, arith, id_of, Here, Between, Map, keys, State, Hop, with_missing}
use lib.ListN.{length-map}
use Rattle.block.specs.Panels.{state}
use Rattle.block.specs.MissingSteps.{miss_out}
use Rattle.block.proofs.KeyPlaces.{remove-between}
use Rattle.block.proofs.AnnounceLaws.{key_here}
use Rattle.block.proofs.PanelLaws.{same-state}
use Rattle.block.proofs.panel.Panel.forget_missing.Goals as goal
use Rattle.block.proofs.panel.Panel.forget_missing.Goals.{In-Ok}

-- where the search found the identifier
here : (c : In-Ok) → Here (keys (state c.args.self.now).missing) (id_of c.args.id) c.in-Ok.found
here c =
    subst (λ (s : State). Here (keys s.missing) (id_of c.args.id) c.in-Ok.found) (same-state c.args.self.now c.view.result c.view.ensures.head c.view.ensures.block) (c.in-Ok.ensures)

pub remove_missing-requires : goal.remove_missing-requires
remove_missing-requires c =
    (c.requires, omega (arith, (here (goal.at.remove_missing-requires c).In-Ok).within, length-map (state c.args.self.now).missing (λ e. e.key)))

pub returns-in-Ok : goal.returns-in-Ok
returns-in-Ok c =
    let s = state c.args.self.now in
    let g = c.remove_missing.ensures in
    record { state = g.state ∙ ap (λ (k : ℕ). miss_out k s) (key_here s (id_of c.args.id) c.in-Ok.found (here (goal.at.returns-in-Ok c).In-Ok)); loan = g.loan }

pub returns-in_default : goal.returns-in_default
returns-in_default c =
    let s = state c.args.self.now in
    let b = subst (λ (z : State). Between (keys z.missing) (id_of c.args.id) c.in_default.field-0) (same-state c.args.self.now c.view.result c.view.ensures.head c.view.ensures.block) (c.in_default.ensures) in
    record { state = ap (λ (m : Map (List Hop)). with_missing m s) (sym (remove-between (id_of c.args.id) _ s.missing b)); loan = refl }
