-- By what the search found.
use Rattle.block.proofs.Words.{◌∙◌, subst, ℕ, Result, arith, Entry, keys, id_of, Here, Between, FoundIs, Timed, up_of, State, Grafts}
use lib.ListN.{length-map}
use Rattle.block.specs.Panels.{state}
use Rattle.block.proofs.PanelLaws.{same-state}
use Rattle.block.proofs.GraftsLaws.NoteLaws.{noted_here, noted-new, new-most}
use Rattle.block.proofs.panel.Panel.insert_grafted.Goals as goal
use Rattle.block.proofs.panel.Panel.insert_grafted.Goals.{After-find, In-Ok, In-Err}

-- the search, of the panel's state
found : (c : After-find) → FoundIs (keys (state c.args.self.now).grafted.entries) (id_of c.args.id) c.find.result
found c = subst (λ (s : State). FoundIs (keys s.grafted.entries) (id_of c.args.id) c.find.result) (same-state c.args.self.now c.view.result c.view.ensures.head c.view.ensures.block) c.find.ensures

here : (c : In-Ok) → Here (keys (state c.args.self.now).grafted.entries) (id_of c.args.id) c.in-Ok.i
here c = subst (λ (x : Result ℕ ℕ). FoundIs (keys (state c.args.self.now).grafted.entries) (id_of c.args.id) x) c.in-Ok.is (found (goal.at.In-Ok c).After-find)

between : (c : In-Err) → Between (keys (state c.args.self.now).grafted.entries) (id_of c.args.id) c.in-Err.field-0
between c = subst (λ (x : Result ℕ ℕ). FoundIs (keys (state c.args.self.now).grafted.entries) (id_of c.args.id) x) c.in-Err.is (found (goal.at.In-Err c).After-find)

pub graft_again-requires-clause-there : goal.graft_again-requires-clause-there
graft_again-requires-clause-there c =
    (omega (arith, (here (goal.at.graft_again-requires-clause-there c).In-Ok).within, length-map (state c.args.self.now).grafted.entries (λ (e : Entry (Timed Grafts)). e.key)), c.requires.link)

pub graft_new-requires-clause-room : goal.graft_new-requires-clause-room
graft_new-requires-clause-room c =
    let a = c.args in
    let s = state a.self.now in
    new-most s (id_of a.id) a.hop.link a.hop.round.0 a.expires.0 _ (between (goal.at.graft_new-requires-clause-room c).In-Err) s.limits.G (up_of (keys s.grafted.entries) c.requires.grafting.order.up) c.requires.room

pub returns-in-Ok : goal.returns-in-Ok
returns-in-Ok c =
    let a = c.args in
    let s = state a.self.now in
    let g = c.graft_again.ensures in
    record { state = g.state ∙ noted_here s (id_of a.id) a.hop.link a.hop.round.0 a.expires.0 c.in-Ok.i (up_of (keys s.grafted.entries) c.requires.grafting.order.up) (here (goal.at.returns-in-Ok c).In-Ok); loan = g.loan }

pub returns-in-Err : goal.returns-in-Err
returns-in-Err c =
    let a = c.args in
    let g = c.graft_new.ensures in
    record { state = g.state ∙ noted-new (state a.self.now) (id_of a.id) a.hop.link a.hop.round.0 a.expires.0 _ (between (goal.at.returns-in-Err c).In-Err); loan = g.loan }
