-- A neighbour is marked, a stranger is not.
use Rattle.block.proofs.Words.{◌≡◌, ℕ, refl, ap, ◌∙◌, subst, arith, keys, Here, Between, lazy, State}
use lib.ListN.{length-map}
use Rattle.protocol.specs.Links.{add_lazy}
use Rattle.block.specs.Panels.{state}
use Rattle.block.specs.Views.{shown}
use Rattle.block.specs.LinkSteps.{linked}
use Rattle.block.proofs.LinkLaws.{mark-stranger}
use Rattle.block.proofs.PanelLaws.{same-state}
use Rattle.block.proofs.panel.Panel.add_lazy_peer.Goals as goal
use Rattle.block.proofs.panel.Panel.add_lazy_peer.Goals.{After-view, In-Ok}

same : (c : After-view) → shown c.view.result ≡ state c.args.self.now
same c = same-state c.args.self.now c.view.result c.view.ensures.head c.view.ensures.block

-- where the link stands
there : (c : In-Ok) → Here (keys (state c.args.self.now).links) c.args.peer c.in-Ok.link
there c = subst (λ (s : State). Here (keys s.links) c.args.peer c.in-Ok.link) (same (goal.at.In-Ok c).After-view) c.in-Ok.ensures

pub add_lazy-requires : goal.add_lazy-requires
add_lazy-requires c = (c.requires, omega (arith, (there (goal.at.add_lazy-requires c).In-Ok).within, length-map (state c.args.self.now).links (λ e. e.key)))

pub returns-in-Ok : goal.returns-in-Ok
returns-in-Ok c = record {
  state = c.add_lazy.ensures.state ∙ ap (λ (k : ℕ). linked (add_lazy k) (state c.args.self.now)) (there (goal.at.returns-in-Ok c).In-Ok).same;
  loan = c.add_lazy.ensures.loan;
}

pub returns-in_default : goal.returns-in_default
unfolding add_lazy
returns-in_default c = record {
  state = mark-stranger (state c.args.self.now) c.args.peer c.in_default.field-0 lazy
      (subst (λ (s : State). Between (keys s.links) c.args.peer c.in_default.field-0) (same (goal.at.returns-in_default c).After-view) c.in_default.ensures);
  loan = refl;
}
