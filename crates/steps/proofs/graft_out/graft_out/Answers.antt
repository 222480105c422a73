use Rattle.steps.proofs.Words.{◌≡◌, ◌<◌, ◌∙◌, ap, sym, ℕ, length, Option, peer_at, shown}
use Rattle.std.proofs.Common.{subst}
use Rattle.protocol.specs.Gossips.{graft_out}
use Rattle.block.proofs.GraftsLaws.PeerLaws.{out-away, out_none, out-empty}
use Rattle.steps.proofs.AtRestLaws.{grafted-order}
use Rattle.steps.specs.Grafted.{EntryThere, peers_at}
use Rattle.steps.proofs.graft_out.graft_out.Goals as goal
use Rattle.steps.proofs.graft_out.graft_out.Goals.{Start, In-Some}

-- of the peers of what the match tells
as_found : (c : Start) {o : Option ℕ} → c.args.grafted ≡ o
    → graft_out (peer_at (shown c.args.view.now) c.args.sender) c.args.round.0 (peers_at o (shown c.args.view.now)) ≡ graft_out (peer_at (shown c.args.view.now) c.args.sender) c.args.round.0 (peers_at c.args.grafted (shown c.args.view.now))
as_found c e = ap (λ (o : Option ℕ). graft_out (peer_at (shown c.args.view.now) c.args.sender) c.args.round.0 (peers_at o (shown c.args.view.now))) (sym e)

there : (c : In-Some) → c.in-Some.entry < length (shown c.args.view.now).grafted.entries
there c = subst (λ (o : Option ℕ). EntryThere o (shown c.args.view.now)) c.in-Some.is c.requires.2

pub is_grafted_within-requires : goal.is_grafted_within-requires
is_grafted_within-requires c = there (goal.at.is_grafted_within-requires c).In-Some

pub is_grafted-requires : goal.is_grafted-requires
is_grafted-requires c =
    let s = shown c.args.view.now in
    (record { links_up = c.requires.0.consistent.core.links_up; order = grafted-order s c.requires.0; whole = c.requires.0.consistent.core.grafting }, there (goal.at.is_grafted-requires c).In-Some, c.requires.1)

pub returns-in_default : goal.returns-in_default
unfolding peers_at
returns-in_default c = out-empty (peer_at (shown c.args.view.now) c.args.sender) c.args.round.0 ∙ as_found (goal.at.returns-in_default c).Start c.in_default.is

pub returns-then-is_grafted_within : goal.returns-then-is_grafted_within
unfolding peers_at
returns-then-is_grafted_within c =
    let p = peer_at (shown c.args.view.now) c.args.sender in
    out-away p c.args.round.0 _ c.is_grafted.result (sym c.is_grafted_within.ensures ∙ c.if-is_grafted_within.true) c.is_grafted.ensures
    ∙ as_found (goal.at.returns-then-is_grafted_within c).Start c.in-Some.is

pub returns-else-is_grafted_within : goal.returns-else-is_grafted_within
unfolding peers_at
returns-else-is_grafted_within c =
    let p = peer_at (shown c.args.view.now) c.args.sender in
    c.if-is_grafted_within.false ∙ out_none p c.args.round.0 _ (sym c.is_grafted_within.ensures ∙ c.if-is_grafted_within.false)
    ∙ as_found (goal.at.returns-else-is_grafted_within c).Start c.in-Some.is
