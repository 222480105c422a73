-- The lowered numbers and the row less are a link less.
use Rattle.block.proofs.Words.{◌≡◌, refl, sym, ap, subst, ◌-◌, ◌<◌, arith, lit<, State, forget_peer}
use Rattle.block.specs.Layout.{span}
use Rattle.block.specs.View.{limits_of, state_of}
use Rattle.block.specs.Layouts.{LaysOut}
use Rattle.block.specs.Becomes.{Becomes}
use Rattle.block.specs.Heads.{with_link_count}
use Rattle.block.specs.Panels.{state}
use Rattle.block.specs.LinkSteps.{peer_at}
use Rattle.block.proofs.Lent.{given_back, lent-room}
use Rattle.block.proofs.LinkLaws.{count-links}
use Rattle.block.proofs.NeighboursLaws.LinkOut.{link-out}
use Rattle.block.proofs.panel.Panel.remove_link.Goals as goal
use Rattle.block.proofs.panel.Panel.remove_link.Goals.{Start, After-span, After-remove}

below : (s : Start) → s.args.link < s.args.self.now.head.live.links
below s = omega (arith, s.requires.1, count-links s.args.self.now.head s.args.self.now.block.now)

-- the limits stay, and so does where the links stand
laid : (c : After-span) → LaysOut c.args.self.now.layout.now (limits_of c.lower_links.new.head.limits)
unfolding state_of
laid c = let p = c.args.self.now in subst (LaysOut p.layout.now) (sym (ap (λ (s : State). s.limits) c.lower_links.ensures.same)) p.laid_out

at : (c : After-span) → c.span.result ≡ span (limits_of c.lower_links.new.head.limits) 1
at c = c.span.ensures _ (laid c)

pub lower_links-requires : goal.lower_links-requires
lower_links-requires c =
    let p = c.args.self.now in
    record { sound = (p.sound, c.requires.0); layout = p.laid_out; there = below (goal.at.lower_links-requires c).Start }

pub remove-requires : goal.remove-requires
remove-requires c =
    let low = c.lower_links in
    let long = lent-room (limits_of low.new.head.limits) 1 c.span.result low.new.block (lit< tt) (at (goal.at.remove-requires c).After-span) low.ensures.fit.long in
    (omega (arith, below (goal.at.remove-requires c).Start, low.ensures.links), omega (arith, low.ensures.fit.within, long))

pub overflow_sub-self : goal.overflow_sub-self
overflow_sub-self c = omega (arith, below (goal.at.overflow_sub-self c).Start, c.lower_links.ensures.links)

goes : (c : After-remove) → let p = c.args.self.now in
    let low = c.lower_links.new in
    Becomes (forget_peer (peer_at (state p) c.args.link)) p.head p.block.now (with_link_count (low.head.live.links - 1) low.head) (given_back c.span.result low.block c.remove.new.bytes)
goes c =
    let p = c.args.self.now in
    let low = c.lower_links in
    link-out p.head p.block.now c.requires.0 c.args.link (below (goal.at.After-remove c).Start) low.new.head low.new.block low.ensures c.span.result (at (goal.at.After-remove c).After-span) c.remove.new.bytes c.remove.auto.bytes c.remove.ensures

pub invariant_of-self-clause-sound : goal.invariant_of-self-clause-sound
invariant_of-self-clause-sound c = (goes (goal.at.invariant_of-self-clause-sound c).After-remove).sound

pub invariant_of-self-clause-laid_out : goal.invariant_of-self-clause-laid_out
invariant_of-self-clause-laid_out c = laid (goal.at.invariant_of-self-clause-laid_out c).After-span

pub returns : goal.returns
returns c = record { state = (goes (goal.at.returns c).After-remove).state; loan = refl }
