-- The two tables are left to `expire_until`, and the contents that are left move to the front.
use Rattle.block.proofs.Words.{refl, sym, ap, ◌∙◌, subst, State}
use Rattle.block.specs.View.{state_of}
use Rattle.block.specs.Layouts.{LaysOut}
use Rattle.block.specs.declared.head.Head.{Head}
use Rattle.block.proofs.ContentsLaws.Closing.{ExpiredAhead, expired-ahead}
use Rattle.block.proofs.panel.Panel.expire_cached.Goals as goal
use Rattle.block.proofs.panel.Panel.expire_cached.Goals.{After-expire}

-- what the two tables leave
expired : (c : After-expire) → let p = c.args.self.now in ExpiredAhead p.head p.block.now c.args.instant.0 c.expire.new.head c.expire.new.block
expired c =
    let p = c.args.self.now in
    let r = c.expire in
    subst (λ (h : Head). ExpiredAhead p.head p.block.now c.args.instant.0 h r.new.block) (sym r.ensures.counts)
    (expired-ahead p.head p.block.now r.new.block c.args.instant.0 r.result p.sound c.requires r.auto.block r.ensures.expires)

pub close_contents-requires-clause-ahead : goal.close_contents-requires-clause-ahead
close_contents-requires-clause-ahead c = (expired (goal.at.close_contents-requires-clause-ahead c).After-expire).ahead

pub invariant_of-self-clause-sound : goal.invariant_of-self-clause-sound
invariant_of-self-clause-sound c = c.close_contents.ensures.sound

pub invariant_of-self-clause-laid_out : goal.invariant_of-self-clause-laid_out
unfolding state_of
invariant_of-self-clause-laid_out c =
    let p = c.args.self.now in
    subst (LaysOut p.layout.now) (sym (ap (λ (s : State). s.limits) (c.close_contents.ensures.state ∙ (expired (goal.at.invariant_of-self-clause-laid_out c).After-expire).state))) p.laid_out

pub returns : goal.returns
returns c = record { state = c.close_contents.ensures.state ∙ (expired (goal.at.returns c).After-expire).state; loan = refl }
