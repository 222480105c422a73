-- The two tables are left to `expire_until`.
use Rattle.block.proofs.Words.{refl, sym, subst}
use Rattle.block.specs.Becomes.{Becomes}
use Rattle.block.specs.Caches.InBlock.{grafted_left}
use Rattle.block.specs.declared.head.Head.{Head}
use Rattle.block.proofs.CachesLaws.GraftedLaws.{grafted-expired}
use Rattle.block.proofs.panel.Panel.expire_grafted.Goals as goal
use Rattle.block.proofs.panel.Panel.expire_grafted.Goals.{After-expire}

goes : (c : After-expire) → let p = c.args.self.now in Becomes (grafted_left c.args.instant.0) p.head p.block.now c.expire.new.head c.expire.new.block
goes c =
    let p = c.args.self.now in
    let r = c.expire in
    subst (λ (h : Head). Becomes (grafted_left c.args.instant.0) p.head p.block.now h r.new.block) (sym r.ensures.counts)
    (grafted-expired p.head p.block.now r.new.block c.args.instant.0 r.result p.sound r.auto.block r.ensures.expires)

pub invariant_of-self-clause-sound : goal.invariant_of-self-clause-sound
invariant_of-self-clause-sound c = (goes (goal.at.invariant_of-self-clause-sound c).After-expire).sound

pub returns : goal.returns
returns c = record { state = (goes (goal.at.returns c).After-expire).state; loan = refl }
