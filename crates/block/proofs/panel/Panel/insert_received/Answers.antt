-- The two tables are left to `insert`.
use Rattle.block.proofs.Words.{refl, sym, subst, id_of}
use Rattle.block.specs.Becomes.{Becomes}
use Rattle.block.specs.Caches.InBlock.{received_also}
use Rattle.block.specs.declared.head.Head.{Head}
use Rattle.block.proofs.CachesLaws.ReceivedLaws.{received-inserted}
use Rattle.block.proofs.panel.Panel.insert_received.Goals as goal
use Rattle.block.proofs.panel.Panel.insert_received.Goals.{After-insert}

goes : (c : After-insert) → let p = c.args.self.now in Becomes (received_also (id_of c.args.id) c.args.expires.0) p.head p.block.now c.insert.new.head c.insert.new.block
goes c =
    let p = c.args.self.now in
    let r = c.insert in
    subst (λ (h : Head). Becomes (received_also (id_of c.args.id) c.args.expires.0) p.head p.block.now h r.new.block) (sym r.ensures.counts)
    (received-inserted p.head p.block.now r.new.block (id_of c.args.id) c.args.expires.0 r.result p.sound r.auto.block c.requires.room r.ensures.inserts)

pub invariant_of-self-clause-sound : goal.invariant_of-self-clause-sound
invariant_of-self-clause-sound c = (goes (goal.at.invariant_of-self-clause-sound c).After-insert).sound

pub returns : goal.returns
returns c = record { state = (goes (goal.at.returns c).After-insert).state; loan = refl }
