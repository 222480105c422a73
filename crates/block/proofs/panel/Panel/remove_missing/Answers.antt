-- The row less is a missing message less.
use Rattle.std.proofs.Common.{rules, arith, ◌-◌, refl}
use Rattle.block.specs.Becomes.{Becomes}
use Rattle.block.specs.Heads.{with_missing_count}
use Rattle.block.specs.MissingSteps.{miss_out_at}
use Rattle.block.proofs.Lent.{given_back}
use Rattle.block.proofs.MissingLaws.{count-missing, missing-below, missing-out}
use Rattle.block.proofs.panel.Panel.remove_missing.Goals as goal
use Rattle.block.proofs.panel.Panel.remove_missing.Goals.{After-remove}

pub remove-requires : goal.remove-requires
remove-requires c = let p = c.args.self.now in (omega (arith, c.requires.1, count-missing p.head p.block.now), search rules)

pub overflow_sub-self : goal.overflow_sub-self
overflow_sub-self c = let p = c.args.self.now in omega (arith, c.requires.1, count-missing p.head p.block.now)

goes : (c : After-remove) → let p = c.args.self.now in
    Becomes (miss_out_at c.args.missing) p.head p.block.now (with_missing_count (p.head.live.missing - 1) p.head) (given_back c.span.result p.block.now c.remove.new.bytes)
goes c =
    let p = c.args.self.now in
    missing-out p.head p.block.now c.span.result (c.span.ensures _ p.laid_out) c.args.missing c.remove.new.bytes p.sound c.requires.0 (missing-below p.head p.block.now c.args.missing c.requires.1) c.remove.auto.bytes c.remove.ensures

pub invariant_of-self-clause-sound : goal.invariant_of-self-clause-sound
invariant_of-self-clause-sound c = (goes (goal.at.invariant_of-self-clause-sound c).After-remove).sound

pub returns : goal.returns
returns c = record { state = (goes (goal.at.returns c).After-remove).state; loan = refl }
