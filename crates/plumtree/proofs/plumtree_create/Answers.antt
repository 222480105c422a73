-- `plumtree_create`: an accepted creation leaves the counts zero, a refused one leaves them.
use Rattle.plumtree.proofs.Words.{refl, sym, counts_of}
use Rattle.refusal.specs.Numbers.{number_of}
use Rattle.refusal.proofs.NumberLaws.{not_0}
use Rattle.protocol.specs.State.{zero_counts}
use Rattle.plumtree.specs.Calls.{Made}
use Rattle.plumtree.proofs.ListLaws.{fresh_list-leads}
use Rattle.plumtree.proofs.CreationLaws.{made-zero, made-left}
use Rattle.plumtree.proofs.plumtree_create.Goals as goal
use Rattle.plumtree.proofs.plumtree_create.Goals.{In-Ok}

made : (c : In-Ok) → Made c.args.settings c.args.limits c.args.block.now (counts_of c.args.counts.now) c.create.new.block zero_counts 0 0
unfolding zero_counts
made c =
    let a = c.args in
    record {
      creation = c.in-Ok.ensures;
      left = sym (made-zero a.settings a.limits a.block.now c.create.new.block (counts_of a.counts.now) c.in-Ok.ensures);
      long = refl;
    }

pub returns-in-Ok-clause-made : goal.returns-in-Ok-clause-made
unfolding zero_counts
returns-in-Ok-clause-made c = rw c.accepted.ensures (made (goal.at.returns-in-Ok-clause-made c).In-Ok)

pub returns-in-Ok-clause-begins : goal.returns-in-Ok-clause-begins
unfolding zero_counts
returns-in-Ok-clause-begins c =
    λ e. fresh_list-leads c.args.settings c.args.limits c.args.block.now (counts_of c.args.counts.now) c.create.new.block zero_counts 0 (made (goal.at.returns-in-Ok-clause-begins c).In-Ok)

pub returns-in-Err-clause-made : goal.returns-in-Err-clause-made
returns-in-Err-clause-made c =
    let a = c.args in
    rw c.refused.ensures (record {
      creation = c.in-Err.ensures;
      left = made-left a.settings a.limits a.block.now c.create.new.block (number_of c.in-Err.refusal) (counts_of a.counts.now) (not_0 c.in-Err.refusal) c.in-Err.ensures;
      long = refl;
    })
