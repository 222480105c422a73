-- `plumtree_return`: the counts that a return brought back are stored; a refused one has left them.
use Rattle.plumtree.proofs.Words.{refl, counts_of}
use Rattle.plumtree.proofs.ListLaws.{returned-leads}
use Rattle.plumtree.proofs.plumtree_return.Goals as goal

pub returns-in-Ok-clause-returns : goal.returns-in-Ok-clause-returns
returns-in-Ok-clause-returns c = rw c.accepted.ensures (c.in-Ok.ensures (counts_of c.args.counts.now))

pub returns-in-Ok-clause-since_saved : goal.returns-in-Ok-clause-since_saved
returns-in-Ok-clause-since_saved c =
    let a = c.args in
    λ e. returned-leads a.block.now (counts_of a.counts.now) a.area.now a.name c.go_back.new.block _ 0 0 (c.in-Ok.ensures (counts_of a.counts.now)) refl

pub returns-in-Err-clause-returns : goal.returns-in-Err-clause-returns
returns-in-Err-clause-returns c = rw c.refused.ensures (c.in-Err.ensures (counts_of c.args.counts.now))
