-- `load_link`: the row read is the link of the view.
use Rattle.block.proofs.Words.{sym, ap, ◌∙◌, List, get_or, Entry, entry, Mark, eager}
use Rattle.block.proofs.LinkLaws.{links-lent}
use Rattle.block.proofs.links.load_link.Goals as goal

pub returns : goal.returns
returns c =
    sym (c.load.ensures (entry 0 eager)) ∙ ap (λ (l : List (Entry Mark)). get_or l c.args.i (entry 0 eager)) (links-lent c.args.head.now c.args.block.now c.span.result (c.span.ensures _ c.requires.fit.1))
