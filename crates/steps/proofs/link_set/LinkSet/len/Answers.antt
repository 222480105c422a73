use Rattle.steps.proofs.LinkSetLaws.{count-all}
use Rattle.steps.proofs.link_set.LinkSet.len.Goals as goal

pub returns : goal.returns
returns c = count-all c.args.self c.requires
