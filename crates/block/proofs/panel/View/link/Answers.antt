-- The row read is the link of the state.
use Rattle.block.proofs.Words.{ap, ◌∙◌, arith, Entry, Mark, is_eager}
use Rattle.block.proofs.LinkLaws.{count-links}
use Rattle.block.proofs.panel.View.link.Goals as goal

pub load_link-peer-requires : goal.load_link-peer-requires
load_link-peer-requires c = let v = c.args.self.now in record { fit = (v.sound.fit, v.laid_out); there = omega (arith, c.requires, count-links v.head.now v.block.now) }

pub returns : goal.returns
returns c =
    let read = c.load_link-peer.ensures in
    λ j. record { number = c.args.number; peer = (read j).key; eager = (c.is_eager-eager.ensures ∙ ap (λ (e : Entry Mark). is_eager e.value) read) j }
