-- The bytes read are the senders of the view.
use Rattle.std.proofs.Common.{◌∙◌, arith}
use Rattle.block.proofs.GraftsLaws.ReadLaws.{senders_read}
use Rattle.block.proofs.panel.View.senders.Goals as goal

pub returns : goal.returns
returns c =
    let v = c.args.self.now in
    c.load.ensures ∙ senders_read v.head.now v.block.now v.sound c.args.entry c.requires _ _ (omega (arith, c.graft_at-at.ensures.at)) (omega arith)
