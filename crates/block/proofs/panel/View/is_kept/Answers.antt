-- The kept sender is this peer.
use Rattle.std.proofs.Common.{ap, ◌∙◌}
use Rattle.protocol.specs.Gossips.{same_as}
use Rattle.block.proofs.FoundLaws.{kept-same}
use Rattle.block.proofs.panel.View.is_kept.Goals as goal

pub returns : goal.returns
returns c = c.eq.ensures ∙ kept-same c.kept_sender.result c.args.peer ∙ ap (same_as c.args.peer) c.kept_sender.ensures
