-- By what the search found.
use Rattle.std.proofs.Common.{◌∙◌}
use Rattle.block.specs.LinkSteps.{peer_at}
use Rattle.block.specs.Views.{shown}
use Rattle.block.specs.Caches.GraftSteps.{grafts_at}
use Rattle.block.proofs.KeyMembers.{found-has}
use Rattle.block.proofs.GraftsLaws.PeerLaws.{peers-ascend}
use Rattle.block.proofs.panel.View.is_grafted.Goals as goal

pub returns : goal.returns
returns c =
    let st = shown c.args.self.now in
    c.is_ok.ensures.value ∙ found-has (peer_at st c.args.link) 0 (grafts_at st c.args.entry).peers c.find_graft.result (peers-ascend st c.requires.0 c.args.entry c.requires.1) c.find_graft.ensures
