-- No announcer passed is of the link.
use Rattle.block.proofs.Words.{◌≡◌, false, take, any}
use Rattle.block.specs.LinkSteps.{peer_at}
use Rattle.block.specs.MissingSteps.{hops_at, from_peer}
use Rattle.block.specs.Views.{shown}
use Rattle.block.proofs.panel.View.is_announcer.Given as goal

abbrev pub invariant-loop-number : goal.invariant-loop-number
invariant-loop-number l = any (from_peer (peer_at (shown l.self) l.link)) (take l.number (hops_at (shown l.self) l.missing)) ≡ false
