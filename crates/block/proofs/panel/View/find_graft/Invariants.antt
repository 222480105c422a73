-- The peers before j are below the peer of the link.
use Rattle.block.proofs.Words.{ℕ, ◌<◌, get_or, keys}
use Rattle.block.specs.LinkSteps.{peer_at}
use Rattle.block.specs.Views.{shown}
use Rattle.block.specs.Caches.GraftSteps.{grafts_at}
use Rattle.block.proofs.panel.View.find_graft.Given as goal

abbrev pub invariant-loop-j : goal.invariant-loop-j
invariant-loop-j l = (k : ℕ) → k < l.j → get_or (keys (grafts_at (shown l.self) l.entry).peers) k 0 < peer_at (shown l.self) l.link
