-- The links before i are below the peer.
use Rattle.block.proofs.Words.{ℕ, ◌<◌, get_or, keys}
use Rattle.block.specs.Views.{shown}
use Rattle.block.proofs.panel.View.search_links.Given as goal

abbrev pub invariant-loop-i : goal.invariant-loop-i
invariant-loop-i l = (j : ℕ) → j < l.i → get_or (keys (shown l.self).links) j 0 < l.peer
