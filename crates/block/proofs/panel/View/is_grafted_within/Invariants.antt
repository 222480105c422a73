-- No peer passed is grafted over so few hops.
use Rattle.block.proofs.Words.{◌≡◌, false, leb, take, any}
use Rattle.block.specs.Views.{shown}
use Rattle.block.specs.Caches.GraftSteps.{grafts_at}
use Rattle.block.proofs.panel.View.is_grafted_within.Given as goal

abbrev pub invariant-loop-j : goal.invariant-loop-j
invariant-loop-j l = any (λ e. leb e.value l.round.0) (take l.j (grafts_at (shown l.self) l.entry).peers) ≡ false
