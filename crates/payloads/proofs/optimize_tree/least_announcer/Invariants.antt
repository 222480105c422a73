-- The least so far, and those that are left.
use Rattle.payloads.proofs.Words.{◌≡◌, ◌<◌, length, drop, hops_at, least_from, hop_value, shown}
use Rattle.payloads.specs.OptimizeTree.{least_of}
use Rattle.payloads.proofs.optimize_tree.least_announcer.Given as goal

abbrev pub invariant-loop-number : goal.invariant-loop-number
invariant-loop-number l =
    (l.least.link < length (shown l.view).links) × (least_from (hop_value (shown l.view) l.least) (drop l.number (hops_at (shown l.view) l.missing)) ≡ least_of (hops_at (shown l.view) l.missing))
