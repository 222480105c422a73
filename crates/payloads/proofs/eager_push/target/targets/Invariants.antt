use Rattle.payloads.proofs.Words.{keys, shown, peers_at}
use Rattle.payloads.proofs.EagerLaws.TargetLaws.{TargetsSofar}
use Rattle.payloads.proofs.eager_push.target.targets.Given as goal

-- the links before this one are in it, if the push goes there
abbrev pub invariant-loop-link : goal.invariant-loop-link
invariant-loop-link l = TargetsSofar l.sender (keys (peers_at l.grafted (shown l.view))) (shown l.view) l.link l.to
