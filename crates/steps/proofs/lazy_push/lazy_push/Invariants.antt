use Rattle.steps.proofs.Words.{take, id_of, state, Goes}
use Rattle.steps.proofs.LazyPushLaws.{lazy_queued}
use Rattle.steps.proofs.lazy_push.lazy_push.Given as goal

-- the links before this one are done
abbrev pub invariant-loop-link : goal.invariant-loop-link
invariant-loop-link l = Goes (lazy_queued (id_of l.id) l.round.0 l.sender (take l.link (state l.fn.panel).links)) l.fn.panel l.panel
