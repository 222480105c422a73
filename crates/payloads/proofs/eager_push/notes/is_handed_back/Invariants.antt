use Rattle.payloads.proofs.Words.{◌≡◌, [], shown}
use Rattle.payloads.proofs.EagerPushLaws.NoteLaws.{first_backs}
use Rattle.payloads.proofs.eager_push.notes.is_handed_back.Given as goal

-- none of the links before this one hands it back
abbrev pub invariant-loop-link : goal.invariant-loop-link
invariant-loop-link l = first_backs l.call l.to (shown l.view) l.link ≡ []
