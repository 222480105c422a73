use Rattle.announcements.proofs.Words.{ℕ, ◌<◌, ◌≤◌, length, get_or, shown}
use Rattle.announcements.proofs.on_dispatch_timer.noted.may_hand_back.Given as goal

-- the links before this one take all
abbrev pub invariant-loop-link : goal.invariant-loop-link
invariant-loop-link l = (k : ℕ) → k < l.link → length (shown l.view).queue ≤ get_or l.call.rooms.now.links k 0
