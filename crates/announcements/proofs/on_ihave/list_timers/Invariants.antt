-- `list_timers`: after i numbers the identifiers of the first i are listed.
use Rattle.announcements.proofs.Words.{◌≡◌, ◌≤◌, map, take, All, State, id_of}
use Rattle.announcements.specs.OnIhave.{entries_value, entries_at, ids, new_timers, Adds}
use Rattle.announcements.proofs.on_ihave.list_timers.Given as goal

abbrev pub invariant-loop-number : goal.invariant-loop-number
invariant-loop-number l = record {
  few : l.count ≤ l.number-index;
  listed : (s : State) → All (Adds s) l.decision.entries.now → map id_of (take l.count l.unmarked) ≡ ids (new_timers s (entries_at (entries_value l.decision.entries.now) (take l.number-index l.decision.order.now)));
}
