-- `list_missing`: after i numbers the announcements of the first i are listed.
use Rattle.announcements.proofs.Words.{◌≡◌, ◌≤◌, map, take, All, State, ihave_value}
use Rattle.announcements.specs.OnIhave.{entries_value, entries_at, new_missing, Adds}
use Rattle.announcements.proofs.on_ihave.list_missing.Given as goal

abbrev pub invariant-loop-number : goal.invariant-loop-number
invariant-loop-number l = record {
  few : l.count ≤ l.number-index;
  listed : (s : State) → All (Adds s) l.decision.entries.now → map ihave_value (take l.count l.fresh) ≡ new_missing s (entries_at (entries_value l.decision.entries.now) (take l.number-index l.decision.order.now));
}
