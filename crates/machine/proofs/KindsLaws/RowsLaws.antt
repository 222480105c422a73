-- Which entries of an event are decided: those of a neighbour's IHave.
-- Assumes nothing.
use Rattle.machine.proofs.Words.{◌≡◌, ◌≤◌, ℕ, sym, ap, ◌∙◌, arith, false, is_neighbour, State}
use Rattle.wire.specs.declared.reader.message.Message.{Message}
use Rattle.wire.specs.declared.reader.message.Message.TheVariants as messages
use Rattle.wire.specs.declared.reader.event.Event.{Event}
use Rattle.wire.specs.declared.reader.event.Event.TheVariants as read
use Rattle.storage.proofs.ListsLaws.MapLaws.{true≢}
use Rattle.decide.proofs.SettledLaws.{settled-links}
use Rattle.steps.specs.declared.call.Call.{Call}
use Rattle.machine.specs.declared.kinds.RowsToDecide.TheVariants as to_decide
use Rattle.machine.specs.Kinds.Meaning.{EntriesWithin, ToDecide}

pub strangers-entries : (call : Call) (p size : ℕ) (m : Message) (s : State) → is_neighbour p s.links ≡ false → ToDecide call (read.Received p size m) s to_decide.Nothing
strangers-entries call p size (messages.Gossip g) s away = tt
strangers-entries call p size messages.Prune s away = tt
strangers-entries call p size (messages.Graft g) s away = tt
strangers-entries call p size (messages.IHave ihaves) s away = λ near few. true≢ (sym (ap (is_neighbour p) (settled-links call.instant.0 s) ∙ away) ∙ near)

pub within-more : (n m : ℕ) (e : Event) → n ≤ m → EntriesWithin n e → EntriesWithin m e
within-more n m (read.Received p size (messages.IHave ihaves)) w k = omega (arith, w, k)
within-more n m (read.Received p size (messages.Gossip g)) w k = absurd k
within-more n m (read.Received p size messages.Prune) w k = absurd k
within-more n m (read.Received p size (messages.Graft g)) w k = absurd k
within-more n m (read.Broadcast content) w k = absurd k
within-more n m (read.Timer t) w k = absurd k
within-more n m (read.Up p quiet) w k = absurd k
within-more n m (read.Down p) w k = absurd k
