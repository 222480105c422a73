-- The rooms that the entries before this one tell.
use Rattle.std.proofs.Common.{length, ◌-◌}
use Rattle.plumtree.specs.Rooms.{Begun}
use Rattle.plumtree.proofs.rooms.begin.Given as goal

abbrev pub invariant-loop-missing : goal.invariant-loop-missing
invariant-loop-missing l = Begun l.block l.count l.sender l.rooms l.seen l.found

abbrev pub decreases-loop-missing : goal.decreases-loop-missing
decreases-loop-missing l = length l.initial.rooms - l.seen
