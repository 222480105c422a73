-- The first links are looked up.
use Rattle.plumtree.proofs.RoomLaws.{Finishing}
use Rattle.plumtree.proofs.rooms.finish.Given as goal

abbrev pub invariant-loop-link : goal.invariant-loop-link
invariant-loop-link l = Finishing l.block l.link l.rooms l.initial.found l.found
