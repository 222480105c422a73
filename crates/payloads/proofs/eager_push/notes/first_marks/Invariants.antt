use Rattle.payloads.specs.Eager.Scan.{FirstMarks}
use Rattle.payloads.proofs.eager_push.notes.first_marks.Given as goal

-- the links before this one have their number
abbrev pub invariant-loop-link : goal.invariant-loop-link
invariant-loop-link l = FirstMarks l.to l.call.rooms.now.links l.link l.marks
