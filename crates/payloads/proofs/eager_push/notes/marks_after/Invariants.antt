use Rattle.payloads.proofs.Words.{◌≡◌, length, id_of}
use Rattle.payloads.proofs.EagerLaws.ScanLaws.{SeenSofar}
use Rattle.payloads.proofs.eager_push.notes.marks_after.Given as goal

-- each link has the number that the notes before this one leave
abbrev pub invariant-loop-row : goal.invariant-loop-row
invariant-loop-row l = (length l.marks ≡ 32) × SeenSofar l.view.head.now l.view.block.now (id_of l.id) l.fn.from l.row l.marks
