-- `contents_later`: the bytes of the first i contents that expire later.
use Rattle.std.proofs.Common.{◌*◌, ◌≤◌}
use Rattle.steps.proofs.SettledLaws.SizeLaws.{Bytes}
use Rattle.steps.proofs.settled.contents_later.Given as goal

abbrev pub invariant-loop-i : goal.invariant-loop-i
invariant-loop-i l = Bytes l.instant.0 l.view.head.now l.view.block.now l.i l.total × (l.total ≤ l.i * 1048576)
