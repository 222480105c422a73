-- `count_from`: of the first i rows, `later` name none of the first k.
use Rattle.std.proofs.Common.{◌≡◌, ◌≤◌, take}
use Rattle.storage.specs.Lists.Base.{count}
use Rattle.storage.specs.Refs.Refs.{refs, names}
use Rattle.storage.proofs.refs.count_from.Given as goal

abbrev pub invariant-loop-i : goal.invariant-loop-i
invariant-loop-i l = (l.later ≤ l.i) × (l.later ≡ count (names l.k) (take l.i (refs l.stride l.n l.bytes)))
