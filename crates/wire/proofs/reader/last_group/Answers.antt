use Rattle.std.proofs.Common.{arith}
use Rattle.wire.proofs.ReaderLaws.GroupLaws.{group-high, group-nought, group-low}
use Rattle.wire.proofs.reader.last_group.Goals as goal
use Rattle.wire.proofs.reader.last_group.Goals.{else-group-eq0-via-then-group-eq0+else-not-nought, else-group-eq0-via-else-group-eq0}

pub returns-then-top-group-clause-gives : goal.returns-then-top-group-clause-gives
returns-then-top-group-clause-gives c = λ rest. group-high _ _ _ _ _ rest c.if-top-group.true

pub returns-then-not-nought-clause-gives : goal.returns-then-not-nought-clause-gives
returns-then-not-nought-clause-gives c = λ rest. rw (c.if-group-eq0.true, c.if-not-nought.true) (group-nought c.args.top c.args.low c.args.scale rest)

pub returns-clause-gives : goal.returns-clause-gives
returns-clause-gives c = λ rest. group-low _ _ _ _ _ rest c.if-top-group.false (λ z. elim c.else-group-eq0.branch [ else-group-eq0-via-then-group-eq0+else-not-nought w ↦ w.if-not-nought.false | else-group-eq0-via-else-group-eq0 w ↦ absurd (omega (arith, w.if-group-eq0.false, z)) ])
