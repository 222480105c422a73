-- `record_whole`: an empty record is whole.
use Rattle.std.proofs.Common.{◌∙◌, eq-eqb}
use Rattle.whole.proofs.RecordLaws.{record-none}
use Rattle.whole.proofs.tables.Tables.record_whole.Goals as goal

pub returns-then-self-eq0 : goal.returns-then-self-eq0
returns-then-self-eq0 c = eq-eqb _ _ c.if-self-eq0.true ∙ record-none c.args.self.now.head.now c.args.self.now.block.now c.if-self-eq0.true
