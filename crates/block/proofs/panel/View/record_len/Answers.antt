use Rattle.std.proofs.Common.{sym}
use Rattle.block.proofs.NoteLaws.{count-dropped}
use Rattle.block.proofs.panel.View.record_len.Goals as goal

pub returns-clause-long : goal.returns-clause-long
returns-clause-long c = sym (count-dropped _ _ c.args.self.now.sound)
