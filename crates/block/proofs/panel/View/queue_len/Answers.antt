use Rattle.std.proofs.Common.{sym}
use Rattle.block.proofs.NoteLaws.{count-queue}
use Rattle.block.proofs.panel.View.queue_len.Goals as goal

pub returns-clause-long : goal.returns-clause-long
returns-clause-long c = sym (count-queue _ _ c.args.self.now.sound)
