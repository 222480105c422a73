-- `put_answer`: there is room for it.
use Rattle.std.proofs.Common.{rules}
use Rattle.panel.proofs.RecordsLaws.Replies.{answer-room}
use Rattle.panel.proofs.records.put_answer.Goals as goal

pub put-requires : goal.put-requires
put-requires c = answer-room c.args.number c.args.n c.args.out.now c.args.reply.now (search rules) c.requires.0 c.requires.1
