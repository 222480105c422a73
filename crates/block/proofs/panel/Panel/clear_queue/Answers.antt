-- No rows counted are no notes.
use Rattle.std.proofs.Common.{refl}
use Rattle.block.proofs.NoteLaws.{queue-cleared}
use Rattle.block.proofs.panel.Panel.clear_queue.Goals as goal

pub invariant_of-self : goal.invariant_of-self
invariant_of-self c = let p = c.args.self.now in (tt, tt, ((queue-cleared p.head p.block.now p.sound).sound, (p.laid_out, tt)))

pub returns : goal.returns
returns c = let p = c.args.self.now in record { state = (queue-cleared p.head p.block.now p.sound).state; loan = refl }
