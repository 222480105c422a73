-- `per_message` meets its contract: M is at least 510.
use Rattle.std.proofs.Common.{arith}
use Rattle.block.specs.View.{state_of}
use Rattle.announcements.proofs.PerMessageLaws.{size_low}
use Rattle.announcements.proofs.on_dispatch_timer.per_message.Goals as goal

pub chunk_len-requires : goal.chunk_len-requires
unfolding state_of
chunk_len-requires c = let v = c.args.view.now in omega (arith, size_low (state_of v.head.now v.block.now) c.requires.ranged)

pub returns : goal.returns
unfolding state_of
returns c = c.chunk_len.ensures
