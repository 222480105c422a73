-- `decide_noted` meets its contract: what was found is what is noted.
use Rattle.announcements.proofs.Words.{ap, arith, length, shown}
use Rattle.announcements.proofs.OnDispatchLaws.StateLaws.{noted-then}
use Rattle.announcements.proofs.on_dispatch_timer.decide_noted.Goals as goal

pub returns : goal.returns
returns c = rw c.as_slice.ensures.value (noted-then c.args.call.now.instant.0 c.args.call.now (shown c.args.view.now) _ (omega (arith, ap length c.as_slice.ensures.value, c.as_slice.ensures.fits)) c.find_noted.ensures.rows c.find_noted.ensures.noted)
