-- `place` meets its contract: the place of an identifier goes by its last word.
use Rattle.announcements.proofs.Words.{◌+◌, ◌*◌, ◌^◌, arith}
use Rattle.announcements.proofs.OnDispatchLaws.MarkLaws.{place-last}
use Rattle.announcements.proofs.on_dispatch_timer.noted.place.Goals as goal

pub returns : goal.returns
returns c =
    let x = c.args.id in
    place-last c.args.multiplier ((x.w0 * 2 ^ 64 + x.w1) * 2 ^ 64 + x.w2) x.w3 (omega arith)
