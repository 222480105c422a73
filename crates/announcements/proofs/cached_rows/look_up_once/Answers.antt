-- `look_up_once`: the rows are told one after the other.
use Rattle.announcements.proofs.Words.{refl, arith, settled, shown}
use Rattle.announcements.proofs.CachedRowsLaws.{told-none, rows-then}
use Rattle.announcements.proofs.cached_rows.look_up_once.Goals as goal

pub loop-row-init : goal.loop-row-init
loop-row-init c = record { told = told-none (settled c.args.instant.0 (shown c.args.view.now)) c.args.cached.now; long = refl; places = refl }

pub returns : goal.returns
returns c =
    let v = c.args.view.now in
    record { told = record { each = λ r h. c.loop-row.invariant.told.each r (omega (arith, h, rows-then c.args.instant.0 (shown v), c.loop-row-test.false, c.record_len-row-end.ensures.long)) }; long = omega (arith, rows-then c.args.instant.0 (shown v), c.requires.room, c.loop-row.invariant.long) }
