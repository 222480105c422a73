-- `look_up_each`: each row is told by its look-up.
use Rattle.announcements.proofs.Words.{◌<◌, refl, sym, ap, ◌∙◌, arith, length, length-set, settled, shown}
use Rattle.announcements.proofs.CachedRowsLaws.{told-none, told-next, row-then, rows-then, held}
use Rattle.announcements.proofs.cached_rows.look_up_each.Goals as goal

pub loop-row-init : goal.loop-row-init
loop-row-init c = record { told = told-none (settled c.args.instant.0 (shown c.args.view.now)) c.args.cached.now; long = refl }

pub loop-row-preserved : goal.loop-row-preserved
loop-row-preserved c =
    let l = c.loop-row in
    let now = c.args.instant.0 in
    let s = shown c.args.view.now in
    let within : l.row < length l.cached = omega (arith, l.invariant.long, c.requires.room, c.record_len-row-end.ensures.long, c.loop-row-test.true) in
    record {
      told = told-next (settled now s) l.row l.cached l.invariant.told c.is_cached_then.result within (c.is_cached_then.ensures ∙ sym (ap (held (settled now s)) (row-then now s l.row c.recorded.result c.recorded.ensures)));
      long = length-set l.cached l.row c.is_cached_then.result ∙ l.invariant.long;
    }

pub returns : goal.returns
returns c =
    let v = c.args.view.now in
    record { told = record { each = λ r h. c.loop-row.invariant.told.each r (omega (arith, h, rows-then c.args.instant.0 (shown v), c.loop-row-test.false, c.record_len-row-end.ensures.long)) }; long = omega (arith, rows-then c.args.instant.0 (shown v), c.requires.room, c.loop-row.invariant.long) }
