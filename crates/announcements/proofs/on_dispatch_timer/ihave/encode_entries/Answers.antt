-- `encode_entries`: one entry after the other.
use Rattle.announcements.proofs.Words.{◌∷◌, ap, sym, ◌∙◌, drop, ◌+◌, Note, shown}
use Rattle.wire.proofs.EncodeLaws.IhavesLaws.{entry-same, entries-done}
use Rattle.announcements.specs.QueuedRows.{ihave_of, ihaves_at}
use Rattle.announcements.proofs.OnDispatchLaws.RowLaws.{at-rest, rest-end}
use Rattle.announcements.proofs.on_dispatch_timer.ihave.encode_entries.Goals as goal

pub loop-row-preserved : goal.loop-row-preserved
loop-row-preserved g c =
    let queue = (shown c.args.ihave.now.view).queue in
    let rows = c.args.ihave.now.rows.now in
    let i = c.loop-row.row-index in
    entry-same (at-rest queue rows i c.loop-row-test.true ∙ ap (λ (n : Note). ihave_of n ∷ ihaves_at queue (drop (i + 1) rows)) (sym c.queued-note.ensures)) _ _ _ c.loop-row.invariant c.encode.ensures

pub returns : goal.returns
returns g c = entries-done _ _ _ (rest-end (shown c.args.ihave.now.view).queue c.args.ihave.now.rows.now c.loop-row.row-index c.loop-row-test.false) c.loop-row.invariant
