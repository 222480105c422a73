-- `QueuedIhave::encode`: the beginning, then the entries.
use lib.ListN.{length-map}
use Rattle.announcements.proofs.Words.{note_at, shown}
use Rattle.announcements.specs.QueuedRows.{ihave_of, ihaves_at}
use Rattle.announcements.proofs.OnDispatchLaws.RowLaws.{ihave-after}
use Rattle.announcements.proofs.on_dispatch_timer.ihave.QueuedIhaveEncode.encode.Goals as goal

pub returns : goal.returns
returns g c = let m = c.args.self.now in let queue = (shown m.view).queue in ihave-after (ihaves_at queue m.rows.now) _ (length-map m.rows.now (λ i. ihave_of (note_at queue i))) _ _ _ c.encode.ensures c.encode_entries.ensures
