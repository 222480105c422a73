-- `tables::rows_of`: the number that the header has.
use Rattle.alike.proofs.Words.{sym, ap, ◌∙◌, shown}
use Rattle.block.proofs.LinkLaws.{count-links}
use Rattle.block.proofs.MissingLaws.{count-missing}
use Rattle.block.proofs.TimerLaws.{count-timers}
use Rattle.block.proofs.CachesLaws.ReceivedLaws.{count-received}
use Rattle.block.proofs.CachesLaws.GraftedLaws.{count-grafted}
use Rattle.block.proofs.CachesLaws.CachedLaws.{count-cached}
use Rattle.alike.specs.Rows.{rows_of}
use Rattle.alike.specs.declared.tables.RowTable.{RowTable}
use Rattle.alike.proofs.tables.rows_of.Goals as goal

pub returns-in-Links : goal.returns-in-Links
returns-in-Links c = let v = c.args.view.now in sym (ap (λ (t : RowTable). rows_of t (shown v)) c.in-Links.is ∙ count-links v.head.now v.block.now)

pub returns-in-Missing : goal.returns-in-Missing
returns-in-Missing c = let v = c.args.view.now in sym (ap (λ (t : RowTable). rows_of t (shown v)) c.in-Missing.is ∙ count-missing v.head.now v.block.now)

pub returns-in-Timers : goal.returns-in-Timers
returns-in-Timers c = let v = c.args.view.now in sym (ap (λ (t : RowTable). rows_of t (shown v)) c.in-Timers.is ∙ count-timers v.head.now v.block.now)

pub returns-in-Received : goal.returns-in-Received
returns-in-Received c = let v = c.args.view.now in sym (ap (λ (t : RowTable). rows_of t (shown v)) c.in-Received.is ∙ count-received v.head.now v.block.now v.sound.fit)

pub returns-in-Grafted : goal.returns-in-Grafted
returns-in-Grafted c = let v = c.args.view.now in sym (ap (λ (t : RowTable). rows_of t (shown v)) c.in-Grafted.is ∙ count-grafted v.head.now v.block.now v.sound.fit)

pub returns-in-Cached : goal.returns-in-Cached
returns-in-Cached c = let v = c.args.view.now in sym (ap (λ (t : RowTable). rows_of t (shown v)) c.in-Cached.is ∙ count-cached v.head.now v.block.now v.sound.fit)
