-- The tables stand in a block that is sound, as a view's is.
use Rattle.block.proofs.time_caches.PanelCache.table.Goals as goal

pub returns-clause-stands : goal.returns-clause-stands
returns-clause-stands g c = let v = c.args.view.now in c.tables.ensures.stands v.block.now v.sound
