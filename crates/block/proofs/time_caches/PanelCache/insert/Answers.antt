-- The tables stand in the block, and there is room.
use Rattle.block.proofs.Words.{subst, id_of, Inserts, TimeBoundCache}
use Rattle.block.proofs.time_caches.PanelCache.insert.Goals as goal

pub insert-inserted-requires : goal.insert-inserted-requires
insert-inserted-requires g c = let s = c.tables.ensures.stands c.args.block.now c.requires.sound.0 in (s.room, s.sound c.requires.order)

pub returns-clause-inserts : goal.returns-clause-inserts
returns-clause-inserts g c =
    let r = c.insert-inserted in
    subst (λ (t : TimeBoundCache). Inserts t (id_of c.args.id) c.args.expires.0 c.args.block.now r.result r.new.block) c.tables.ensures.at r.ensures
