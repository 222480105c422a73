-- The tables stand in the block.
use Rattle.block.proofs.Words.{subst, Expires, TimeBoundCache}
use Rattle.block.proofs.time_caches.PanelCache.expire.Goals as goal

pub expire_until-expired-requires-clause-lies : goal.expire_until-expired-requires-clause-lies
expire_until-expired-requires-clause-lies g c = let s = c.tables.ensures.stands c.args.block.now c.requires.sound.0 in (s.lies, s.sound c.requires.order)

pub returns-clause-expires : goal.returns-clause-expires
returns-clause-expires g c =
    let r = c.expire_until-expired in
    subst (λ (t : TimeBoundCache). Expires t c.args.instant.0 c.args.block.now r.result r.new.block) c.tables.ensures.at r.ensures.left
