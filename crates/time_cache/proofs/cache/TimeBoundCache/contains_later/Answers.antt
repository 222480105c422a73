-- `contains_later`: what `get` found, and the time of the row.
use Rattle.std.proofs.Common.{sym, ap, subst, ◌∙◌, Option, ltb}
use Rattle.storage.specs.Rows.Ident.{id_of}
use Rattle.time_cache.specs.Steps.{GotIs}
use Rattle.time_cache.specs.declared.cache.Found.{Found}
use Rattle.time_cache.proofs.ReadLaws.{holds_later, not-later}
use Rattle.time_cache.proofs.cache.TimeBoundCache.contains_later.Goals as goal

pub returns-in-Some : goal.returns-in-Some
returns-in-Some c =
    let k = c.args.self in
    let xs = c.args.block.now in
    let g = subst (λ (o : Option Found). GotIs k xs (id_of c.args.key) o) c.in-Some.is c.get.ensures in
    ap (ltb c.args.instant.0) c.expires.ensures ∙ sym (holds_later k xs c.requires.1 (id_of c.args.key) c.args.instant.0 _ g.value)

pub returns-in-None : goal.returns-in-None
returns-in-None c =
    let k = c.args.self in
    let xs = c.args.block.now in
    sym (not-later k xs c.requires.1 (id_of c.args.key) c.args.instant.0 (subst (λ (o : Option Found). GotIs k xs (id_of c.args.key) o) c.in-None.is c.get.ensures))
