-- `taken`: the entry of the row's key, where its present time is the row's.
use Rattle.std.proofs.Common.{sym, ◌∙◌, arith, subst, Option}
use Rattle.storage.specs.Rows.Ident.{id_of}
use Rattle.time_cache.specs.Steps.{GotIs}
use Rattle.time_cache.specs.declared.cache.Found.{Found}
use Rattle.time_cache.proofs.PassedLaws.{takes-at, takes-not, takes-none}
use Rattle.time_cache.proofs.NamesLaws.{takes-named}
use Rattle.time_cache.proofs.cache.TimeBoundCache.taken.Goals as goal

pub returns-then-names-row-ne0 : goal.returns-then-names-row-ne0
returns-then-names-row-ne0 c = takes-named c.args.self c.args.block.now c.args.names.now c.args.row c.requires.lies.1 c.requires.names (omega (arith, c.if-names-row-ne0.true))

pub returns-in_default : goal.returns-in_default
returns-in_default c =
    let a = c.args in
    takes-none a.self a.block.now a.row (subst (λ (f : Option Found). GotIs a.self a.block.now (id_of c.key_at-key.result) f) c.in_default.is c.get.ensures) c.key_at-key.ensures

pub returns-then-expires : goal.returns-then-expires
returns-then-expires c =
    let a = c.args in
    takes-not a.self a.block.now a.row (subst (λ (f : Option Found). GotIs a.self a.block.now (id_of c.key_at-key.result) f) c.in-Some.is c.get.ensures) c.key_at-key.ensures
    (λ q. c.if-expires.true (c.expires.ensures ∙ q ∙ sym c.expires-2.ensures))

pub returns : goal.returns
returns c =
    let a = c.args in
    takes-at a.self a.block.now a.row (subst (λ (f : Option Found). GotIs a.self a.block.now (id_of c.key_at-key.result) f) c.in-Some.is c.get.ensures) c.key_at-key.ensures
    (sym c.expires.ensures ∙ c.if-expires.false ∙ c.expires-2.ensures)
