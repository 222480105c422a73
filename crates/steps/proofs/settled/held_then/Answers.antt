-- `held_then`: what `get` found, and the time of the row.
use Rattle.steps.proofs.Words.{sym, ap, ◌∙◌, lt-ltb, le-ltb, ltb, Option, id_of}
use Rattle.std.proofs.Common.{subst}
use Rattle.time_cache.specs.Steps.{GotIs, GotAt}
use Rattle.time_cache.specs.declared.cache.Found.{Found}
use Rattle.steps.proofs.SettledLaws.ThenLaws.{there-still, there-later, there-gone, nowhere}
use Rattle.steps.proofs.settled.held_then.Goals as goal
use Rattle.steps.proofs.settled.held_then.Goals.{In_ok-found}

-- the entry that was found, and its row
got : (c : In_ok-found)
    → GotAt c.args.cache c.args.block.now (id_of c.args.id) c.in_ok-found.found.entry c.in_ok-found.found.row
got c =
    let a = c.args in
    subst (λ (o : Option Found). GotIs a.cache a.block.now (id_of a.id) o) c.in_ok-found.was c.get.ensures

pub returns-then-init : goal.returns-then-init
returns-then-init c =
    let a = c.args in
    there-still a.cache a.block.now c.requires.1 a.init a.instant.0 (id_of a.id) _ _ (got (goal.at.returns-then-init c).In_ok-found) c.if-init.true

pub returns-then-instant-time : goal.returns-then-instant-time
returns-then-instant-time c =
    let a = c.args in
    there-later a.cache a.block.now c.requires.1 a.init a.instant.0 (id_of a.id) _ _ (got (goal.at.returns-then-instant-time c).In_ok-found) c.if-init.false
    (ap (ltb a.instant.0) (sym c.expires-time.ensures) ∙ lt-ltb a.instant.0 c.expires-time.result.0 c.if-instant-time.true)

pub returns : goal.returns
returns c =
    let a = c.args in
    there-gone a.cache a.block.now c.requires.1 a.init a.instant.0 (id_of a.id) _ _ (got (goal.at.returns c).In_ok-found) c.if-init.false
    (ap (ltb a.instant.0) (sym c.expires-time.ensures) ∙ le-ltb a.instant.0 c.expires-time.result.0 c.if-instant-time.false)

pub returns-in_err-found : goal.returns-in_err-found
returns-in_err-found c =
    let a = c.args in
    rw c.from_residual.ensures (nowhere a.cache a.block.now c.requires.1 a.init a.instant.0 (id_of a.id)
    (subst (λ (o : Option Found). GotIs a.cache a.block.now (id_of a.id) o) c.in_err-found.was c.get.ensures))
