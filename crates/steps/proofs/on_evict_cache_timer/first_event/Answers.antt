-- `first_event` meets its contract: where the flag stands nothing is left to do, and else eviction and the flag are.
use Rattle.steps.proofs.Words.{true, refl, ap, sym, ◌∙◌, ◌≡◌, with_init, first_state, state, AtRest}
use Rattle.std.proofs.Common.{subst}
use Rattle.steps.proofs.EvictStepLaws.{first-still, first-done, rest-first}
use Rattle.steps.proofs.on_evict_cache_timer.first_event.Goals as goal
use Rattle.steps.proofs.on_evict_cache_timer.first_event.Goals.{After-flag_init}

-- the state once the flag is set
done : (c : After-flag_init) → state c.flag_init.new.self ≡ first_state c.args.call.now.instant.0 (state c.args.panel.now)
done c =
    let p = c.args.panel.now in
    let now = c.args.call.now.instant.0 in
    c.flag_init.ensures.state ∙ ap (with_init true) c.on_evict_cache_timer.ensures.state ∙ sym (first-done now p.head p.block.now c.if-panel.false)

pub returns-then-panel-clause-goes : goal.returns-then-panel-clause-goes
returns-then-panel-clause-goes c =
    let p = c.args.panel.now in
    record { state = sym (first-still c.args.call.now.instant.0 p.head p.block.now c.if-panel.true); loan = refl }

pub returns-clause-goes : goal.returns-clause-goes
returns-clause-goes c = record {
  state = done (goal.at.returns-clause-goes c).After-flag_init;
  loan = c.flag_init.ensures.loan ∙ c.on_evict_cache_timer.ensures.loan;
}

pub returns-clause-rest : goal.returns-clause-rest
returns-clause-rest c =
    subst AtRest (sym (done (goal.at.returns-clause-rest c).After-flag_init)) (rest-first c.args.call.now.instant.0 (state c.args.panel.now) c.requires)
