-- `evict_actions`: those of the eviction; where a first event evicts before it, its schedule alone.
use Rattle.steps.proofs.Words.{List, ap, sym, ◌∙◌, ℕ, concat_map, Action, action_bytes, after, shown}
use Rattle.steps.proofs.AtRestLaws.{in_order}
use Rattle.steps.proofs.ActionLaws.{evict-yes, evict-no, one-action, scheduled}
use Rattle.steps.proofs.ForgottenLaws.{init-of}
use Rattle.steps.proofs.on_evict_cache_timer.evict_actions.Goals as goal

pub tell_and_schedule-requires : goal.tell_and_schedule-requires
tell_and_schedule-requires g c = record { order = in_order (shown c.args.view.now).cache c.requires.rest.consistent.core.cache_on }

pub returns-then-view : goal.returns-then-view
returns-then-view g c =
    let v = c.args.view.now in
    c.tell_and_schedule.ensures
    ∙ ap (λ (xs : List Action). after (concat_map action_bytes xs) (g.S.Sink.intake c.args.out.now)) (sym (evict-yes c.args.call.now.instant.0 (shown v) (init-of v.head.now v.block.now ∙ c.if-view.true)))

pub returns-else-view : goal.returns-else-view
returns-else-view g c =
    let v = c.args.view.now in
    let now = c.args.call.now.instant.0 in
    c.schedule_evict_cache.ensures
    ∙ ap (λ (bs : List ℕ). after bs (g.S.Sink.intake c.args.out.now)) (sym (ap (concat_map action_bytes) (evict-no now (shown v) (init-of v.head.now v.block.now ∙ c.if-view.false)) ∙ one-action (scheduled now (shown v))))
