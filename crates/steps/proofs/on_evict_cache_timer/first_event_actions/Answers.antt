-- `first_event_actions`: those of the eviction, unless a first event was.
use Rattle.steps.proofs.Words.{List, ap, sym, ◌∙◌, ℕ, concat_map, Action, action_bytes, after, shown}
use Rattle.wire.proofs.EncodeLaws.IntakeLaws.{after_nil}
use Rattle.steps.proofs.AtRestLaws.{in_order}
use Rattle.steps.proofs.ActionLaws.{first-yes, first-no, no-action}
use Rattle.steps.proofs.ForgottenLaws.{init-of}
use Rattle.steps.proofs.on_evict_cache_timer.first_event_actions.Goals as goal

pub tell_and_schedule-requires : goal.tell_and_schedule-requires
tell_and_schedule-requires g c = record { order = in_order (shown c.args.view.now).cache c.requires.rest.consistent.core.cache_on }

pub returns-then-not-view : goal.returns-then-not-view
returns-then-not-view g c =
    let v = c.args.view.now in
    c.tell_and_schedule.ensures
    ∙ ap (λ (xs : List Action). after (concat_map action_bytes xs) (g.S.Sink.intake c.args.out.now)) (sym (first-no c.args.call.now.instant.0 (shown v) (init-of v.head.now v.block.now ∙ c.if-not-view.true)))

pub returns-else-not-view : goal.returns-else-not-view
returns-else-not-view g c =
    let v = c.args.view.now in
    let x = g.S.Sink.intake c.args.out.now in
    sym (
    ap (λ (xs : List Action). after (concat_map action_bytes xs) x) (first-yes c.args.call.now.instant.0 (shown v) (init-of v.head.now v.block.now ∙ c.if-not-view.false))
    ∙ ap (λ (bs : List ℕ). after bs x) no-action ∙ after_nil x
    )
