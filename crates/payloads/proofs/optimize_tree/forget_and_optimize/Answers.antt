-- `forget_and_optimize` meets its contract: the links, then the timer mark, then the announcers.
use Rattle.payloads.proofs.Words.{◌∙◌, ap, refl, id_of, ascending, keys, State, miss_out, state}
use Rattle.block.specs.TimerSteps.{timer_out}
use Rattle.payloads.specs.OptimizeTree.{after_shortcut}
use Rattle.payloads.proofs.OptimizeTreeLaws.{shortcut-only, forgotten}
use Rattle.payloads.proofs.optimize_tree.forget_and_optimize.Goals as goal

pub forget_timer-requires : goal.forget_timer-requires
forget_timer-requires c =
    ap (λ (t : State). ascending t.timers.graft) c.maybe_optimize.ensures.state
    ∙ shortcut-only (λ (t : State). ascending t.timers.graft) (state c.args.panel.now) (λ l. refl) c.args.shortcut ∙ c.requires.0.consistent.core.timers_up

pub forget_missing-requires : goal.forget_missing-requires
forget_missing-requires c =
    ap (λ (t : State). ascending (keys t.missing)) c.forget_timer.ensures.state
    ∙ ap (λ (t : State). ascending (keys t.missing)) c.maybe_optimize.ensures.state
    ∙ shortcut-only (λ (t : State). ascending (keys t.missing)) (state c.args.panel.now) (λ l. refl) c.args.shortcut ∙ c.requires.0.consistent.core.missing_up

pub returns : goal.returns
returns c =
    let id = id_of c.args.id in
    record {
      state = c.forget_missing.ensures.state ∙ ap (miss_out id) c.forget_timer.ensures.state ∙ ap (λ (t : State). miss_out id (timer_out id t)) c.maybe_optimize.ensures.state ∙ forgotten id (after_shortcut c.args.shortcut (state c.args.panel.now));
      loan = c.forget_missing.ensures.loan ∙ c.forget_timer.ensures.loan ∙ c.maybe_optimize.ensures.loan;
    }
