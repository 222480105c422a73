-- `dispatch_actions` meets its contract: of an empty queue nothing is sent.
use Rattle.announcements.proofs.Words.{◌≡◌, ℕ, List, [], sym, refl, ap, ◌∙◌, arith, nil_from_length, State, settled, after_nil, rooms_of, shown, settled-as}
use Rattle.wire.specs.Encode.Intake.{after}
use Rattle.announcements.proofs.OnDispatchLaws.SendLaws.{no-sends}
use Rattle.announcements.proofs.on_dispatch_timer.dispatch_actions.Goals as goal

pub returns-else-queue_len-gt0 : goal.returns-else-queue_len-gt0
returns-else-queue_len-gt0 g c =
    let s = shown c.args.view.now in
    let t = settled c.args.call.now.instant.0 s in
    let x = g.S.Sink.intake c.args.out.now in
    let none : t.queue ≡ [] = settled-as c.args.call.now.instant.0 s (λ (u : State). u.queue) refl ∙ nil_from_length s.queue (omega (arith, c.queue_len.ensures.long, c.if-queue_len-gt0.false)) in
    sym (ap (λ (bs : List ℕ). after bs x) (no-sends (rooms_of c.args.call.now t) t none) ∙ after_nil x)
