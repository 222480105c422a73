-- `event_core`: questions 5 to 14 and 23, then the event.
use Rattle.machine.proofs.Words.{not, Some, ◌≡◌, ℕ, ◌≤◌, List, ap, sym, ◌∙◌, refl, arith, length, subst, identifier, event_value, State, block_need, Outcome, answer_block, Stored, Sound, state_of, Head, AtRest}
use Rattle.std.proofs.lemmas.Result.{err_from_is_err_and}
use Rattle.steps.proofs.SettledLaws.SizeLaws.{no}
use Rattle.whole.proofs.WholeLaws.{no_limits}
use Rattle.refusal.specs.Numbers.{number_of}
use Rattle.protocol.specs.Answer.{Call}
use Rattle.whole.specs.Held.{held}
use Rattle.whole.specs.Stats.{counts_of}
use Rattle.machine.specs.Called.{call_of, lent}
use Rattle.block.specs.declared.panel.Panel.{Panel}
use Rattle.steps.specs.Rooms.{rooms_in}
use Rattle.machine.specs.Core.{core_rooms, event_size}
use Rattle.machine.specs.Decided.{answered, event_plan}
use Rattle.machine.specs.Steps.{Keeps}
use Rattle.machine.proofs.CoreLaws.{Reads, begun-reads, begun-fault, rest-of, long-of, answer-5, core-outcome, found-no, found-yes}
use Rattle.machine.proofs.RunLaws.{left-holds}
use Rattle.machine.proofs.AnsweredLaws.{found-same, done-answered}
use Rattle.machine.proofs.event.event_core.Goals as goal
use Rattle.machine.proofs.event.event_core.Goals.{Start, In_ok-event, After-answer-answered}

abbrev asked : Start → Call
asked s = call_of s.args.asked.instant.0 s.args.asked.event.now (core_rooms s.args.block.now s.args.asked.event.now s.args.asked.rooms.now) s.args.out.now

abbrev asks : Start → Outcome
asks s = answer_block identifier (length s.args.block.now) (held s.args.block.now) (counts_of s.args.c) (asked s)

-- the event was read
reads : (c : In_ok-event) → Reads c.args.block.now c.args.asked.instant.0 c.args.asked.event.now (event_value c.in_ok-event.event)
reads c = begun-reads c.args.block.now c.args.asked.instant.0 c.args.asked.event.now (event_value c.in_ok-event.event) c.in_ok-event.ensures.means

sound : (c : In_ok-event) → Sound c.open-opened.result.head c.args.block.now
sound c = subst (λ (h : Head). Sound h c.args.block.now) (sym c.open-opened.ensures.head) (reads c).wholly.sound

rest : (c : In_ok-event) → AtRest (state_of c.open-opened.result.head c.args.block.now)
rest c = subst (λ (h : Head). AtRest (state_of h c.args.block.now)) (sym c.open-opened.ensures.head) (rest-of c.args.block.now (reads c).wholly)

pub returns-then-not-has_limits-clause-refused : goal.returns-then-not-has_limits-clause-refused
returns-then-not-has_limits-clause-refused c =
    let a = c.args in
    record {
      room = refl;
      finds = found-no _ 5 (lent a.block.now a.c a.out.now)
          (answer-5 a.block.now (counts_of a.c) (call_of a.asked.instant.0 a.asked.event.now (core_rooms a.block.now a.asked.event.now a.asked.rooms.now) a.out.now)
          (no_limits a.block.now (no c.has_limits.ensures (ap not c.if-not-has_limits.true))));
    }

pub returns-in_err-event-clause-refused : goal.returns-in_err-event-clause-refused
returns-in_err-event-clause-refused c =
    let a = c.args in
    let s = (goal.at.returns-in_err-event-clause-refused c).Start in
    let p = err_from_is_err_and c.from_residual.result c.from_residual.ensures.1 in
    let r = c.in_err-event.field-0.0 in
    rw (p.1, p.2) (record {
      room = refl;
      finds = found-no (asks s) (number_of r) (lent a.block.now a.c a.out.now) (begun-fault a.block.now a.asked.instant.0 a.asked.event.now (number_of r) (counts_of a.c) (asked s) refl refl c.in_err-event.ensures.means);
    })

pub invariant_of-panel-clause-sound : goal.invariant_of-panel-clause-sound
invariant_of-panel-clause-sound c = sound (goal.at.invariant_of-panel-clause-sound c).In_ok-event

pub answer-answered-requires : goal.answer-answered-requires
answer-answered-requires c =
    let l = (goal.at.answer-answered-requires c).In_ok-event in
    record { rest = rest l; shortened = c.in_ok-event.ensures.shortened; peer = c.event_peer.ensures; early = (reads l).early }

-- what the caller finds is what questions 10 to 14 find of the event
outcome : (c : After-answer-answered) → asks (goal.at.After-answer-answered c).Start
    ≡ answered (length c.args.out.now) (event_plan identifier (rooms_in (state_of c.open-opened.result.head c.args.block.now) c.event_peer.result c.args.asked.rooms.now) c.args.asked.instant.0 (event_size c.in_ok-event.event) (event_value c.in_ok-event.event) (state_of c.open-opened.result.head c.args.block.now) (counts_of c.args.c))
outcome c =
    let a = c.args in
    core-outcome a.block.now a.asked.event.now a.asked.rooms.now a.out.now (counts_of a.c) c.open-opened.result.head a.asked.instant.0 c.in_ok-event.event c.event_peer.result (reads (goal.at.After-answer-answered c).In_ok-event) c.open-opened.ensures.head c.in_ok-event.ensures.sized c.event_peer.ensures

pub returns-in_err-outcome-clause-refused : goal.returns-in_err-outcome-clause-refused
returns-in_err-outcome-clause-refused c =
    let a = c.args in
    let s = (goal.at.returns-in_err-outcome-clause-refused c).Start in
    let p = err_from_is_err_and c.from_residual-in_err-outcome.result c.from_residual-in_err-outcome.ensures.1 in
    let down = c.in_err-outcome.ensures.turned_down in
    let left = c.in_err-outcome.block-1-own.given.1.0 (sym (ap (λ (x : Panel). x.block.ghost_name) down.panel)) in
    rw (p.1, p.2) (record {
      room = refl;
      finds = found-same (asks s) (number_of c.in_err-outcome.field-0.0) a.block.now _ a.out.now _ a.c (outcome (goal.at.returns-in_err-outcome-clause-refused c).After-answer-answered ∙ down.number) (left ∙ ap (λ (x : Panel). x.block.now) down.panel) down.output;
    })

pub returns-clause-accepted : goal.returns-clause-accepted
returns-clause-accepted c =
    let a = c.args in
    let s = (goal.at.returns-clause-accepted c).Start in
    let q = c.answer-answered.new.panel in
    let t = state_of c.open-opened.result.head a.block.now in
    let done = c.in_ok-outcome.ensures.done in
    let goes = done.goes in
    let left = c.block-2-1.given.1.0 (sym goes.loan) in
    let kept : length c.block-2-1.given.0 ≡ length a.block.now = omega arith in
    let need = subst (λ (h : Head). block_need (state_of h a.block.now).limits ≤ length a.block.now) (sym c.open-opened.ensures.head) (long-of a.block.now (reads (goal.at.returns-clause-accepted c).In_ok-event).wholly) in
    record {
      room = refl;
      finds = found-yes (asks s) _ _ _ _ _ c.in_ok-outcome.outcome.length
          (outcome (goal.at.returns-clause-accepted c).After-answer-answered ∙ done-answered (length a.out.now) _ done.planned done.found (omega (arith, done.long, done.fits)))
          (record {
            number = refl;
            long = done.long;
            state = left-holds q.head q.block.now _ q.sound (subst (λ (ys : List ℕ). Stored q.head q.block.now ys) (sym left) c.store_head.ensures) t (rest (goal.at.returns-clause-accepted c).In_ok-event)
                (subst (λ (x : State). Keeps t x) (sym goes.state) done.keeps) (omega (arith, need, kept, ap length left, c.store_head.auto.block))
                ∙ ap Some goes.state;
            block_long = kept;
            counts = done.counts;
            fits = omega (arith, done.long, done.fits);
            output = done.output;
          });
    }
