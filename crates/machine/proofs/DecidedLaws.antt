-- What the code computes is what the definitions say (`decided-ask`), also with another list of rooms that tells the same of the peers that a call can reach (`plan-rooms`).
use Rattle.machine.proofs.Words.{arith, ℕ, ◌≡◌, refl, sym, ap, ◌∙◌, true, not, List, Result, State, Counts, Run, Room, begin, whole, message_fits, counts_stay, state_after, too_far_before}
use Rattle.postcard.specs.Message.{Event}
use Rattle.protocol.specs.Handle.{handle}
use Rattle.protocol.specs.Answer.{Call, outcome, output_of, last_two, ask_of}
use Rattle.decide.specs.Rooms.{first_room}
use Rattle.decide.proofs.Decide.{decide-12, same-rooms}
use Rattle.decide.proofs.EachEvent.{decide-actions}
use Rattle.decide.proofs.StateAfterLaws.{decide-state}
use Rattle.decide.proofs.RoomsSteps.{with_rooms}
use Rattle.decide.proofs.RoomsCall.{reached}
use Rattle.decide.proofs.Counted.{decide-counts}
use Rattle.machine.specs.Decided.{size_fits, Planned, unless, answered, behind, after_call, event_plan, decided}
use Rattle.machine.specs.Limit.{state_limit}
use Rattle.machine.specs.declared.event.Stop.{Stop}
use Rattle.machine.proofs.LimitLaws.{limit-fits}

-- what a run leaves
left_of : Run → Planned
left_of r = record { state = r.state; counts = r.counts; bytes = output_of r }

run_plan : Run → Result Planned Stop
run_plan r = unless (state_limit r.state) (left_of r)

-- (13), (14)
last-planned : (output : ℕ) (e : Event) (r : Run) → outcome (last_two output e r) ≡ answered output (run_plan r)
unfolding last_two outcome run_plan left_of
last-planned output e r = grind (arith, limit-fits r.state)

module _ (hash : List ℕ → ℕ) (rooms : List Room) (now : ℕ) (e : Event) (s : State) (c : Counts) where
  run-after : whole s ≡ true → run_plan (handle hash now e (begin s c rooms)) ≡ unless (state_limit (state_after hash rooms now e s)) (after_call hash rooms now e s c)
  unfolding run_plan left_of output_of
  run-after w = rw (decide-actions hash now e s c rooms w, decide-state hash now e s c rooms w, decide-counts hash now e s c rooms w) refl

-- with other rooms
pub plan-rooms : (hash : List ℕ → ℕ) (rooms rooms' : List Room) (now size : ℕ) (e : Event) (s : State) (c : Counts) → whole s ≡ true →
    ((p : ℕ) → reached s e p ≡ true → first_room p rooms' ≡ first_room p rooms) → event_plan hash rooms' now size e s c ≡ event_plan hash rooms now size e s c
unfolding event_plan
plan-rooms hash rooms rooms' now size e s c w h =
    ap (behind (not (size_fits s.settings.max_message_size size e)) (not (counts_stay e c)) (too_far_before hash now e s))
    (sym (run-after hash rooms' now e s c w) ∙ ap run_plan (same-rooms hash now e s c rooms rooms' w h) ∙ same ∙ run-after hash rooms now e s c w)
  where
    same : run_plan (with_rooms (handle hash now e (begin s c rooms')).rooms (handle hash now e (begin s c rooms))) ≡ run_plan (handle hash now e (begin s c rooms))
    same = unfold run_plan left_of output_of in refl

-- questions 10 to 14
pub decided-ask : (hash : List ℕ → ℕ) (s : State) (c : Counts) (k : Call) (e : Event) (size : ℕ) → whole s ≡ true → message_fits s.settings.max_message_size k.event e ≡ size_fits s.settings.max_message_size size e →
    outcome (ask_of hash s c k e) ≡ decided hash k.rooms k.now size e s c k.output
unfolding ask_of event_plan outcome
decided-ask hash s c k e size w fit =
    let run : Run = handle hash k.now e (begin s c k.rooms) in
    grind (arith, fit, decide-12 hash k.now e s c k.rooms w, last-planned k.output e run ∙ ap (answered k.output) (run-after hash k.rooms k.now e s c w))
