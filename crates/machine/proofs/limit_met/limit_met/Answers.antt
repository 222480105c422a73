-- `limit_met`: questions 5 to 9 and 23, then the event.
use Rattle.machine.proofs.Words.{not, ap, sym, ◌∙◌, subst, event_value, state_of, Head, AtRest, Sound}
use Rattle.refusal.specs.Numbers.{number_of}
use Rattle.machine.specs.Core.{core_rooms}
use Rattle.machine.proofs.CoreLaws.{Reads, begun-reads, begun-5, rest-of}
use Rattle.steps.proofs.SettledLaws.SizeLaws.{no}
use Rattle.whole.proofs.WholeLaws.{no_limits}
use Rattle.machine.specs.Limit.{limit_told}
use Rattle.machine.proofs.LimitMetLaws.{found-in, begun-limit, core-limit}
use Rattle.machine.proofs.limit_met.limit_met.Goals as goal
use Rattle.machine.proofs.limit_met.limit_met.Goals.{In-Ok}

reads : (c : In-Ok) → Reads c.args.block.now c.args.asked.instant.0 c.args.asked.event.now (event_value c.in-Ok.event)
reads c = begun-reads c.args.block.now c.args.asked.instant.0 c.args.asked.event.now (event_value c.in-Ok.event) c.in-Ok.ensures.means

sound : (c : In-Ok) → Sound c.open-opened.result.head c.args.block.now
sound c = subst (λ (h : Head). Sound h c.args.block.now) (sym c.open-opened.ensures.head) (reads c).wholly.sound

pub invariant_of-view-clause-sound : goal.invariant_of-view-clause-sound
invariant_of-view-clause-sound c = sound (goal.at.invariant_of-view-clause-sound c).In-Ok

rest : (c : In-Ok) → AtRest (state_of c.open-opened.result.head c.args.block.now)
rest c =
    subst (λ (h : Head). AtRest (state_of h c.args.block.now)) (sym c.open-opened.ensures.head) (rest-of c.args.block.now (reads c).wholly)

pub event_limit_met-requires : goal.event_limit_met-requires
event_limit_met-requires c =
    let l = (goal.at.event_limit_met-requires c).In-Ok in
    record { rest = rest l; shortened = c.in-Ok.ensures.shortened; peer = c.event_peer.ensures; early = (reads l).early }

pub returns : goal.returns
returns c =
    let a = c.args in
    ap limit_told c.event_limit_met.ensures ∙ found-in _
    ∙ core-limit a.block.now a.asked.event.now a.asked.rooms.now c.open-opened.result.head a.asked.instant.0 c.in-Ok.event c.event_peer.result (reads (goal.at.returns c).In-Ok) c.open-opened.ensures.head c.in-Ok.ensures.sized c.event_peer.ensures

pub returns-then-not-has_limits : goal.returns-then-not-has_limits
returns-then-not-has_limits c =
    let a = c.args in
    sym (begun-limit a.block.now a.asked.instant.0 a.asked.event.now 5 (core_rooms a.block.now a.asked.event.now a.asked.rooms.now) (begun-5 a.block.now a.asked.instant.0 a.asked.event.now (no_limits a.block.now (no c.has_limits.ensures (ap not c.if-not-has_limits.true)))))

pub returns-in_default : goal.returns-in_default
returns-in_default c =
    let a = c.args in
    sym (begun-limit a.block.now a.asked.instant.0 a.asked.event.now (number_of c.in_default.field-0) (core_rooms a.block.now a.asked.event.now a.asked.rooms.now) c.in_default.ensures.means)
