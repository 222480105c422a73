-- `count_message`: by the kind of message.
use Rattle.std.proofs.Common.{◌≡◌, ◌^◌, ◌<◌, sym, ap, ◌∙◌, arith, true, false, Bool, ltb, lt-ltb, le-ltb}
use Rattle.protocol.specs.Handle.{one_payload, one_control}
use Rattle.protocol.specs.Answer.{counts_below}
use Rattle.whole.specs.Stats.{counts_of}
use Rattle.machine.specs.Core.{is_payload, counted_as}
use Rattle.machine.proofs.RunLaws.{stay-payload, stay-control}
use Rattle.machine.proofs.event.count_message.Goals as goal
use Rattle.machine.proofs.event.count_message.Goals.{After-is_payload}

-- whether the counts stay, of a payload and of another message
abbrev stays : After-is_payload → Bool → Bool
stays c b = counts_below (counted_as b (counts_of c.args.counts))

payload_stays : (c : After-is_payload) (b : Bool) → c.is_payload.result ≡ true → ltb c.args.counts.payload_messages_received 18446744073709551615 ≡ b → b ≡ stays c c.is_payload.result
unfolding counts_below one_payload
payload_stays c b e t =
    let q : c.args.counts.control_messages_received < 2 ^ 64 = omega arith in
    sym t ∙ stay-payload c.args.counts.payload_messages_received c.args.counts.control_messages_received q ∙ sym (ap (stays c) e)

control_stays : (c : After-is_payload) (b : Bool) → c.is_payload.result ≡ false → ltb c.args.counts.control_messages_received 18446744073709551615 ≡ b → b ≡ stays c c.is_payload.result
unfolding counts_below one_control
control_stays c b e t =
    let q : c.args.counts.payload_messages_received < 2 ^ 64 = omega arith in
    sym t ∙ stay-control c.args.counts.payload_messages_received c.args.counts.control_messages_received q ∙ sym (ap (stays c) e)

-- of the message
of_message : (c : After-is_payload) (b : Bool) → b ≡ stays c c.is_payload.result → b ≡ counts_below (counted_as (is_payload c.args.message) (counts_of c.args.counts))
of_message c b e = e ∙ ap (stays c) c.is_payload.ensures

pub returns-then-counts-eq18446744073709551615-clause-stay : goal.returns-then-counts-eq18446744073709551615-clause-stay
returns-then-counts-eq18446744073709551615-clause-stay c =
    let g = (goal.at.returns-then-counts-eq18446744073709551615-clause-stay c).After-is_payload in
    of_message g false (payload_stays g false c.if-is_payload.true (le-ltb _ _ (omega (arith, c.if-counts-eq18446744073709551615.true))))

pub returns-then-is_payload-clause-stay : goal.returns-then-is_payload-clause-stay
returns-then-is_payload-clause-stay c =
    let g = (goal.at.returns-then-is_payload-clause-stay c).After-is_payload in
    of_message g true (payload_stays g true c.if-is_payload.true (lt-ltb _ _ (omega (arith, c.if-counts-eq18446744073709551615.false))))

pub returns-then-is_payload-clause-counted : goal.returns-then-is_payload-clause-counted
unfolding one_payload
returns-then-is_payload-clause-counted c = ap (λ (b : Bool). counted_as b (counts_of c.args.counts)) (sym c.if-is_payload.true ∙ c.is_payload.ensures)

pub returns-then-counts-eq18446744073709551615-2-clause-stay : goal.returns-then-counts-eq18446744073709551615-2-clause-stay
returns-then-counts-eq18446744073709551615-2-clause-stay c =
    let g = (goal.at.returns-then-counts-eq18446744073709551615-2-clause-stay c).After-is_payload in
    of_message g false (control_stays g false c.if-is_payload.false (le-ltb _ _ (omega (arith, c.if-counts-eq18446744073709551615-2.true))))

pub returns-clause-stay : goal.returns-clause-stay
returns-clause-stay c =
    let g = (goal.at.returns-clause-stay c).After-is_payload in
    of_message g true (control_stays g true c.if-is_payload.false (lt-ltb _ _ (omega (arith, c.if-counts-eq18446744073709551615-2.false))))

pub returns-clause-counted : goal.returns-clause-counted
unfolding one_control
returns-clause-counted c = ap (λ (b : Bool). counted_as b (counts_of c.args.counts)) (sym c.if-is_payload.false ∙ c.is_payload.ensures)
