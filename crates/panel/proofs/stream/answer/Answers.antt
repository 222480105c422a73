-- `answer`: what was put at the start of the reply is the answer of the call.
use Rattle.std.proofs.Common.{◌∙◌, take, length, arith, length-take}
use native.Mathlib.Nat.{min-le_left}
use Rattle.panel.proofs.RecordsLaws.Replies.{wrote-first, answer-few}
use Rattle.panel.proofs.stream.answer.Goals as goal

pub returns-clause-answers : goal.returns-clause-answers
returns-clause-answers c =
    let w = c.call-said.ensures.answered in
    record { state = w.state; counts = w.counts; writes = wrote-first c.put_answer.ensures ∙ w.writes }

pub returns-clause-inside : goal.returns-clause-inside
returns-clause-inside c =
    let n = c.call-said.result.length in
    omega (arith, c.put_answer.ensures.place, answer-few c.call-said.result.number (take n c.call-said.new.out), length-take n c.call-said.new.out, min-le_left n (length c.call-said.new.out), c.call-said.ensures.inside, c.put_answer.array_long, c.told-out)
