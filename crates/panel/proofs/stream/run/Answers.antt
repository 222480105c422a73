-- `run`: each record is answered, and where the input ends, or no record follows, the end is written; where a read or a write fails, what was written is a front.
use Rattle.std.proofs.Common.{inl, inr, refl, ap, sym, subst, ◌∙◌, List, ℕ}
use Rattle.std.proofs.lemmas.Result.{on_ok_weaker, on_err_weaker}
use Rattle.std.specs.Io.KnownBytes.{Appends}
use Rattle.panel.specs.Records.Reading.{Whole, Never, Bad}
use Rattle.panel.specs.Records.Running.{closing, end_bytes}
use Rattle.panel.specs.Writing.{AppendsFront}
use Rattle.panel.proofs.Streams.{Paced, paced-start, paced-answered, paced-read, paced-long, paced-as, sofar-read, sofar-unread, sofar-cut, sofar-never, sofar-bad, sofar-ends, sofar-closes, sofar-stops, none-read, whole-front, on_err_always}
use Rattle.panel.proofs.stream.run.Goals.{in-Whole+in_ok-write_on-in-Whole, in-Cut+in-Ok}
use Rattle.panel.proofs.stream.run.Goals as goal

pub records-init : goal.records-init
records-init g c =
    let start = g.R.Read.remaining c.args.input.now in
    let held = g.W.Write.contents c.args.output.now in
    subst (λ (u : List ℕ). Paced 0 c.start-panel.result.past.list u start start held held) (sym c.new-unread.ensures) (paced-start start held c.start-panel.ensures)

pub returns-in_err-write_on-in-Whole-clause-err : goal.returns-in_err-write_on-in-Whole-clause-err
returns-in_err-write_on-in-Whole-clause-err g c =
    on_err_always c.from_residual.result
    (sofar-cut c.records.invariant.sofar (subst (λ (b : List ℕ). Whole b c.in-Whole.instant.0 c.in-Whole.event.now c.in-Whole.used) c.bytes.ensures c.in-Whole.ensures) c.answer-n.ensures.answers c.in_err-write_on-in-Whole.ensures.err)

pub returns-in-Ok-eq0-clause-ok : goal.returns-in-Ok-eq0-clause-ok
returns-in-Ok-eq0-clause-ok g c =
    on_ok_weaker c.close.result (λ a.
    sofar-closes _ _ _ _ _ _ c.records.invariant.sofar (subst Never c.bytes.ensures c.in-Cut.ensures.yet) c.in-Ok-eq0.ensures.ok c.in-Ok-eq0.field-0-test
    (subst (λ (u : List ℕ). Appends (g.W.Write.contents c.records.output) (g.W.Write.contents c.close.new.output) (closing u)) c.bytes-in-Ok-eq0.ensures a))
    c.close.ensures.ok

pub returns-in-Ok-eq0-clause-err : goal.returns-in-Ok-eq0-clause-err
returns-in-Ok-eq0-clause-err g c =
    let came = c.in-Ok-eq0.ensures.ok in
    on_err_weaker c.close.result (λ a.
    sofar-never (sofar-read c.records.invariant.sofar came) (subst Never (sym (none-read came c.in-Ok-eq0.field-0-test)) (subst Never c.bytes.ensures c.in-Cut.ensures.yet))
    (subst (λ (u : List ℕ). AppendsFront (g.W.Write.contents c.records.output) (g.W.Write.contents c.close.new.output) (closing u)) c.bytes-in-Ok-eq0.ensures a))
    c.close.ensures.err

pub returns-in_err-close-in-Err-clause-err : goal.returns-in_err-close-in-Err-clause-err
returns-in_err-close-in-Err-clause-err g c =
    on_err_always c.from_residual-in_err-close-in-Err.result
    (sofar-never (sofar-unread c.records.invariant.sofar c.in-Err.ensures.untaken) (subst Never c.bytes.ensures c.in-Cut.ensures.yet)
    (subst (λ (u : List ℕ). AppendsFront (g.W.Write.contents c.records.output) (g.W.Write.contents c.close-in-Err.new.output) (closing u)) (c.bytes-in-Err.ensures ∙ c.in-Err.ensures.same) c.in_err-close-in-Err.ensures.err))

pub returns-in-Err-clause-err : goal.returns-in-Err-clause-err
returns-in-Err-clause-err g c =
    sofar-never (sofar-unread c.records.invariant.sofar c.in-Err.ensures.untaken) (subst Never c.bytes.ensures c.in-Cut.ensures.yet)
    (whole-front (subst (λ (u : List ℕ). Appends (g.W.Write.contents c.records.output) (g.W.Write.contents c.close-in-Err.new.output) (closing u)) (c.bytes-in-Err.ensures ∙ c.in-Err.ensures.same) c.in_ok-close-in-Err.ensures.ok))

pub returns-in-Bad-clause-ok : goal.returns-in-Bad-clause-ok
unfolding end_bytes
returns-in-Bad-clause-ok g c = on_ok_weaker c.write_on-in-Bad.result (sofar-stops _ _ _ _ _ c.records.invariant.sofar (subst Bad c.bytes.ensures c.in-Bad.ensures)) c.write_on-in-Bad.ensures.ok

pub returns-in-Bad-clause-err : goal.returns-in-Bad-clause-err
unfolding end_bytes
returns-in-Bad-clause-err g c = on_err_weaker c.write_on-in-Bad.result (sofar-bad c.records.invariant.sofar (subst Bad c.bytes.ensures c.in-Bad.ensures)) c.write_on-in-Bad.ensures.err

pub records-preserved : goal.records-preserved
records-preserved g c =
    elim c.match-read_record.branch [
      | in-Whole+in_ok-write_on-in-Whole w ↦
          paced-as refl (ap (λ p. p.past.list) w.panel-is) (w.unread-is ∙ w.skip.ensures) (ap g.R.Read.remaining w.input-is) (ap g.W.Write.contents w.output-is)
          (paced-answered c.records.invariant (subst (λ (b : List ℕ). Whole b w.in-Whole.instant.0 w.in-Whole.event.now w.in-Whole.used) c.bytes.ensures w.in-Whole.ensures) w.answer-n.ensures.answers w.in_ok-write_on-in-Whole.ensures.ok)
      | in-Cut+in-Ok w ↦
          paced-as refl (ap (λ p. p.past.list) w.panel-is) w.unread-is (ap g.R.Read.remaining w.input-is) (ap g.W.Write.contents w.output-is) (paced-read c.records.invariant w.in-Ok.ensures.ok w.in-Ok.field-0-test.1)
    ]

pub returns-clause-err : goal.returns-clause-err
returns-clause-err g c = sofar-ends c.records.invariant.sofar

pub returns-clause-cause : goal.returns-clause-cause
returns-clause-cause g c = inr (inr (paced-long c.records.invariant c.records-test.false, c.new.ensures.kind))

pub returns-in-Err-clause-cause : goal.returns-in-Err-clause-cause
returns-in-Err-clause-cause g c = inl c.in-Err.ensures.cause
