-- `close`: unread bytes are a record that is cut, and the end is written; where there are none, nothing is.
use Rattle.std.proofs.Common.{sym, subst, ◌∙◌, List, ℕ}
use Rattle.std.proofs.lemmas.Result.{on_ok_weaker, on_err_weaker}
use Rattle.std.specs.Io.KnownBytes.{Appends}
use Rattle.std.proofs.KnownBytes.{Appends-nil}
use Rattle.panel.specs.Writing.{AppendsFront}
use Rattle.panel.proofs.RecordsLaws.Replies.{closing-empty, closing-cut}
use Rattle.panel.proofs.stream.close.Goals as goal

pub returns-then-is_empty-clause-ok : goal.returns-then-is_empty-clause-ok
returns-then-is_empty-clause-ok g c =
    let held = g.W.Write.contents c.args.output.now in
    subst (λ (x : List ℕ). Appends held held x) (sym (closing-empty c.args.unread.now (sym c.is_empty.ensures ∙ c.if-is_empty.true))) (Appends-nil held)

pub returns-clause-ok : goal.returns-clause-ok
returns-clause-ok g c =
    let held = g.W.Write.contents c.args.output.now in
    let held' = g.W.Write.contents c.write_on.new.output in
    on_ok_weaker c.write_on.result (subst (λ (x : List ℕ). Appends held held' x) (sym (closing-cut c.args.unread.now (sym c.is_empty.ensures ∙ c.if-is_empty.false)))) c.write_on.ensures.ok

pub returns-clause-err : goal.returns-clause-err
returns-clause-err g c =
    let held = g.W.Write.contents c.args.output.now in
    let held' = g.W.Write.contents c.write_on.new.output in
    on_err_weaker c.write_on.result (subst (λ (x : List ℕ). AppendsFront held held' x) (sym (closing-cut c.args.unread.now (sym c.is_empty.ensures ∙ c.if-is_empty.false)))) c.write_on.ensures.err
