-- `read_event` meets its contract: questions 5 to 9 and 23.
use Rattle.machine.proofs.Words.{◌≡◌, ap, ◌∙◌, refl, arith, ◌^◌, not, le-leb, lt-leb}
use Rattle.postcard.proofs.FieldBack.{bytes-each}
use Rattle.std.proofs.lemmas.Result.{err_from_is_err_and}
use Rattle.postcard.specs.Decode.{decode_event}
use Rattle.machine.specs.Core.{begun}
use Rattle.machine.proofs.CoreLaws.{read-shortened}
use Rattle.steps.proofs.SettledLaws.SizeLaws.{yes, no}
use Rattle.machine.proofs.event.read_event.Goals as goal
use Rattle.machine.proofs.event.read_event.Goals.{Else-instant}

pub returns-then-not-is_whole_of-clause-means : goal.returns-then-not-is_whole_of-clause-means
unfolding begun
returns-then-not-is_whole_of-clause-means c = rw (no c.is_whole_of.ensures (ap not c.if-not-is_whole_of.true)) refl

pub returns-then-instant-clause-means : goal.returns-then-instant-clause-means
unfolding begun
returns-then-instant-clause-means c = rw (yes c.is_whole_of.ensures (ap not c.if-not-is_whole_of.false), lt-leb c.args.instant.0 (2 ^ 62) c.if-instant.true) refl

-- questions 5 and 6 were answered yes
begins : (c : Else-instant) → begun c.args.block.now c.args.instant.0 c.args.event.now ≡ decode_event c.args.event.now
unfolding begun
begins c = rw (yes c.is_whole_of.ensures (ap not c.if-not-is_whole_of.false), le-leb c.args.instant.0 (2 ^ 62) c.if-instant.false) refl

pub returns-in_err-decode_event-clause-means : goal.returns-in_err-decode_event-clause-means
returns-in_err-decode_event-clause-means c =
    let p = err_from_is_err_and c.from_residual.result c.from_residual.ensures.1 in
    rw (p.1, p.2) (begins (goal.at.returns-in_err-decode_event-clause-means c).Else-instant ∙ c.in_err-decode_event.ensures.means)

pub returns-clause-means : goal.returns-clause-means
returns-clause-means c = begins (goal.at.returns-clause-means c).Else-instant ∙ c.in_ok-decode_event.ensures.means

pub returns-clause-shortened : goal.returns-clause-shortened
returns-clause-shortened c =
    let a = c.args in
    read-shortened a.event.now c.in_ok-decode_event.field-0 (bytes-each a.event.now (λ i. omega (arith, c.type_inv.event i))) c.in_ok-decode_event.ensures.means c.in_ok-decode_event.ensures.sized
