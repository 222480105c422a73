-- `tables::same_words`: the first i bytes agree. The measure is what is left.
use Rattle.std.proofs.Common.{sym, ◌∙◌, arith}
use Rattle.alike.proofs.Lists.{same_word}
use Rattle.alike.proofs.tables.same_words.Goals as goal

pub loop-i-preserved : goal.loop-i-preserved
loop-i-preserved c = (
  omega arith,
  same_word c.loop-i.i c.args.a.now c.args.b.now (λ k. omega (arith, c.shared_slice_known-1.given k)) (λ k. omega (arith, c.shared_slice_known-2-1.given k)) (omega arith) (omega arith)
      (sym c.load.ensures ∙ c.if-load.false ∙ c.load-in-loop-i.ensures) c.loop-i.invariant.1,
)
