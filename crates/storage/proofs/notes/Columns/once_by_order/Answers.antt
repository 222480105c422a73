-- `once_by_order`: every number of a row is below 256.
use Rattle.std.proofs.Common.{◌≡◌, refl, subst, ℕ, arith}
use Rattle.std.proofs.lemmas.List.{length-replicate}
use Rattle.storage.proofs.NotesLaws.Walks.{heads-start, chained-start}
use Rattle.storage.proofs.NotesLaws.Links.{Numbers, OnceBelow, numbers-start, once-all}
use Rattle.storage.proofs.notes.Columns.once_by_order.Goals as goal

pub loop-i-init : goal.loop-i-init
loop-i-init c = (
  heads-start 256 _ _ refl (length-replicate {A = ℕ} 256 0),
  chained-start _ _,
  length-replicate {A = ℕ} 4096 0,
  numbers-start c.args.self.links.now,
)

pub returns-clause-told : goal.returns-clause-told
returns-clause-told c =
    let cs = c.args.self.links.now in
    let b = c.args.self.rows.now in
    let i : c.loop-i.i ≡ c.args.n = omega (arith, c.loop-i.auto.i-end, c.loop-i-test.false) in
    let l : c.loop-link.link ≡ 256 = omega (arith, c.loop-link.auto.link-end, c.loop-link-test.false) in
    once-all cs b c.args.n (subst (λ (v : ℕ). Numbers cs v) i c.loop-i.invariant.3) (subst (λ (v : ℕ). OnceBelow cs b c.args.n v) l c.loop-link.invariant)
