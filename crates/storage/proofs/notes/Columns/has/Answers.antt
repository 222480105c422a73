-- `has`: the second test tells.
use Rattle.std.proofs.Common.{◌≡◌, sym, ◌∙◌, Bool, true, false, ℕ, eqb, eqb-true}
use borrow.Author.Tests.{eqb-false}
use Rattle.storage.specs.Rows.Ident.{id_of}
use Rattle.storage.specs.Buckets.{id_at, TellsBoth}
use Rattle.storage.proofs.notes.Columns.has.Goals as goal

told : (a l x y : ℕ) (r : Bool) → a ≡ l → r ≡ eqb x y → TellsBoth a l x y r
told a l x y true e t = (e, eqb-true x y (sym t))
told a l x y false e t = λ _ s. eqb-false x y (sym t) s

pub returns-then-self-p : goal.returns-then-self-p
unfolding id_at
returns-then-self-p c = told _ _ _ _ _ c.if-self-p.true (c.eq.ensures ∙ (λ k. eqb (c.load_id.ensures k) (id_of c.args.pair.id)))
