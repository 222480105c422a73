-- `dropped_few`: how often each number of table 13 stands.
use Rattle.whole.proofs.Words.{◌≡◌, sym, ap, ◌∙◌, subst, List, ℕ, ◌+◌, ◌-◌, arith, lit<, take, drop, Below, below_of, limits_of, Fit, Head}
use Rattle.block.specs.Layout.{place}
use Rattle.whole.specs.Parts.{table_of, few}
use Rattle.whole.proofs.LentLaws.{bytes-lent}
use Rattle.whole.proofs.RecordLaws.{record-few}
use Rattle.whole.proofs.tables.Tables.dropped_few.Goals as goal

-- the numbers as they are lent
lent : (h : Head) (xs : List ℕ) (a : ℕ) → Fit h xs → a ≡ place (limits_of h.limits) 13 → take (a + h.live.dropped - a) (drop a xs) ≡ take h.live.dropped (table_of h 13 xs)
lent h xs a fit e = bytes-lent (limits_of h.limits) xs 13 h.live.dropped a (lit< tt) (omega (arith, fit.within.dropped)) e

pub few_each-requires : goal.few_each-requires
few_each-requires c =
    let h = c.args.self.now.head.now in
    let xs = c.args.self.now.block.now in
    let fit = c.args.self.now.fit in
    let at = c.start-at in
    let b = below_of h.live.links (take h.live.dropped (table_of h 13 xs)) c.requires.named in
    subst (λ (l : List ℕ). Below 32 l) (sym (lent h xs at.result fit at.ensures)) (record { below = λ i q. omega (arith, b.below i q, fit.within.links, fit.ceilings.N) })

pub returns : goal.returns
returns c =
    let h = c.args.self.now.head.now in
    let xs = c.args.self.now.block.now in
    let at = c.start-at in
    c.few_each.ensures ∙ ap few (lent h xs at.result c.args.self.now.fit at.ensures) ∙ record-few h xs c.args.self.now.fit c.requires.links c.requires.named
