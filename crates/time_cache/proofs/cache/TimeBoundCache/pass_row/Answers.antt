-- `pass_row`: nothing leaves with the row, or its entry left before, or it leaves now and is told.
use Rattle.std.proofs.Common.{ℕ, arith, subst, Option}
use Rattle.time_cache.specs.Gone.{TakesIs, TakesAt}
use Rattle.time_cache.proofs.PassedLaws.{passed-none, passed-gone, passed-yes}
use Rattle.time_cache.proofs.cache.TimeBoundCache.pass_row.Goals as goal
use Rattle.time_cache.proofs.cache.TimeBoundCache.pass_row.Goals.{In-Some}

-- the entry that it takes out
taken : (c : In-Some) → TakesAt c.args.self c.args.block.now c.args.row c.in-Some.entry
taken c = subst (λ (f : Option ℕ). TakesIs c.args.self c.args.block.now c.args.row f) c.in-Some.is c.taken.ensures

pub returns-in_default : goal.returns-in_default
returns-in_default c told passed =
    let a = c.args in
    passed-none a.self a.block.now a.gone.now told a.row c.requires.lies.1 passed c.requires.row
    (subst (λ (f : Option ℕ). TakesIs a.self a.block.now a.row f) c.in_default.is c.taken.ensures)

pub returns-then-gone-entry-ne0 : goal.returns-then-gone-entry-ne0
returns-then-gone-entry-ne0 c told passed =
    let a = c.args in
    passed-gone a.self a.block.now a.gone.now told a.row c.requires.lies.1 passed c.requires.row (taken (goal.at.returns-then-gone-entry-ne0 c).In-Some) (omega (arith, c.if-gone-entry-ne0.true))

pub returns : goal.returns
returns c told passed =
    let a = c.args in
    passed-yes a.self a.block.now a.gone.now told a.row c.requires.lies.1 passed c.requires.row c.in-Some.entry (taken (goal.at.returns c).In-Some) (omega (arith, c.if-gone-entry-ne0.false))
