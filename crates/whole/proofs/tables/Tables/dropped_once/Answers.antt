-- `dropped_once`: each note of tables 13 and 14 stands once.
use Rattle.whole.proofs.Words.{subst, List, ℕ, ◌-◌, arith, lit<, length, take, drop, limits_of}
use Rattle.storage.specs.Buckets.{TellsOnce}
use Rattle.whole.proofs.LentLaws.{bytes-lent, rows-lent}
use Rattle.whole.proofs.RecordLaws.{record-once}
use Rattle.whole.proofs.tables.Tables.dropped_once.Goals as goal

pub returns : goal.returns
returns c =
    let h = c.args.self.now.head.now in
    let xs = c.args.self.now.block.now in
    let l = limits_of h.limits in
    let n = h.live.dropped in
    let fit = c.args.self.now.fit in
    let at = c.start-at in
    let rows_at = c.start-rows_at in
    record-once h xs fit c.requires.links c.requires.named (take (length xs - rows_at.result) (drop rows_at.result xs))
    (rows-lent l xs 14 34 n rows_at.result (lit< tt) (omega (arith, fit.within.dropped)) rows_at.ensures) c.once.result
    (subst (λ (ns : List ℕ). TellsOnce ns (take (length xs - rows_at.result) (drop rows_at.result xs)) n c.once.result) (bytes-lent l xs 13 n at.result (lit< tt) (omega (arith, fit.within.dropped)) at.ensures) c.once.ensures)
