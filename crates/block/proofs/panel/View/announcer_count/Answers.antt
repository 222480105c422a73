-- The byte read is the number of announcers.
use Rattle.std.proofs.Common.{sym, ap, ◌∙◌, subst, ℕ, ◌≤◌, get_or, arith}
use Rattle.block.proofs.MissingLaws.{missing-below, list-within, missed-count, missed-few}
use Rattle.block.proofs.panel.View.announcer_count.Goals as goal

pub count-requires : goal.count-requires
count-requires c =
    let v = c.args.self.now in
    omega (arith, list-within v.head.now v.block.now v.sound c.args.missing (missing-below v.head.now v.block.now c.args.missing c.requires), c.announcers_at.ensures)

pub returns : goal.returns
returns c =
    let v = c.args.self.now in
    let i = c.args.missing in
    let q = missing-below v.head.now v.block.now i c.requires in
    let e = c.count.ensures.0 ∙ ap (λ (n : ℕ). get_or v.block.now n 0) c.announcers_at.ensures in
    (e ∙ missed-count v.head.now v.block.now v.sound i q, subst (λ (n : ℕ). n ≤ 32) (sym e) (missed-few v.head.now v.block.now v.sound i q))
