-- The identifier read is the key of the missing message.
use Rattle.std.proofs.Common.{ℕ, ◌+◌, ◌*◌, ap, ◌∙◌, arith}
use Rattle.block.specs.View.{id_at}
use Rattle.block.proofs.MissingLaws.{missing-below, place-asked, list-within, missed-id}
use Rattle.block.proofs.panel.View.missing_id.Goals as goal

pub overflow_mul-at : goal.overflow_mul-at
overflow_mul-at c = let v = c.args.self.now in omega (arith, (place-asked v.head.now v.block.now c.args.missing v.sound c.requires).1)

pub overflow_add-at : goal.overflow_add-at
overflow_add-at c = let v = c.args.self.now in omega (arith, (place-asked v.head.now v.block.now c.args.missing v.sound c.requires).1, v.sound.fit.ceilings, c.start.ensures)

pub load_id-requires : goal.load_id-requires
load_id-requires c =
    let v = c.args.self.now in
    omega (arith, list-within v.head.now v.block.now v.sound c.args.missing (missing-below v.head.now v.block.now c.args.missing c.requires), c.start.ensures)

pub returns : goal.returns
unfolding id_at
returns c =
    let v = c.args.self.now in
    c.load_id.ensures ∙ ap (λ (a : ℕ). id_at (a + 129 * c.args.missing) v.block.now) c.start.ensures ∙ missed-id v.head.now v.block.now v.sound c.args.missing (missing-below v.head.now v.block.now c.args.missing c.requires)
