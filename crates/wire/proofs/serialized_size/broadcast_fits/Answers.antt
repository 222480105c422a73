-- `broadcast_fits`: the test without the sum that could wrap is the test of the size (`fits_after`).
use Rattle.std.proofs.Common.{◌≡◌, sym, ap, ◌∙◌, ℕ, ◌+◌, arith, leb}
use borrow.Author.Tests.{lt-leb}
use Rattle.postcard.specs.Number.{number_length}
use Rattle.postcard.specs.Sizes.{gossip_size}
use Rattle.postcard.proofs.Lengths.{number-few, fits_after}
use Rattle.wire.proofs.serialized_size.broadcast_fits.Goals as goal

-- the size is the prefix and the content
sized : (len prefix : ℕ) → prefix ≡ number_length len → gossip_size len ≡ 37 + prefix + len
unfolding gossip_size
sized len prefix e = omega (arith, e)

pub overflow_add-prefix : goal.overflow_add-prefix
overflow_add-prefix c = omega (arith, number-few c.args.len, c.number_size-prefix.ensures)

pub returns-then-max-prefix : goal.returns-then-max-prefix
returns-then-max-prefix c =
    sym (lt-leb (gossip_size c.args.len) c.args.max
    (omega (arith, sized c.args.len c.number_size-prefix.result c.number_size-prefix.ensures, c.if-max-prefix.true)))

pub returns : goal.returns
returns c =
    let p : ℕ = 37 + c.number_size-prefix.result in
    fits_after c.args.len p c.args.max c.if-max-prefix.false
    ∙ ap (λ (n : ℕ). leb n c.args.max) (sym (sized c.args.len c.number_size-prefix.result c.number_size-prefix.ensures))
