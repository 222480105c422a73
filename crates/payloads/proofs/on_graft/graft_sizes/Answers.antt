-- `graft_sizes` meets its contract: the record alone grows.
use Rattle.payloads.proofs.Words.{arith, ap, sym, ◌∙◌, ◌≡◌, ◌+◌, ℕ, length, settled, sizes_of, sized_recorded, shown, settled-up, settled-low, same_dropped}
use Rattle.postcard.specs.Values.{wanted_value}
use Rattle.payloads.specs.OnGraft.{after_graft}
use Rattle.payloads.proofs.OnGraftLaws.{graft-sizes, recorded-of}
use Rattle.payloads.proofs.on_graft.graft_sizes.Goals as goal

pub overflow_add-sizes : goal.overflow_add-sizes
overflow_add-sizes c =
    let s = shown c.args.view.now in
    let now = c.args.call.now.instant.0 in
    omega (arith, c.graft_notes.ensures.few, recorded-of (settled now s) c.sizes_then-sizes.result c.sizes_then-sizes.ensures, ap length (same_dropped now s), c.requires.0.consistent.core.within.in_all)

pub returns : goal.returns
returns c =
    let s = shown c.args.view.now in
    let now = c.args.call.now.instant.0 in
    let t = settled now s in
    let z = c.sizes_then-sizes.result in
    let n : z.dropped + c.graft_notes.result ≡ length (after_graft c.args.call.now c.args.link c.args.wanted t).dropped = omega (arith, recorded-of t z c.sizes_then-sizes.ensures, c.graft_notes.ensures.notes) in
    ap (sized_recorded (z.dropped + c.graft_notes.result)) c.sizes_then-sizes.ensures
    ∙ ap (λ (k : ℕ). sized_recorded k (sizes_of t)) n
    ∙ sym (graft-sizes c.args.call.now c.args.link t (settled-up now s c.requires.0) (settled-low now s c.args.link c.requires.1) (wanted_value c.args.wanted))
