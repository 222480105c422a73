-- Start and length are written into the row.
use Rattle.block.proofs.Words.{◌≡◌, ap, ◌∙◌, ℕ, ◌+◌, ◌-◌, ◌*◌, arith, length, take, drop, put, loan-put}
use Rattle.std.proofs.Common.{length-drop, length-take-le}
use Rattle.block.proofs.caches.contents.set_extent.Goals as goal

pub returns : goal.returns
returns c =
    let f = c.requires.fit in
    let xs = c.args.block.now in
    let zs = c.store.new.bytes in
    let a : ℕ = c.start.result + (48 * c.args.row + 40) in
    let at = c.start.ensures _ f.1 in
    let l8 : length (take (a + 8 - a) (drop a xs)) ≡ a + 8 - a = length-take-le (a + 8 - a) (drop a xs) (omega (arith, at, length-drop a xs, f.0.long, f.0.within.cached_rows, c.requires.there)) in
    let long : length zs ≡ a + 8 - a = c.store.auto.bytes ∙ l8 in
    record { bytes = zs; long = omega (arith, long); holds = c.store.ensures; put = loan-put a (a + 8 - a) zs xs long ∙ ap (λ (n : ℕ). put n zs xs) (omega (arith, at)) }
