-- The extent and the round are stored.
use Rattle.block.proofs.Words.{◌≡◌, ◌∙◌, ◌+◌, ◌*◌, arith, put, le_bytes}
use Rattle.block.specs.Layout.{place}
use Rattle.block.specs.View.{limits_of}
use Rattle.block.proofs.caches.contents.store_empty.Goals as goal

pub returns : goal.returns
returns c =
    let e = c.set_extent.ensures in
    let at : c.start.result + c.args.inserted.entry * 4 + 2 ≡ place (limits_of c.args.head.now.limits) 4 + (c.args.inserted.entry * 4 + 2) = omega (arith, c.start.ensures _ c.requires.fit.1) in
    record {
      bytes = e.bytes;
      long = e.long;
      holds = e.holds ∙ (λ k. (c.start_of-start.ensures k, 0));
      put = c.store_le.ensures ∙ (λ k. put (at k) (le_bytes 2 c.args.round.0) (e.put k));
    }
