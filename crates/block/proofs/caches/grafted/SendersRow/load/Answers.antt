-- `load`: each value behind its flag.
use Rattle.block.proofs.Words.{ap, ◌∙◌, get_or}
use Rattle.block.specs.View.{half_at, flag_of, only_if}
use Rattle.storage.specs.Rows.Rows.{field_of}
use Rattle.block.specs.MissingSteps.{hop}
use Rattle.block.specs.Caches.GraftSteps.{first_value}
use Rattle.block.proofs.GraftsLaws.ReadLaws.{first-if}
use Rattle.block.proofs.caches.grafted.SendersRow.load.Goals as goal

pub returns : goal.returns
unfolding field_of half_at
returns c =
    let bytes = c.args.bytes.now in
    let flag = flag_of (get_or bytes 0 0) in
    let first = ap first_value c.behind.ensures ∙ first-if flag _ ∙ (λ k. only_if flag (hop (c.load-sender.ensures k) (c.load2.ensures.0 k))) in
    let kept = c.behind-2.ensures ∙ (λ k. only_if (flag_of (get_or bytes 11 0)) (c.load-peer.ensures k)) in
    λ k. (first k, kept k)
