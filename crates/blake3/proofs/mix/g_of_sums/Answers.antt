-- `g_of_sums`: its two halves with no words are those of G (`first-half`, `g-of-sums`).
use Rattle.std.proofs.Common.{◌≡◌, ap, ◌∙◌}
use Rattle.blake3.specs.Blake3.{Four, sum, half}
use Rattle.blake3.specs.Lanes.{lane_at, four_at}
use Rattle.blake3.proofs.Sums.{of_sum, no_words, first-half, g-of-sums}
use Rattle.blake3.proofs.mix.g_of_sums.Goals as goal

pub returns : goal.returns
returns c j a x y l ea eb =
    let v = c.args.v in
    let q : Four = record { a = a; b = lane_at v 1 j; c = lane_at v 2 j; d = lane_at v 3 j } in
    let zero_word = no_words j l in
    let first : four_at j c.half.result ≡ half 16 12 x q =
    c.half.ensures j l ∙ (λ i. half 16 12 (zero_word i) (of_sum (ea i) q)) ∙ first-half x q in
    let second = c.add-a.ensures j l ∙ ap (λ n. sum n q.b) eb in
    c.half-2.ensures j l ∙ (λ i. half 8 7 (zero_word i) (of_sum (second i) (first i))) ∙ g-of-sums x y q
