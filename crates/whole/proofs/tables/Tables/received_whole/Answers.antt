-- `received_whole`: the test of the time cache in tables 2 and 3.
use Rattle.whole.proofs.Words.{◌≡◌, ap, ◌∙◌, List, ℕ, arith, lit<, sound, limits_of, nothing_of, Fit, Head}
use Rattle.time_cache.specs.declared.cache.TimeBoundCache.{TimeBoundCache}
use Rattle.block.specs.View.{state_of, received_in}
use Rattle.block.specs.TimeCaches.{received_cache}
use Rattle.whole.specs.Parts.{received_whole}
use Rattle.whole.proofs.LentLaws.{cache-sound}
use Rattle.whole.proofs.tables.Tables.received_whole.Goals as goal

told : (h : Head) (xs : List ℕ) → Fit h xs → sound (received_cache h) xs ≡ received_whole h xs
unfolding received_whole state_of received_in
told h xs fit = cache-sound (limits_of h.limits) xs nothing_of 2 2 h.live.received 3 40 h.live.received_rows (lit< tt) (omega arith) (lit< tt) (omega arith)

pub returns : goal.returns
returns c =
    c.is_sound.ensures ∙ ap (λ (t : TimeBoundCache). sound t c.args.self.now.block.now) c.tables.ensures.at ∙ told c.args.self.now.head.now c.args.self.now.block.now c.args.self.now.fit
