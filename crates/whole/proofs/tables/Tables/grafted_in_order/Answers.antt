-- `grafted_in_order`: the test of the time cache in tables 7 and 8.
use Rattle.whole.proofs.Words.{◌≡◌, ap, ◌∙◌, List, ℕ, arith, lit<, sound, limits_of, grafts_of, Fit, Head}
use Rattle.storage.specs.Lists.Map.{keys}
use Rattle.time_cache.specs.declared.cache.TimeBoundCache.{TimeBoundCache}
use Rattle.block.specs.View.{state_of, grafted_in}
use Rattle.block.specs.TimeCaches.{grafted_cache}
use Rattle.whole.specs.Parts.{grafted_in_order}
use Rattle.whole.proofs.LentLaws.{cache-sound}
use Rattle.whole.proofs.tables.Tables.grafted_in_order.Goals as goal

told : (h : Head) (xs : List ℕ) → Fit h xs → sound (grafted_cache h) xs ≡ grafted_in_order h xs
unfolding state_of grafted_in
told h xs fit = cache-sound (limits_of h.limits) xs (grafts_of (keys (state_of h xs).links)) 7 119 h.live.grafted 8 40 h.live.grafted_rows (lit< tt) (omega arith) (lit< tt) (omega arith)

pub returns : goal.returns
returns c =
    c.is_sound.ensures ∙ ap (λ (t : TimeBoundCache). sound t c.args.self.now.block.now) c.tables.ensures.at ∙ told c.args.self.now.head.now c.args.self.now.block.now c.args.self.now.fit
