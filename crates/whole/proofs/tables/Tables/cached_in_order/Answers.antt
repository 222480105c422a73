-- `cached_in_order`: the test of the time cache in tables 4 and 5.
use Rattle.whole.proofs.Words.{◌≡◌, ap, ◌∙◌, List, ℕ, arith, lit<, sound, limits_of, cached_of, Fit, Head}
use Rattle.time_cache.specs.declared.cache.TimeBoundCache.{TimeBoundCache}
use Rattle.block.specs.View.{state_of, cached_in}
use Rattle.block.specs.TimeCaches.{cached_cache}
use Rattle.whole.specs.Parts.{table_of, cached_in_order}
use Rattle.whole.proofs.LentLaws.{cache-sound}
use Rattle.whole.proofs.tables.Tables.cached_in_order.Goals as goal

told : (h : Head) (xs : List ℕ) → Fit h xs → sound (cached_cache h) xs ≡ cached_in_order h xs
unfolding state_of cached_in
told h xs fit = cache-sound (limits_of h.limits) xs (cached_of (table_of h 6 xs)) 4 4 h.live.cached 5 48 h.live.cached_rows (lit< tt) (omega arith) (lit< tt) (omega arith)

pub returns : goal.returns
returns c =
    c.is_sound.ensures ∙ ap (λ (t : TimeBoundCache). sound t c.args.self.now.block.now) c.tables.ensures.at ∙ told c.args.self.now.head.now c.args.self.now.block.now c.args.self.now.fit
