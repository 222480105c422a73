-- `timers_whole`: the keys of table 10.
use Rattle.whole.proofs.Words.{◌≡◌, refl, ap, ◌∙◌, List, ℕ, ◌-◌, arith, lit<, length, take, drop, ascending, tells-ascending, limits_of, Head}
use Rattle.storage.specs.Rows.Sorted.{key_of, keys}
use Rattle.block.specs.View.{id_at, timers_in, state_of}
use Rattle.whole.specs.Parts.{table_of, timers_whole}
use Rattle.whole.proofs.LentLaws.{keys-lent}
use Rattle.whole.proofs.tables.Tables.timers_whole.Goals as goal

-- the timers are the keys
told : (h : Head) (xs : List ℕ) → keys 32 h.live.timers (table_of h 10 xs) ≡ (state_of h xs).timers.graft
unfolding keys key_of state_of timers_in id_at
told h xs = refl

pub returns : goal.returns
unfolding timers_whole
returns c =
    let h = c.args.self.now.head.now in
    let xs = c.args.self.now.block.now in
    let at = c.start-at in
    tells-ascending (keys 32 h.live.timers (take (length xs - at.result) (drop at.result xs))) c.ascending.result c.ascending.ensures
    ∙ ap ascending (keys-lent (limits_of h.limits) xs 10 32 h.live.timers at.result (lit< tt) (omega (arith, c.args.self.now.fit.within.timers)) at.ensures ∙ told h xs)
