-- `missing_once`: the keys of table 9.
use Rattle.whole.proofs.Words.{◌≡◌, sym, ap, ◌∙◌, List, ℕ, ◌-◌, arith, lit<, length, take, drop, ascending, rows, tells-ascending, limits_of, Head}
use mathlib.Core.List.{map-map}
use Rattle.storage.specs.Lists.Map.{keys}
use Rattle.storage.specs.Rows.Sorted.{key_of, keys as row_keys}
use Rattle.block.specs.View.{id_at, missed_of, missing_in, state_of}
use Rattle.whole.specs.Parts.{table_of}
use Rattle.whole.proofs.LentLaws.{keys-lent}
use Rattle.whole.proofs.tables.Tables.missing_once.Goals as goal

-- the keys are those of the rows
told : (h : Head) (xs : List ℕ) → row_keys 129 h.live.missing (table_of h 9 xs) ≡ keys (state_of h xs).missing
unfolding row_keys key_of state_of missing_in missed_of id_at
told h xs = sym (map-map (λ e. e.key) (missed_of (keys (state_of h xs).links)) (rows 129 h.live.missing (table_of h 9 xs)))

pub returns : goal.returns
returns c =
    let h = c.args.self.now.head.now in
    let xs = c.args.self.now.block.now in
    let at = c.start-at in
    tells-ascending (row_keys 129 h.live.missing (take (length xs - at.result) (drop at.result xs))) c.ascending.result c.ascending.ensures
    ∙ ap ascending (keys-lent (limits_of h.limits) xs 9 129 h.live.missing at.result (lit< tt) (omega (arith, c.args.self.now.fit.within.missing)) at.ensures ∙ told h xs)
