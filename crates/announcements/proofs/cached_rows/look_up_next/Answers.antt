-- `look_up_next`: a row is told as one before it with the same identifier was, or by a look-up.
use Rattle.announcements.proofs.Words.{sym, ap, ◌∙◌, arith, false, get_or, eqb-true, settled, shown}
use Rattle.announcements.proofs.CachedRowsLaws.{told-next, told-again, row-then, held}
use Rattle.announcements.proofs.cached_rows.look_up_next.Goals as goal

pub returns-then-eq : goal.returns-then-eq
returns-then-eq c =
    let a = c.args in
    let now = a.instant.0 in
    let s = shown a.view.now in
    let named = get_or a.places.now c.place_of-place.result 0 in
    let same = row-then now s named c.recorded-then-named-row.result c.recorded-then-named-row.ensures ∙ eqb-true _ _ (sym c.eq.ensures ∙ c.if-eq.true) ∙ sym (row-then now s a.row c.recorded.result c.recorded.ensures) in
    told-next (settled now s) a.row a.cached.now c.requires.told (get_or a.cached.now named false) (omega (arith, c.requires.row, c.requires.room)) (told-again (settled now s) a.row a.cached.now c.requires.told named c.if-named-row.true same)

pub returns-else-named-row : goal.returns-else-named-row
returns-else-named-row c =
    let a = c.args in
    let now = a.instant.0 in
    let s = shown a.view.now in
    told-next (settled now s) a.row a.cached.now c.requires.told c.is_cached_then.result (omega (arith, c.requires.row, c.requires.room))
    (c.is_cached_then.ensures ∙ sym (ap (held (settled now s)) (row-then now s a.row c.recorded.result c.recorded.ensures)))
