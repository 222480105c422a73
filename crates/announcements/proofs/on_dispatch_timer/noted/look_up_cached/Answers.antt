-- `look_up_cached` meets its contract.
use Rattle.announcements.proofs.Words.{◌≡◌, ◌+◌, ◌-◌, ◌<◌, bit_and, length, get_or, ap, ◌∙◌, sym, arith, Note, shown, queue-few}
use Rattle.std.proofs.lemmas.Nat.{and_le_r}
use Rattle.announcements.specs.QueuedRows.{held_then}
use Rattle.announcements.proofs.OnDispatchLaws.FoundLaws.{found-next}
use Rattle.announcements.proofs.on_dispatch_timer.noted.look_up_cached.Goals as goal

pub queued-requires-then-named-gt0 : goal.queued-requires-then-named-gt0
queued-requires-then-named-gt0 c =
    let place = bit_and c.args.place (length c.args.found.now - 1) in
    let named = get_or c.args.found.now place 0 in
    let some : named ≡ (named - 1) + 1 = omega (arith, c.if-named-gt0.true) in
    (c.requires.found.named place (named - 1) some).0

pub overflow_add-found : goal.overflow_add-found
overflow_add-found c = let v = c.args.view.now in omega (arith, c.requires.row, queue-few v.head.now v.block.now v.sound)

pub returns-clause-found : goal.returns-clause-found
returns-clause-found c =
    let s = shown c.args.view.now in
    let held = held_then c.args.instant.0 s in
    let place = bit_and c.args.place (length c.args.found.now - 1) in
    let within : place < length c.args.found.now = omega (arith, and_le_r c.args.place (length c.args.found.now - 1), c.requires.some) in
    found-next c.args.instant.0 s c.args.found.now c.requires.found place c.args.row within (c.requires.row, ap (λ (n : Note). held n.id) (sym c.queued.ensures) ∙ sym c.is_cached_then.ensures ∙ c.if-not-is_cached_then.false)
