-- `sequences::item_at`: by the list.
use Rattle.alike.proofs.Words.{sym, ap, ◌∙◌, subst, ◌≡◌, ◌<◌, ℕ, length, get_or, arith, shown, State}
use Rattle.alike.specs.Elements.{Element, element, sequence_of}
use Rattle.alike.specs.declared.sequences.Sequence.{Sequence}
use Rattle.alike.specs.declared.sequences.Sequence.TheVariants.{ReceivedExpiry, GraftedExpiry, CachedExpiry}
use Rattle.alike.proofs.BlockReads.{count-rows, row-read}
use Rattle.alike.proofs.sequences.item_at.Goals as goal
use Rattle.alike.proofs.sequences.item_at.Goals.{Start}

-- element j of a list, and that there is one
abbrev item_of : State → ℕ → Sequence → Element
item_of s j q = get_or (sequence_of q s) j (element 0 0 0)

-- of the list that was told there is an element j
there : (s : Start) (q : Sequence) → s.args.of ≡ q → s.args.j < length (sequence_of q (shown s.args.view.now))
there s q e = subst (λ (r : Sequence). s.args.j < length (sequence_of r (shown s.args.view.now))) e s.requires.1

pub row_item-requires : goal.row_item-requires
row_item-requires c =
    let v = c.args.view.now in
    let s = c.table.ensures.stands in
    (s.lies, omega (arith, there (goal.at.row_item-requires c).Start ReceivedExpiry c.in-ReceivedExpiry.is, count-rows c.table.result v.block.now (shown v).received s))

pub row_item-requires-in-GraftedExpiry : goal.row_item-requires-in-GraftedExpiry
row_item-requires-in-GraftedExpiry c =
    let v = c.args.view.now in
    let s = c.table-in-GraftedExpiry.ensures.stands in
    (s.lies, omega (arith, there (goal.at.row_item-requires-in-GraftedExpiry c).Start GraftedExpiry c.in-GraftedExpiry.is, count-rows c.table-in-GraftedExpiry.result v.block.now (shown v).grafted s))

pub row_item-requires-in-CachedExpiry : goal.row_item-requires-in-CachedExpiry
row_item-requires-in-CachedExpiry c =
    let v = c.args.view.now in
    let s = c.table-in-CachedExpiry.ensures.stands in
    (s.lies, omega (arith, there (goal.at.row_item-requires-in-CachedExpiry c).Start CachedExpiry c.in-CachedExpiry.is, count-rows c.table-in-CachedExpiry.result v.block.now (shown v).cache s))

pub returns-in-ReceivedExpiry : goal.returns-in-ReceivedExpiry
returns-in-ReceivedExpiry c =
    let v = c.args.view.now in
    c.row_item.ensures ∙ sym (ap (item_of (shown v) c.args.j) c.in-ReceivedExpiry.is ∙ row-read c.table.result v.block.now (shown v).received c.table.ensures.stands c.args.j)

pub returns-in-GraftedExpiry : goal.returns-in-GraftedExpiry
returns-in-GraftedExpiry c =
    let v = c.args.view.now in
    c.row_item-in-GraftedExpiry.ensures ∙ sym (ap (item_of (shown v) c.args.j) c.in-GraftedExpiry.is ∙ row-read c.table-in-GraftedExpiry.result v.block.now (shown v).grafted c.table-in-GraftedExpiry.ensures.stands c.args.j)

pub returns-in-CachedExpiry : goal.returns-in-CachedExpiry
returns-in-CachedExpiry c =
    let v = c.args.view.now in
    c.row_item-in-CachedExpiry.ensures ∙ sym (ap (item_of (shown v) c.args.j) c.in-CachedExpiry.is ∙ row-read c.table-in-CachedExpiry.result v.block.now (shown v).cache c.table-in-CachedExpiry.ensures.stands c.args.j)
