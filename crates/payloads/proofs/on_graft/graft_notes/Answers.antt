-- `graft_notes` meets its contract: nothing is asked for, nothing is cached, the send is taken, or the record takes the note or not.
use Rattle.payloads.proofs.Words.{arith, true, false, ap, sym, ◌∙◌, ◌≡◌, ◌+◌, ℕ, length, Option, id_of, Id, settled, State, shown, links-few, settled-up, settled-low, settled-takes}
use Rattle.payloads.specs.OnGraft.{after_graft}
use Rattle.block.proofs.LookupLaws.{value-missed, value-there}
use Rattle.payloads.proofs.OnGraftLaws.{first-taken, length-only, length-missed, length-taken, length-noted, length-full}
use Rattle.payloads.proofs.on_graft.graft_notes.Goals as goal
use Rattle.payloads.proofs.on_graft.graft_notes.Goals.{Start}

abbrev st : Start → State
st c = shown c.args.view.now

abbrev after' : Start → State
after' c = settled c.args.call.now.instant.0 (st c)

-- the record grows by n
abbrev Grows : Start → Option Id → ℕ → Type 0
Grows c w n = length (after' c).dropped + n ≡ length (after_graft c.args.call.now c.args.link w (after' c)).dropped

as_wanted : (c : Start) (w : Option Id) (n : ℕ) → c.args.wanted ≡ w → Grows c w n → Grows c c.args.wanted n
as_wanted c w n e k = k ∙ ap (λ (o : Option Id). length (after_graft c.args.call.now c.args.link o (after' c)).dropped) (sym e)

pub takes-requires : goal.takes-requires
takes-requires c = omega (arith, c.requires.1, links-few c.args.view.now.head.now c.args.view.now.block.now c.args.view.now.sound)

pub returns-in_default-clause-notes : goal.returns-in_default-clause-notes
returns-in_default-clause-notes c =
    let s = (goal.at.returns-in_default-clause-notes c).Start in
    let now = c.args.call.now.instant.0 in
    as_wanted s _ 0 c.in_default.is (length-only c.args.call.now c.args.link (after' s) (settled-up now (st s) c.requires.0) (settled-low now (st s) c.args.link c.requires.1))

pub returns-then-is_none-clause-notes : goal.returns-then-is_none-clause-notes
returns-then-is_none-clause-notes c =
    let s = (goal.at.returns-then-is_none-clause-notes c).Start in
    let now = c.args.call.now.instant.0 in
    as_wanted s _ 0 c.in-Some.is
    (length-missed c.args.call.now c.args.link (after' s) (settled-up now (st s) c.requires.0) (settled-low now (st s) c.args.link c.requires.1) (id_of c.in-Some.id)
    (sym c.cached_then.ensures ∙ value-missed c.cached_then.result c.is_none.result c.is_none.ensures c.if-is_none.true))

pub returns-then-takes-clause-notes : goal.returns-then-takes-clause-notes
returns-then-takes-clause-notes c =
    let s = (goal.at.returns-then-takes-clause-notes c).Start in
    let now = c.args.call.now.instant.0 in
    let call = c.args.call.now in
    let up = settled-up now (st s) c.requires.0 in
    let low = settled-low now (st s) c.args.link c.requires.1 in
    let m = value-there c.cached_then.result c.is_none.result c.is_none.ensures c.if-is_none.false in
    as_wanted s _ 0 c.in-Some.is
    (length-taken call c.args.link (after' s) up low (id_of c.in-Some.id) m.0 (sym c.cached_then.ensures ∙ m.1)
    (first-taken call c.args.link (after' s) up low true (sym c.if-takes.true ∙ c.takes.ensures)))

pub returns-then-takes_note-clause-notes : goal.returns-then-takes_note-clause-notes
returns-then-takes_note-clause-notes c =
    let s = (goal.at.returns-then-takes_note-clause-notes c).Start in
    let now = c.args.call.now.instant.0 in
    let call = c.args.call.now in
    let up = settled-up now (st s) c.requires.0 in
    let low = settled-low now (st s) c.args.link c.requires.1 in
    let m = value-there c.cached_then.result c.is_none.result c.is_none.ensures c.if-is_none.false in
    as_wanted s _ 1 c.in-Some.is
    (length-noted call c.args.link (after' s) up low (id_of c.in-Some.id) m.0 (sym c.cached_then.ensures ∙ m.1)
    (first-taken call c.args.link (after' s) up low false (sym c.if-takes.false ∙ c.takes.ensures))
    (sym (settled-takes now (st s) c.args.link (id_of c.in-Some.id)) ∙ sym c.takes_note.ensures ∙ c.if-takes_note.true))

pub returns-else-takes_note-clause-notes : goal.returns-else-takes_note-clause-notes
returns-else-takes_note-clause-notes c =
    let s = (goal.at.returns-else-takes_note-clause-notes c).Start in
    let now = c.args.call.now.instant.0 in
    let call = c.args.call.now in
    let up = settled-up now (st s) c.requires.0 in
    let low = settled-low now (st s) c.args.link c.requires.1 in
    let m = value-there c.cached_then.result c.is_none.result c.is_none.ensures c.if-is_none.false in
    as_wanted s _ 0 c.in-Some.is
    (length-full call c.args.link (after' s) up low (id_of c.in-Some.id) m.0 (sym c.cached_then.ensures ∙ m.1)
    (first-taken call c.args.link (after' s) up low false (sym c.if-takes.false ∙ c.takes.ensures))
    (sym (settled-takes now (st s) c.args.link (id_of c.in-Some.id)) ∙ sym c.takes_note.ensures ∙ c.if-takes_note.false))
