-- Found, the row that the entry names has another content, and else there is nothing to change.
use Rattle.block.proofs.Words.{◌≡◌, refl, sym, ◌∙◌, subst, ℕ, ◌+◌, ◌≤◌, arith, length, Result, keys, id_of, Here, Between, FoundIs, row_at, State}
use Rattle.block.specs.Becomes.{Becomes}
use Rattle.block.specs.Caches.CachedReads.{row_of}
use Rattle.block.specs.Panels.{state}
use Rattle.block.specs.Contents.Starts.{len_of}
use Rattle.block.specs.Contents.CacheSteps.{refilled, cached_rows, Resized}
use Rattle.block.proofs.PanelLaws.{same-state}
use Rattle.block.proofs.ContentsLaws.Setting.{row_low, set_room, set-goes, refill-none}
use Rattle.block.proofs.panel.Panel.set_content.Goals as goal
use Rattle.block.proofs.panel.Panel.set_content.Goals.{In-Ok, After-cached_row-row, After-resize_row}

-- where the search found the identifier, and the row that its entry has
here : (c : In-Ok) → Here (keys (state c.args.self.now).cache.entries) (id_of c.args.id) c.in-Ok.entry
here c =
    let p = c.args.self.now in
    let f = subst (λ (s : State). FoundIs (keys s.cache.entries) (id_of c.args.id) c.find.result) (same-state p c.view.result c.view.ensures.head c.view.ensures.block) c.find.ensures in
    subst (λ (x : Result ℕ ℕ). FoundIs (keys (state p).cache.entries) (id_of c.args.id) x) c.in-Ok.is f

row : (c : After-cached_row-row) → c.cached_row-row.result ≡ row_of c.args.self.now.head c.args.self.now.block.now c.in-Ok.entry
row c = c.cached_row-row.ensures.at ∙ (λ k. row_of (c.view-in-Ok.ensures.head k) (c.view-in-Ok.ensures.block k) c.in-Ok.entry)

pub resize_row-requires : goal.resize_row-requires
resize_row-requires c =
    let a = c.args in
    let p = a.self.now in
    let e = row (goal.at.resize_row-requires c).After-cached_row-row in
    let at = here (goal.at.resize_row-requires c).In-Ok in record {
      sound = (p.sound, p.laid_out);
      there = omega (arith, e, row_low p.head p.block.now a.content.now (id_of a.id) c.in-Ok.entry p.sound c.requires.order at c.requires.room);
      room = subst (λ (n : ℕ). p.head.live.contents + length a.content.now ≤ p.head.limits.content + len_of (row_at (cached_rows p.head p.block.now) n)) (sym e)
          (set_room p.head p.block.now a.content.now (id_of a.id) c.in-Ok.entry p.sound c.requires.order at c.requires.room);
    }

goes : (c : After-resize_row) → let p = c.args.self.now in Becomes (refilled (id_of c.args.id) c.args.content.now) p.head p.block.now c.resize_row.new.head c.resize_row.new.block
goes c =
    let a = c.args in
    let p = a.self.now in
    let r = c.resize_row in
    set-goes p.head p.block.now a.content.now (id_of a.id) c.in-Ok.entry p.sound c.requires.order (here (goal.at.After-resize_row c).In-Ok) c.requires.room r.new.head r.new.block
    (subst (λ (n : ℕ). Resized p.head n a.content.now p.block.now r.new.head r.new.block) (row (goal.at.After-resize_row c).After-cached_row-row) r.ensures)

pub invariant_of-self-clause-sound : goal.invariant_of-self-clause-sound
invariant_of-self-clause-sound c = (goes c).sound

pub returns-in-Ok : goal.returns-in-Ok
returns-in-Ok c = record { state = (goes (goal.at.returns-in-Ok c).After-resize_row).state; loan = refl }

pub returns-in_default : goal.returns-in_default
returns-in_default c =
    let a = c.args in
    let p = a.self.now in
    let b = subst (λ (s : State). Between (keys s.cache.entries) (id_of a.id) c.in_default.field-0) (same-state p c.view.result c.view.ensures.head c.view.ensures.block) c.in_default.ensures in
    record { state = (refill-none p.head p.block.now a.content.now (id_of a.id) _ p.sound b).state; loan = refl }
