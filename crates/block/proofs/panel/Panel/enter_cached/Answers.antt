-- The two tables are left to `insert`, and the row has a content of no bytes where the next row's starts.
use Rattle.block.proofs.Words.{[], refl, sym, subst, ◌+◌, ◌<◌, arith, drop, id_of}
use Rattle.block.specs.View.{limits_of}
use Rattle.block.specs.Fit.{Fit}
use Rattle.block.specs.Layouts.{LaysOut}
use Rattle.block.specs.Becomes.{Becomes}
use Rattle.block.specs.declared.head.Head.{Head}
use Rattle.block.specs.Contents.Starts.{first_start}
use Rattle.block.specs.Contents.CacheSteps.{cached_also, cached_rows, Emptied}
use Rattle.block.proofs.ContentsLaws.Inserting.{new_head, fit-in, row_in, entry_in, next_start, start-few, empty-goes}
use Rattle.block.proofs.panel.Panel.enter_cached.Goals as goal
use Rattle.block.proofs.panel.Panel.enter_cached.Goals.{After-store_empty}

pub store_empty-requires : goal.store_empty-requires
store_empty-requires c =
    let a = c.args in
    let p = a.self.now in
    let r = c.insert-inserted in
    let i = r.result in
    let v = r.ensures.inserts in
    let new = new_head p.head p.block.now p.sound (id_of a.id) a.round.0 a.expires.0 i r.new.block r.auto.block v c.requires.room in
    let s = first_start p.head.live.contents (drop (i.row + 1) (cached_rows new r.new.block)) in
    let z = subst (λ (h : Head). (Fit h r.new.block × LaysOut p.layout.now (limits_of h.limits)) × ((i.entry < h.live.cached) × (i.row < h.live.cached_rows)) × (first_start h.live.contents (drop (i.row + 1) (cached_rows h r.new.block)) < 4294967296)) (sym r.ensures.counts) (
      (fit-in p.head p.block.now p.sound (id_of a.id) a.round.0 a.expires.0 i r.new.block r.auto.block v c.requires.room, p.laid_out),
      (
        entry_in p.head p.block.now p.sound (id_of a.id) a.round.0 a.expires.0 i r.new.block r.auto.block v c.requires.room,
        row_in p.head p.block.now p.sound (id_of a.id) a.round.0 a.expires.0 i r.new.block r.auto.block v c.requires.room,
      ),
      omega (
        arith,
        start-few p.head p.block.now p.sound (id_of a.id) a.round.0 a.expires.0 i r.new.block r.auto.block v c.requires.room s
            (next_start p.head p.block.now p.sound (id_of a.id) a.round.0 a.expires.0 i r.new.block r.auto.block v c.requires.room s refl),
        p.sound.fit.within.contents,
        p.sound.fit.ceilings.B,
      ),
    ) in
    record { fit = z.0; there = z.1; few = z.2 }

goes : (c : After-store_empty) → let p = c.args.self.now in Becomes (cached_also (id_of c.args.id) [] c.args.round.0 c.args.expires.0) p.head p.block.now c.insert-inserted.new.head c.store_empty.new.block
goes c =
    let a = c.args in
    let p = a.self.now in
    let r = c.insert-inserted in
    let i = r.result in
    let v = r.ensures.inserts in
    let b = r.new.block in
    let ys = c.store_empty.new.block in
    let s = first_start p.head.live.contents (drop (i.row + 1) (cached_rows (new_head p.head p.block.now p.sound (id_of a.id) a.round.0 a.expires.0 i b r.auto.block v c.requires.room) b)) in
    subst (λ (h : Head). Emptied h i.entry i.row (first_start h.live.contents (drop (i.row + 1) (cached_rows h b))) a.round.0 b ys → Becomes (cached_also (id_of a.id) [] a.round.0 a.expires.0) p.head p.block.now h ys) (sym r.ensures.counts)
    (λ q. empty-goes p.head p.block.now p.sound (id_of a.id) a.round.0 a.expires.0 i b r.auto.block v c.requires.room
    s (next_start p.head p.block.now p.sound (id_of a.id) a.round.0 a.expires.0 i b r.auto.block v c.requires.room s refl)
    (omega (arith, c.well_formed)) ys q c.requires.empty)
    c.store_empty.ensures

pub invariant_of-self-clause-sound : goal.invariant_of-self-clause-sound
invariant_of-self-clause-sound c = (goes (goal.at.invariant_of-self-clause-sound c).After-store_empty).sound

pub returns : goal.returns
returns c = record { state = (goes (goal.at.returns c).After-store_empty).state; loan = refl }
