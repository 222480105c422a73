-- The two tables are left to `insert`, and the zeros are an entry with no grafts.
use Rattle.block.proofs.Words.{◌≡◌, refl, sym, ap, ◌∙◌, subst, List, ℕ, ◌+◌, ◌*◌, arith, id_of, put, le_bytes}
use Rattle.block.specs.View.{state_of}
use Rattle.block.specs.Becomes.{Becomes}
use Rattle.block.specs.Heads.{with_grafted_counts}
use Rattle.block.specs.declared.head.Head.{Head}
use Rattle.block.specs.TimeCaches.{grafted_cache}
use Rattle.block.specs.Caches.GraftSteps.{entered_state, EnteredAt}
use Rattle.block.proofs.GraftsLaws.EntryLaws.{zs, entered, entered-goes}
use Rattle.block.proofs.panel.Panel.enter_graft.Goals as goal
use Rattle.block.proofs.panel.Panel.enter_graft.Goals.{After-store_le}

-- what `insert` leaves, and what the zeros do to it
entered_new : (c : After-store_le) → let p = c.args.self.now in let i = c.insert-inserted in
    Becomes (entered_state (id_of c.args.id) c.args.expires.0) p.head p.block.now i.new.head c.store_le.new.bytes × EnteredAt (id_of c.args.id) (state_of i.new.head c.store_le.new.bytes) i.result.entry
entered_new c =
    let p = c.args.self.now in
    let r = c.insert-inserted in
    let id = id_of c.args.id in
    let t = c.args.expires.0 in
    let v = r.ensures.inserts in
    let at : c.start-start.result + 119 * r.result.entry + 2 ≡ (grafted_cache p.head).entries.at + (r.result.entry * 119 + (2 + 0)) = omega (arith, c.start-start.ensures _ p.laid_out) in
    let same : zs p.head p.block.now r.new.block id t r.result p.sound r.auto.block c.requires.room v ≡ c.store_le.new.bytes =
    sym (c.store_le.ensures ∙ ap (λ (n : ℕ). put n (le_bytes 21 0) r.new.block) at) in
    let new = with_grafted_counts r.result.cache.entries.len r.result.cache.expiry.len p.head in
    subst (λ (h : Head). Becomes (entered_state id t) p.head p.block.now h c.store_le.new.bytes × EnteredAt id (state_of h c.store_le.new.bytes) r.result.entry) (sym r.ensures.counts)
    (subst (λ (bs : List ℕ). Becomes (entered_state id t) p.head p.block.now new bs × EnteredAt id (state_of new bs) r.result.entry) same
    (entered-goes p.head p.block.now r.new.block id t r.result p.sound r.auto.block c.requires.room v, entered p.head p.block.now r.new.block id t r.result p.sound r.auto.block c.requires.room v))

pub invariant_of-self-clause-sound : goal.invariant_of-self-clause-sound
invariant_of-self-clause-sound c = (entered_new (goal.at.invariant_of-self-clause-sound c).After-store_le).0.sound

pub returns : goal.returns
returns c = let z = entered_new (goal.at.returns c).After-store_le in record { goes = record { state = z.0.state; loan = refl }; entry = z.1 }
