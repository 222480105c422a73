-- `find_entry`: the identifier in the middle settles one side.
use Rattle.announcements.proofs.Words.{◌≡◌, sym, ap, ◌∙◌, subst, List, ℕ, ◌+◌, ◌-◌, ◌<◌, arith, length, get_or, get_or-map, id_of}
use Rattle.std.proofs.Common.{◌/◌, Less, Equal, Greater}
use Rattle.std.proofs.lemmas.Cmp.{ranked}
use lib.ListN.{length-map}
use Rattle.storage.proofs.RowsLaws.Sorted.{bracket-up, bracket-down}
use Rattle.time_cache.proofs.Orders.{up_of}
use Rattle.announcements.specs.Ihaves.Heard.{ihave}
use Rattle.announcements.specs.declared.on_ihave.Unreceived.{Unreceived}
use Rattle.announcements.specs.OnIhave.{entry_value, entries_value, entries_at, ids}
use Rattle.announcements.proofs.IhavesLaws.Ordered.{id-at, nothing}
use Rattle.announcements.proofs.on_ihave.find_entry.Goals as goal

abbrev keys_of : List Unreceived → List ℕ → List ℕ
keys_of es ns = ids (entries_at (entries_value es) ns)

key : (es : List Unreceived) (ns : List ℕ) (i : ℕ) → i < length ns → get_or (keys_of es ns) i 0 ≡ id_of (get_or es (get_or ns i 0) nothing).id
key es ns i w = id-at (entries_value es) ns i w ∙ ap (λ h. h.id) (get_or-map entry_value es (get_or ns i 0) nothing)

as-many : (es : List Unreceived) (ns : List ℕ) → length (keys_of es ns) ≡ length ns
as-many es ns = length-map (entries_at (entries_value es) ns) (λ h. h.id) ∙ length-map ns (λ n. get_or (entries_value es) n (ihave 0 0))

pub loop-lo-preserved-in-Less : goal.loop-lo-preserved-in-Less
loop-lo-preserved-in-Less c =
    let a = c.args in
    let l = c.loop-lo in
    let mid = l.lo + (l.hi - l.lo) / 2 in
    let w : mid < length a.order.now = omega (arith, l.invariant.hi-end, as-many a.entries.now a.order.now, c.loop-lo-test.true) in
    bracket-up (keys_of a.entries.now a.order.now) (id_of a.id) l.lo l.hi mid (up_of (keys_of a.entries.now a.order.now) c.requires.ascend) l.invariant (omega arith) (omega (arith, c.loop-lo-test.true))
    (subst (λ (n : ℕ). n < id_of a.id) (sym (key a.entries.now a.order.now mid w)) (ranked _ (id_of a.id) Less (sym c.in-Less.is ∙ c.cmp.ensures)))

pub returns-in-Equal : goal.returns-in-Equal
returns-in-Equal c =
    let a = c.args in
    let l = c.loop-lo in
    let mid = l.lo + (l.hi - l.lo) / 2 in
    let w : mid < length a.order.now = omega (arith, l.invariant.hi-end, as-many a.entries.now a.order.now, c.loop-lo-test.true) in
    record {
      within = omega (arith, w, as-many a.entries.now a.order.now);
      same = key a.entries.now a.order.now mid w ∙ ranked _ (id_of a.id) Equal (sym c.in-Equal.is ∙ c.cmp.ensures);
    }

pub loop-lo-preserved : goal.loop-lo-preserved
loop-lo-preserved c =
    let a = c.args in
    let l = c.loop-lo in
    let mid = l.lo + (l.hi - l.lo) / 2 in
    let w : mid < length a.order.now = omega (arith, l.invariant.hi-end, as-many a.entries.now a.order.now, c.loop-lo-test.true) in
    bracket-down (keys_of a.entries.now a.order.now) (id_of a.id) l.lo l.hi mid (up_of (keys_of a.entries.now a.order.now) c.requires.ascend) l.invariant (omega arith) (omega (arith, c.loop-lo-test.true))
    (subst (λ (n : ℕ). id_of a.id < n) (sym (key a.entries.now a.order.now mid w)) (ranked _ (id_of a.id) Greater (sym c.in-Greater.is ∙ c.cmp.ensures)))
