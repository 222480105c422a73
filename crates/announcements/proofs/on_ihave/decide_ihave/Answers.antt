-- `decide_ihave`: after i announcements the first i are decided.
use Rattle.announcements.proofs.Words.{◌≡◌, ◌+◌, ◌<◌, rules, arith, sym, ap, subst, ℕ, List, get_or, Option, Some, None, State, length, take, Ihave, ihave_value, ihaves_value, settled, shown}
use Rattle.std.proofs.Common.{take_all, length-take}
use lib.ListN.{length-map}
use Rattle.wire.proofs.ReaderLaws.AnnouncedLaws.{announced_count}
use Rattle.announcements.specs.declared.on_ihave.Unreceived.{Unreceived}
use Rattle.announcements.specs.declared.on_ihave.NewEntry.{NewEntry}
use Rattle.announcements.specs.Ihaves.Heard.{ihave}
use Rattle.announcements.specs.OnIhave.{entry_value, entries_value, entries_at, received, NewIs, IhaveDecided}
use Rattle.announcements.proofs.IhavesLaws.Entries.{entries-few}
use Rattle.announcements.proofs.IhavesLaws.Ordered.{decided-start, decided-known, decided-more}
use Rattle.announcements.proofs.IhavesLaws.WalkLaws.{after_none, after-end, after-taken, after-next, after-below}
use Rattle.announcements.proofs.on_ihave.decide_ihave.Goals as goal

pub loop-ihave-init : goal.loop-ihave-init
loop-ihave-init g c =
    let a = c.args in
    record { index = 0; after = after_none (search rules); so = decided-start (settled a.call.now.instant.0 (shown a.view.now)) a.entries.now.items a.order.now.items c.requires.none.0 c.requires.none.1 }

-- what the call tells, of the lists themselves
moved : (s : State) (x : Ihave) (es es' : List Unreceived) (ns ns' : List ℕ) (r o : Option NewEntry) → es' ≡ es → ns' ≡ ns → r ≡ o → NewIs s x es' ns' r → NewIs s x es ns o
moved s x es es' ns ns' r o e n q k =
    subst (λ (l : List Unreceived). NewIs s x l ns o) e (subst (λ (l : List ℕ). NewIs s x es' l o) n (subst (λ (y : Option NewEntry). NewIs s x es' ns' y) q k))

-- there is room for one more
room : (s : State) (hs : List Ihave) (i : ℕ) (es : List Unreceived) (ns : List ℕ) → IhaveDecided s (take i hs) es ns → i < length hs → length es < length hs
room s hs i es ns d w =
    omega (arith, length-map es entry_value, ap (λ (l : List Ihave). length l) d.count, entries-few (received s) (take i hs), length-take i hs, w)

pub insert-requires : goal.insert-requires
insert-requires g c =
    let a = c.args in
    let w = c.loop-ihave.invariant in
    let s = settled a.call.now.instant.0 (shown a.view.now) in
    let hs = ihaves_value a.ihaves in
    let es = c.loop-ihave.entries.items in
    let ns = c.loop-ihave.order.items in
    let n = moved s (ihave_value c.in-Some.ihave) es c.as_slice.result.now ns c.as_slice-in-loop-ihave.result.now c.new_entry.result (Some c.in-Some-new_entry.new) c.as_slice.ensures.value c.as_slice-in-loop-ihave.ensures.value c.in-Some-new_entry.is c.new_entry.ensures in
    let below = room s hs w.index es ns w.so (after-below w.after c.in-Some.ensures.steps) in (
      search rules,
      (
        omega (arith, n.place.within, length-map (entries_at (entries_value es) ns) (λ (h : Ihave). h.id), length-map ns (λ (m : ℕ). get_or (entries_value es) m (ihave 0 0))),
        omega (arith, below, w.so.all, announced_count a.ihaves.count a.ihaves.bytes.now a.ihaves.there, c.requires.room.0),
      ),
    )

pub push-requires : goal.push-requires
push-requires g c =
    let a = c.args in
    let w = c.loop-ihave.invariant in
    let s = settled a.call.now.instant.0 (shown a.view.now) in
    let below = room s (ihaves_value a.ihaves) w.index c.loop-ihave.entries.items c.loop-ihave.order.items w.so (after-below w.after c.in-Some.ensures.steps) in (
      search rules,
      omega (arith, below, announced_count a.ihaves.count a.ihaves.bytes.now a.ihaves.there, c.requires.room.0),
    )

pub loop-ihave-preserved-in-Some-new_entry : goal.loop-ihave-preserved-in-Some-new_entry
loop-ihave-preserved-in-Some-new_entry g c =
    let a = c.args in
    let w = c.loop-ihave.invariant in
    let s = settled a.call.now.instant.0 (shown a.view.now) in
    let hs = ihaves_value a.ihaves in
    let es = c.loop-ihave.entries.items in
    let ns = c.loop-ihave.order.items in
    let x = ihave_value c.in-Some.ihave in
    let n = moved s x es c.as_slice.result.now ns c.as_slice-in-loop-ihave.result.now c.new_entry.result (Some c.in-Some-new_entry.new) c.as_slice.ensures.value c.as_slice-in-loop-ihave.ensures.value c.in-Some-new_entry.is c.new_entry.ensures in
    let more = decided-more s (take w.index hs) es ns w.so x n.unreceived c.in-Some-new_entry.new.place n.place c.in-Some-new_entry.new.entry n.announces n.adds in
    record {
      index = w.index + 1;
      after = after-next w.after c.in-Some.ensures.steps;
      so = subst (λ (l : List Ihave). IhaveDecided s l c.push.new.self.items c.insert.new.self.items) (sym (after-taken w.after c.in-Some.ensures.steps))
          (rw (c.push.ensures.items, c.insert.ensures.items, c.len.ensures.value) more);
    }

pub loop-ihave-preserved : goal.loop-ihave-preserved
loop-ihave-preserved g c =
    let a = c.args in
    let w = c.loop-ihave.invariant in
    let s = settled a.call.now.instant.0 (shown a.view.now) in
    let hs = ihaves_value a.ihaves in
    let es = c.loop-ihave.entries.items in
    let ns = c.loop-ihave.order.items in
    let x = ihave_value c.in-Some.ihave in
    let known = moved s x es c.as_slice.result.now ns c.as_slice-in-loop-ihave.result.now c.new_entry.result None c.as_slice.ensures.value c.as_slice-in-loop-ihave.ensures.value c.in_default.is c.new_entry.ensures in
    record {
      index = w.index + 1;
      after = after-next w.after c.in-Some.ensures.steps;
      so = subst (λ (l : List Ihave). IhaveDecided s l es ns) (sym (after-taken w.after c.in-Some.ensures.steps)) (decided-known s (take w.index hs) es ns w.so x known);
    }

pub returns : goal.returns
returns g c =
    let a = c.args in
    let w = c.loop-ihave.invariant in
    let hs = ihaves_value a.ihaves in
    let s = settled a.call.now.instant.0 (shown a.view.now) in
    rw (c.as_slice-2.ensures.value, c.as_slice-3.ensures.value)
    (subst (λ (l : List Ihave). IhaveDecided s l c.loop-ihave.entries.items c.loop-ihave.order.items) (take_all w.index hs (after-end w.after c.in-None.ensures.steps.0)) w.so)
