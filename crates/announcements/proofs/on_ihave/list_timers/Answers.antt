-- `list_timers`: after i numbers the identifiers of the first i are listed.
use Rattle.announcements.proofs.Words.{◌≡◌, ◌<◌, ◌+◌, refl, sym, ap, ◌∙◌, not, arith, ℕ, List, [], ◌∷◌, ◌++◌, map, length, take, set, get_or, add-one, Ihave, member, id_of}
use Rattle.std.proofs.Math.Seq.{take-suc-set}
use Rattle.std.proofs.lemmas.List.{map-append}
use Rattle.storage.specs.Lists.Base.{filter}
use Rattle.storage.specs.declared.rows.id.Id.{Id}
use Rattle.announcements.specs.OnIhave.{entry_value, entries_value, entries_at, ids, new_timers}
use Rattle.announcements.proofs.IhavesLaws.Ordered.{nothing}
use Rattle.announcements.proofs.IhavesLaws.StateLaws.{listed-skip, listed-next}
use Rattle.announcements.proofs.on_ihave.list_timers.Goals as goal
use Rattle.announcements.proofs.on_ihave.list_timers.Goals.{then-entry, else-entry}

pub loop-number-init : goal.loop-number-init
loop-number-init c = record { few = omega arith; listed = λ s a. unfold filter in refl }

-- one more in the list
stored : (xs : List Id) (n : ℕ) (y : Id) → n < length xs → map id_of (take (n + 1) (set xs n y)) ≡ map id_of (take n xs) ++ (id_of y ∷ [])
stored xs n y w = ap (λ (k : ℕ). map id_of (take k (set xs n y))) (add-one n) ∙ ap (map id_of) (take-suc-set xs n y w) ∙ map-append id_of (take n xs) (y ∷ [])

pub loop-number-preserved : goal.loop-number-preserved
loop-number-preserved c =
    let es = c.args.decision.now.entries.now in
    let ns = c.args.decision.now.order.now in
    let l = c.loop-number in
    let n = get_or ns l.number-index 0 in
    let there = c.requires.there l.number-index 0 c.loop-number-test.true in
    elim c.if-entry.branch [
      | then-entry w ↦ record {
        few = omega (arith, w.count-is, l.invariant.few);
        listed = λ s a.
            (λ k. map id_of (take (w.count-is k) (w.unmarked-is k)))
            ∙ stored l.unmarked l.count (get_or es n nothing).id (omega (arith, l.invariant.few, c.loop-number-test.true, c.requires.room, l.auto.unmarked))
            ∙ ap (λ (ys : List ℕ). ys ++ (id_of (get_or es n nothing).id ∷ [])) (l.invariant.listed s a)
            ∙ sym (map-append (λ (h : Ihave). h.id) (new_timers s (entries_at (entries_value es) (take l.number-index ns))) (entry_value (get_or es n nothing) ∷ []))
            ∙ ap ids (listed-next (λ h. not (member h.id s.timers.graft)) es ns l.number-index c.loop-number-test.true (sym (a n nothing there).timer ∙ w.if-entry.true));
      }
      | else-entry w ↦ record {
        few = omega (arith, w.count-is, l.invariant.few);
        listed = λ s a.
            (λ k. map id_of (take (w.count-is k) (w.unmarked-is k)))
            ∙ l.invariant.listed s a
            ∙ ap ids (listed-skip (λ h. not (member h.id s.timers.graft)) es ns l.number-index c.loop-number-test.true (sym (a n nothing there).timer ∙ w.if-entry.false));
      }
    ]
