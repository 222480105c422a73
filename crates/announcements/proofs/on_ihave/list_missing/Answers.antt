-- `list_missing`: after i numbers the announcements of the first i are listed.
use Rattle.announcements.proofs.Words.{◌≡◌, ◌<◌, ◌+◌, refl, sym, ap, ◌∙◌, not, arith, ℕ, List, [], ◌∷◌, ◌++◌, map, length, take, set, get_or, add-one, Ihave, has, ihave_value}
use Rattle.std.proofs.Math.Seq.{take-suc-set}
use Rattle.std.proofs.lemmas.List.{map-append}
use Rattle.storage.specs.Lists.Base.{filter}
use Rattle.postcard.specs.declared.message.Ihave.{Ihave as Listed}
use Rattle.announcements.specs.OnIhave.{entry_value}
use Rattle.announcements.proofs.IhavesLaws.Ordered.{nothing}
use Rattle.announcements.proofs.IhavesLaws.StateLaws.{listed-skip, listed-next}
use Rattle.announcements.proofs.on_ihave.list_missing.Goals as goal
use Rattle.announcements.proofs.on_ihave.list_missing.Goals.{then-entry, else-entry}

pub loop-number-init : goal.loop-number-init
loop-number-init c = record { few = omega arith; listed = λ s a. unfold filter in refl }

-- one more in the list
stored : (xs : List Listed) (n : ℕ) (y : Listed) → n < length xs → map ihave_value (take (n + 1) (set xs n y)) ≡ map ihave_value (take n xs) ++ (ihave_value y ∷ [])
stored xs n y w = ap (λ (k : ℕ). map ihave_value (take k (set xs n y))) (add-one n) ∙ ap (map ihave_value) (take-suc-set xs n y w) ∙ map-append ihave_value (take n xs) (y ∷ [])

pub loop-number-preserved : goal.loop-number-preserved
loop-number-preserved c =
    let es = c.args.decision.now.entries.now in
    let ns = c.args.decision.now.order.now in
    let l = c.loop-number in
    let n = get_or ns l.number-index 0 in
    let there = c.requires.there l.number-index 0 c.loop-number-test.true in
    elim c.if-entry.branch [
      | then-entry w ↦ record {
        few = omega (arith, w.count-is, l.invariant.few);
        listed = λ s a.
            (λ k. map ihave_value (take (w.count-is k) (w.fresh-is k)))
            ∙ stored l.fresh l.count (record { id = (get_or es n nothing).id; round = (get_or es n nothing).round }) (omega (arith, l.invariant.few, c.loop-number-test.true, c.requires.room, l.auto.fresh))
            ∙ ap (λ (ys : List Ihave). ys ++ (entry_value (get_or es n nothing) ∷ [])) (l.invariant.listed s a)
            ∙ listed-next (λ h. not (has h.id s.missing)) es ns l.number-index c.loop-number-test.true (sym (a n nothing there).missing ∙ w.if-entry.true);
      }
      | else-entry w ↦ record {
        few = omega (arith, w.count-is, l.invariant.few);
        listed = λ s a.
            (λ k. map ihave_value (take (w.count-is k) (w.fresh-is k)))
            ∙ l.invariant.listed s a
            ∙ listed-skip (λ h. not (has h.id s.missing)) es ns l.number-index c.loop-number-test.true (sym (a n nothing there).missing ∙ w.if-entry.false);
      }
    ]
