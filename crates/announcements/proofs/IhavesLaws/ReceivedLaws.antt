-- An IHave whose identifiers are all received adds nothing, schedules nothing and changes nothing; and the pass that finds it out.
-- Assumes nothing.
use Rattle.announcements.proofs.Words.{◌≡◌, refl, sym, ap, ◌∙◌, Bool, true, false, ◌||◌, List, [], ◌∷◌, ℕ, ◌+◌, ◌≤◌, length, drop, drop_of_length-le, member, all_head, all_tail, all-imp, Ihave, State}
use Rattle.storage.specs.Lists.Base.{all}
use Rattle.decide.specs.NewIds.{new_ids, known_timer}
use Rattle.decide.specs.ActionsAfter.{ihave_actions}
use Rattle.decide.specs.StateAfter.{ihave_state}
use Rattle.announcements.specs.Ihaves.Entries.{is_received}
use Rattle.announcements.proofs.IhavesLaws.HeardLaws.{announced-received}

-- of known identifiers none is new
new_none : (known : ℕ → Bool) (seen : List ℕ) (hs : List Ihave) → all (λ h. known h.id) hs ≡ true → new_ids known seen hs ≡ []
unfolding new_ids
new_none known seen [] a = refl
new_none known seen (h ∷ hs) a =
    rw (all_head (λ h. known h.id) h hs a) (new_none known (h.id ∷ seen) hs (all_tail (λ h. known h.id) h hs a))

module _ (s : State) (hs : List Ihave) (a : all (is_received s) hs ≡ true) where
  no-timers : new_ids (known_timer s) [] hs ≡ []
  unfolding known_timer
  no-timers = new_none (known_timer s) [] hs (all-imp (is_received s) (λ h. known_timer s h.id) (λ h e. ap (λ (b : Bool). b || member h.id s.timers.graft) e) hs a)

  pub received-actions : ihave_actions hs s ≡ []
  unfolding ihave_actions
  received-actions = rw no-timers refl

pub received-state : (p : ℕ) (s : State) (hs : List Ihave) → all (is_received s) hs ≡ true → ihave_state p hs s ≡ s
unfolding ihave_state
received-state p s [] a = refl
received-state p s (h ∷ hs) a =
    ap (ihave_state p hs) (announced-received p h s (all_head (is_received s) h hs a)) ∙ received-state p s hs (all_tail (is_received s) h hs a)

-- the pass: after i entries that are received, the rest decides
module _ (f : Ihave → Bool) (hs : List Ihave) where
  abbrev pub Rest : ℕ → Type 0
  Rest i = all f (drop i hs) ≡ all f hs

  pub rest-start : Rest 0
  rest-start = refl

  module _ (i : ℕ) (so : Rest i) where
    pub rest_end : length hs ≤ i → true ≡ all f hs
    unfolding all
    rest_end w = sym (ap (all f) (drop_of_length-le hs w)) ∙ so

    module _ (x : Ihave) (here : drop i hs ≡ x ∷ drop (i + 1) hs) where
      pub rest-next : f x ≡ true → Rest (i + 1)
      unfolding all
      rest-next e = sym (ap (all f) here ∙ rw e refl) ∙ so

      pub rest-fails : f x ≡ false → false ≡ all f hs
      unfolding all
      rest-fails e = sym (ap (all f) here ∙ rw e refl) ∙ so
