-- One call more: where it leads, and what is to be written of it.
use Rattle.std.proofs.Common.{ℕ, ◌≡◌, refl, sym, ap, subst, ◌∙◌, List, [], ◌∷◌, ◌++◌, map}
use mathlib.Core.Logic.{∥∥₁_elim}
use base.Stored.{Coded-set, coded_list}
use Rattle.std.specs.Coded.{coded_ℕ}
use Rattle.blake3.specs.Blake3.{identifier}
use Rattle.postcard.specs.Number.{number_bytes, groups}
use Rattle.protocol.specs.State.{State, Counts}
use Rattle.protocol.specs.Answer.{Call, Answer, refuse, accept, ask_whole}
use Rattle.protocol.specs.Calls.{Ran, run_calls, prepend, state_after, counts_after}
use Rattle.protocol.specs.Panel.{written}
use Rattle.plumtree.specs.Chain.{Seen, seen_of}
use Rattle.panel.specs.Records.Running.{answer_bytes}
use Rattle.plumtree.specs.CallList.{CallList, with_call, LeadsTo}
use Rattle.panel.specs.Answering.{ran, told, Answered}

-- one answer more
abbrev more : Ran → Answer → Ran
more r a = record { state = state_after r.state a; counts = counts_after r.counts a; answers = r.answers ++ (a ∷ []) }

ran-snoc : (s : State) (c : Counts) (ks : List Call) (k : Call) → run_calls identifier s c (ks ++ (k ∷ [])) ≡ more (run_calls identifier s c ks) (ask_whole identifier (run_calls identifier s c ks).state (run_calls identifier s c ks).counts k)
unfolding run_calls prepend
ran-snoc s c [] k = refl
ran-snoc s c (j ∷ ks) k = ap (prepend (ask_whole identifier s c j)) (ran-snoc (state_after s (ask_whole identifier s c j)) (counts_after c (ask_whole identifier s c j)) ks k)

last_of : {A : Type 0} → A → List A → A
last_of d [] = d
last_of d (x ∷ xs) = last_of x xs

last-snoc : {A : Type 0} (d : A) (xs : List A) (x : A) → last_of d (xs ++ (x ∷ [])) ≡ x
unfolding last_of
last-snoc d [] x = refl
last-snoc d (y ∷ xs) x = last-snoc y xs x

last-map : {A B : Type 0} (f : A → B) (d : B) (xs : List A) (x : A) → last_of d (map f (xs ++ (x ∷ []))) ≡ f x
unfolding last_of
last-map f d [] x = refl
last-map f d (y ∷ xs) x = last-map f (f y) xs x

-- what was seen of an answer is what is to be written of it
seen-written : (a : Answer) → answer_bytes (seen_of a).number (seen_of a).bytes ≡ written a
unfolding seen_of written answer_bytes number_bytes groups
seen-written (refuse n) = refl
seen-written (accept e r) = refl

-- the list's last call was seen as it is told
seen-told : (h : CallList) (k : Call) (v : Seen) (block : List ℕ) (counts : Counts) → LeadsTo (with_call k v h) block counts → v ≡ seen_of (told h k)
seen-told h k v block counts g =
    sym (last-snoc v h.seen v) ∙ ap (last_of v) (g.guaranteed.answers ∙ ap (λ (r : Ran). map seen_of r.answers) (ran-snoc _ _ h.calls k)) ∙ last-map seen_of v (ran h).answers (told h k)

pub answered-one : (h h' : CallList) (k : Call) (v : Seen) (block : List ℕ) (counts : Counts) → h' ≡ with_call k v h → ∥ LeadsTo h' block counts ∥₁ → Answered k h h' v.number v.bytes
answered-one h h' k v block counts e g = record {
  state = ap (λ (x : CallList). (ran x).state) e ∙ ap (λ (r : Ran). r.state) (ran-snoc _ _ h.calls k);
  counts = ap (λ (x : CallList). (ran x).counts) e ∙ ap (λ (r : Ran). r.counts) (ran-snoc _ _ h.calls k);
  writes = ∥∥₁_elim g (Coded-set (coded_list coded_ℕ) _ _) (λ l.
      ap (λ (x : Seen). answer_bytes x.number x.bytes) (seen-told h k v block counts (subst (λ (x : CallList). LeadsTo x block counts) e l)) ∙ seen-written (told h k));
}
