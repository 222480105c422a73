-- Tree links carry the reading, other links its identifier only: over a list of calls.
-- Assumes nothing.
use Rattle.std.proofs.Common.{ℕ, arith, ◌≡◌, subst, true, false, List, [], ◌∷◌, ◌++◌, leb, leb-true}
use Rattle.storage.proofs.ListsLaws.MapLaws.{true≢, and_left}
use Rattle.postcard.specs.Message.{Event}
use Rattle.protocol.specs.State.{State, Counts, size_in_range}
use Rattle.protocol.specs.Run.{Run}
use Rattle.protocol.specs.Ticks.{per_message}
use Rattle.protocol.specs.Whole.{whole}
use Rattle.protocol.specs.Answer.{Call, Answer, accept, ask_whole}
use Rattle.protocol.specs.Calls.{run_calls, state_after, counts_after, prepend}
use Rattle.protocol.specs.ReadingsFollowTheTree.{FollowsTree, state_left, TreeFollowed, ReadingsFollowTheTree}
use Rattle.protocol.proofs.Accepted.{run_of, ask-cases}
use Rattle.protocol.proofs.Consistent.{whole-consistent, whole-ranged}
use Rattle.protocol.proofs.TreeLaws.Steps.{event-follows}

module _ (hash : List ℕ → ℕ) where
  -- of a whole state, so of every accepted call
  pub whole-follows : (s : State) (n : Counts) (k : Call) (e : Event) → whole s ≡ true → FollowsTree hash s e (run_of hash s n k e)
  unfolding per_message size_in_range
  whole-follows s n k e w =
      event-follows hash s (whole-consistent s w).core.links_up n k.rooms k.now e
      (omega (arith, leb-true 510 s.settings.max_message_size (and_left (leb 510 s.settings.max_message_size) (leb s.settings.max_message_size 4094) (whole-ranged s w).size)))

  -- the answer, if it is accepted
  answer-follows : (s : State) (n : Counts) (k : Call) (e : Event) (r : Run) → ask_whole hash s n k ≡ accept e r → FollowsTree hash s e r
  answer-follows s n k e r =
      ask-cases hash s n k (λ a. a ≡ accept e r → FollowsTree hash s e r)
      (λ m h. let z : false ≡ true = cc in true≢ z)
      (λ v a h. let i : v ≡ e = cc in let j : run_of hash s n k v ≡ r = cc in
      subst (λ (x : Run). FollowsTree hash s e x) j (subst (λ (x : Event). FollowsTree hash s x (run_of hash s n k v)) i (whole-follows s n k v a.whole5)))

  followed : (ks : List Call) (s : State) (n : Counts) (before after : List Answer) (e : Event) (r : Run) → (run_calls hash s n ks).answers ≡ before ++ (accept e r ∷ after) → FollowsTree hash (state_left s before) e r
  unfolding run_calls prepend state_left
  followed [] s n [] after e r h = let z : false ≡ true = cc in true≢ z
  followed [] s n (b ∷ before) after e r h = let z : false ≡ true = cc in true≢ z
  followed (k ∷ ks) s n [] after e r h = let i : ask_whole hash s n k ≡ accept e r = cc in answer-follows s n k e r i
  followed (k ∷ ks) s n (b ∷ before) after e r h =
      let i : ask_whole hash s n k ≡ b = cc in
      let j : (run_calls hash (state_after s (ask_whole hash s n k)) (counts_after n (ask_whole hash s n k)) ks).answers ≡ before ++ (accept e r ∷ after) = cc in
      subst (λ (a : Answer). FollowsTree hash (state_left (state_after s a) before) e r) i
      (followed ks (state_after s (ask_whole hash s n k)) (counts_after n (ask_whole hash s n k)) before after e r j)

  pub tree-followed : (s : State) (n : Counts) (ks : List Call) → TreeFollowed hash s (run_calls hash s n ks).answers
  tree-followed s n ks = record { always = λ before after e r h. followed ks s n before after e r h }

pub readings-follow-the-tree : (hash : List ℕ → ℕ) → ReadingsFollowTheTree hash
readings-follow-the-tree hash = record { always = λ c l b s n h ks. tree-followed hash s n ks }
