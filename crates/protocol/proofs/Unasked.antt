-- "Some links must never carry unasked payload": a call sends payloads only where they are due (`only_due` of ReadingsFollowTheTree), and a quiet neighbour's link is none of the tree, so to it only
-- what its Graft names.
-- Assumes nothing.
use Rattle.std.proofs.Common.{Option, Some, None, ℕ, ◌≡◌, refl, sym, ap, subst, ◌∙◌, Bool, true, false, not, List, [], ◌∷◌, ◌++◌, eqb}
use Rattle.storage.specs.Lists.Base.{ascending, member}
use Rattle.storage.specs.Lists.Map.{keys, lookup}
use Rattle.storage.proofs.ListsLaws.MapLaws.{true≢, and_left}
use Rattle.postcard.specs.Message.{Swarm, Message, Event}
use Rattle.protocol.specs.Links.{Mark, eager, lazy, quiet, is_eager, is_quiet, marked, eager_peers, quiet_in}
use Rattle.protocol.specs.State.{State, Counts, Settings, Limits, created, create, fresh}
use Rattle.protocol.specs.Run.{Run}
use Rattle.protocol.specs.Whole.{whole}
use Rattle.protocol.specs.Answer.{Call, Answer, accept, ask_whole}
use Rattle.protocol.specs.Calls.{run_calls, state_after, counts_after, prepend}
use Rattle.protocol.specs.Quiet.{quiet_after_call, quiet_after, told_quiet}
use Rattle.protocol.specs.ReadingsFollowTheTree.{tree_link, Due, passed_on, broadcast_by_us, asked_for}
use Rattle.protocol.specs.Unasked.{AskedFor, OnlyAsked, NeverUnasked, NoUnaskedPayload}
use Rattle.protocol.proofs.Accepted.{run_of, ask-cases}
use Rattle.protocol.proofs.Consistent.{whole-consistent}
use Rattle.protocol.proofs.NoNeighbourPassedOver.{create-fresh}
use Rattle.protocol.proofs.StepNeighbours.{member-marked}
use Rattle.protocol.proofs.QuietMarks.{call-quiet, quiet-marks}
use Rattle.protocol.proofs.TreeLaws.Lists.{whole-follows}

-- a quiet neighbour's link is none of the tree
no-tree-link : (p : ℕ) (s : State) → ascending (keys s.links) ≡ true → quiet_in p s.links ≡ true → tree_link p s ≡ true → false ≡ true
unfolding quiet_in eager_peers
no-tree-link p s up still tree =
    on (lookup p s.links) still (sym (member-marked is_eager p s.links up) ∙ and_left (member p (eager_peers s.links)) (not (eqb p s.settings.me)) tree)
  where
    on : (o : Option Mark) → marked is_quiet o ≡ true → marked is_eager o ≡ true → false ≡ true
    on None h k = unfold marked in h
    on (Some eager) h k = unfold marked in h
    on (Some lazy) h k = unfold marked in h
    on (Some quiet) h k = unfold marked in k

module _ (hash : List ℕ → ℕ) where
  -- what is due to a quiet neighbour is asked for
  due-asked : (s : State) (e : Event) (r : Run) (p : ℕ) (m : Message) → ascending (keys s.links) ≡ true → quiet_in p s.links ≡ true → Due hash s e r p m → AskedFor p e m
  due-asked s e r p _ up still (passed_on from id round content i t tree elsewhere ungrafted) = true≢ (no-tree-link p s up still tree)
  due-asked s e r p _ up still (broadcast_by_us content i t tree) = true≢ (no-tree-link p s up still tree)
  due-asked s e r p _ up still (asked_for id round c i neighbour cached) = record { id = id; round = round; content = c.content; delivery = Swarm c.round; graft = i; payload = refl }

  -- an accepted call upon a whole state sends a neighbour that is quiet before it only what it asks for
  run-asked : (s : State) (n : Counts) (k : Call) (e : Event) (p : ℕ) → whole s ≡ true → quiet_in p s.links ≡ true → OnlyAsked p e (run_of hash s n k e)
  run-asked s n k e p w still =
      record { asked = λ m before after h. due-asked s e _ p m (whole-consistent s w).core.links_up still ((whole-follows hash s n k e w).only_due p m before after h) }

  answer-asked : (s : State) (n : Counts) (k : Call) (e : Event) (r : Run) (p : ℕ) → quiet_in p s.links ≡ true → ask_whole hash s n k ≡ accept e r → OnlyAsked p e r
  answer-asked s n k e r p still =
      ask-cases hash s n k (λ a. a ≡ accept e r → OnlyAsked p e r)
      (λ m h. let z : false ≡ true = cc in true≢ z)
      (λ v a h. let i : v ≡ e = cc in let j : run_of hash s n k v ≡ r = cc in
      subst (λ (x : Run). OnlyAsked p e x) j (subst (λ (x : Event). OnlyAsked p x (run_of hash s n k v)) i (run-asked s n k v p a.whole5 still)))

  -- each call of a list
  asked-calls : (p : ℕ) (ks : List Call) (s : State) (n : Counts) (before after : List Answer) (e : Event) (r : Run) → (run_calls hash s n ks).answers ≡ before ++ (accept e r ∷ after) →
      quiet_after p (quiet_in p s.links) before ≡ true → OnlyAsked p e r
  unfolding run_calls prepend quiet_after
  asked-calls p [] s n [] after e r h q = let z : false ≡ true = cc in true≢ z
  asked-calls p [] s n (b ∷ before) after e r h q = let z : false ≡ true = cc in true≢ z
  asked-calls p (k ∷ ks) s n [] after e r h q = let i : ask_whole hash s n k ≡ accept e r = cc in answer-asked s n k e r p q i
  asked-calls p (k ∷ ks) s n (b ∷ before) after e r h q =
      let i : ask_whole hash s n k ≡ b = cc in
      let j : (run_calls hash (state_after s (ask_whole hash s n k)) (counts_after n (ask_whole hash s n k)) ks).answers ≡ before ++ (accept e r ∷ after) = cc in
      asked-calls p ks (state_after s (ask_whole hash s n k)) (counts_after n (ask_whole hash s n k)) before after e r j
      (ap (λ (c : Bool). quiet_after p c before) (call-quiet hash s n k p ∙ ap (λ (x : Answer). quiet_after_call p x (quiet_in p s.links)) i) ∙ q)

  -- a fresh panel has no links
  nobody : (p : ℕ) (c : Settings) (l : Limits) (b : ℕ) (s : State) (n : Counts) → create c l b ≡ created s n → quiet_in p s.links ≡ false
  unfolding quiet_in marked lookup fresh
  nobody p c l b s n made = let e : s.links ≡ [] = ap (λ (z : State). z.links) (create-fresh c l b s n made).state in rw e refl

  pub never-unasked : (c : Settings) (l : Limits) (b : ℕ) (s : State) (n : Counts) → create c l b ≡ created s n → (ks : List Call) → NeverUnasked (run_calls hash s n ks).answers
  unfolding told_quiet
  never-unasked c l b s n made ks =
      record { always = λ p before after e r h q. asked-calls p ks s n before after e r h (ap (λ (x : Bool). quiet_after p x before) (nobody p c l b s n made) ∙ q) }

  -- after every list from a fresh panel: who is quiet
  told : (c : Settings) (l : Limits) (b : ℕ) (s : State) (n : Counts) → create c l b ≡ created s n → (ks : List Call) (p : ℕ) →
      quiet_in p (run_calls hash s n ks).state.links ≡ told_quiet p (run_calls hash s n ks).answers
  unfolding told_quiet
  told c l b s n made ks p =
      quiet-marks hash ks s n p ∙ ap (λ (b : Bool). quiet_after p b (run_calls hash s n ks).answers) (nobody p c l b s n made)

  pub no-unasked-payload : NoUnaskedPayload hash
  no-unasked-payload = record { always = never-unasked; marks = told }
