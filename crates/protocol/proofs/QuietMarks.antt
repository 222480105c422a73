-- "A quiet neighbour is lazy until it goes down or is told up by kind 3": after every list of calls the quiet marks are those that the answers tell.
-- Assumes nothing.
use Rattle.std.proofs.Common.{Some, ℕ, ◌≡◌, refl, ap, ◌∙◌, Bool, true, false, ◌&&◌, List, [], ◌∷◌, eqb, eqb-true, if◌then◌else◌}
use Rattle.storage.specs.Lists.Map.{insert, remove}
use Rattle.storage.proofs.ListsLaws.MapLaws.{cases, lookup-insert-same, lookup-insert-other, lookup-remove-same, lookup-remove-other}
use Rattle.postcard.specs.Message.{Event, Received, Broadcast, Fired, Up, Down}
use Rattle.protocol.specs.Links.{Links, is_quiet, marked, quiet_in, up_mark, link_up, link_down}
use Rattle.protocol.specs.State.{State, Counts}
use Rattle.protocol.specs.Run.{Run, begin}
use Rattle.protocol.specs.Gossips.{update_links}
use Rattle.protocol.specs.Neighbours.{on_neighbor_up, on_neighbor_down, forget_peer}
use Rattle.protocol.specs.Handle.{first_event, handle}
use Rattle.protocol.specs.Answer.{Call, accept, ask_whole}
use Rattle.protocol.specs.Calls.{state_after, counts_after, prepend, run_calls}
use Rattle.protocol.specs.NoNeighbourPassedOver.{by_event, is_up, is_down, tells_down}
use Rattle.protocol.specs.Quiet.{is_up_quiet, quiet_after_call, quiet_after}
use Rattle.protocol.proofs.Accepted.{ask-cases}
use Rattle.protocol.proofs.LinkSteps.{◌⨾◌, keeps-first_event, keeps-handle_message, keeps-broadcast_event, keeps-on_timer}

marked-up : (as_quiet : Bool) → marked is_quiet (Some (up_mark as_quiet)) ≡ as_quiet
unfolding marked up_mark
marked-up true = refl
marked-up false = refl

quiet-up : (as_quiet : Bool) (q p : ℕ) (l : Links) → quiet_in q (insert p (up_mark as_quiet) l) ≡ (if eqb q p then eqb q p && as_quiet else quiet_in q l)
unfolding quiet_in
quiet-up as_quiet q p l =
    cases (eqb q p) (λ e. rw e (rw (eqb-true q p e) (ap (marked is_quiet) (lookup-insert-same p (up_mark as_quiet) l) ∙ marked-up as_quiet)))
    (λ e. rw e (ap (marked is_quiet) (lookup-insert-other q p (up_mark as_quiet) l e)))

quiet-down : (q p : ℕ) (l : Links) → quiet_in q (remove p l) ≡ (if eqb q p then false else quiet_in q l)
unfolding quiet_in marked
quiet-down q p l =
    cases (eqb q p) (λ e. rw e (rw (eqb-true q p e) (ap (marked is_quiet) (lookup-remove-same p l)))) (λ e. rw e (ap (marked is_quiet) (lookup-remove-other q p l e)))

module _ (hash : List ℕ → ℕ) where
  -- one event: who is quiet after it
  pub step-quiet : (now : ℕ) (e : Event) (r : Run) (q : ℕ) →
      quiet_in q (handle hash now e r).state.links ≡ quiet_after_call q (accept e (handle hash now e r)) (quiet_in q r.state.links)
  unfolding handle quiet_after_call by_event tells_down is_up is_down is_up_quiet on_neighbor_up on_neighbor_down forget_peer update_links link_up link_down
  step-quiet now (Received p m) r q = (keeps-first_event now r ⨾ keeps-handle_message hash now p m (first_event now r)).quiets q
  step-quiet now (Broadcast content) r q = (keeps-first_event now r ⨾ keeps-broadcast_event hash now content (first_event now r)).quiets q
  step-quiet now (Fired t) r q = (keeps-first_event now r ⨾ keeps-on_timer now t (first_event now r)).quiets q
  step-quiet now (Up as_quiet p) r q = quiet-up as_quiet q p r.state.links
  step-quiet now (Down p) r q = quiet-down q p r.state.links

  pub call-quiet : (s : State) (n : Counts) (k : Call) (q : ℕ) →
      quiet_in q (state_after s (ask_whole hash s n k)).links ≡ quiet_after_call q (ask_whole hash s n k) (quiet_in q s.links)
  call-quiet s n k q =
      ask-cases hash s n k (λ x. quiet_in q (state_after s x).links ≡ quiet_after_call q x (quiet_in q s.links))
      (λ m. unfold state_after quiet_after_call by_event tells_down in refl)
      (λ e a. unfold state_after in (step-quiet k.now e (begin s n k.rooms) q))

  -- after every list of calls
  pub quiet-marks : (ks : List Call) (s : State) (n : Counts) (q : ℕ) →
      quiet_in q (run_calls hash s n ks).state.links ≡ quiet_after q (quiet_in q s.links) (run_calls hash s n ks).answers
  unfolding run_calls prepend quiet_after
  quiet-marks [] s n q = refl
  quiet-marks (k ∷ ks) s n q =
      quiet-marks ks (state_after s (ask_whole hash s n k)) (counts_after n (ask_whole hash s n k)) q
      ∙ ap (λ (b : Bool). quiet_after q b (run_calls hash (state_after s (ask_whole hash s n k)) (counts_after n (ask_whole hash s n k)) ks).answers) (call-quiet s n k q)
