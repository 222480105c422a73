-- The output of any step can be told: its bytes, with those of a first event's work, are at most 2^40.
-- Assumes nothing.
use Rattle.machine.proofs.Words.{ℕ, ◌+◌, ◌^◌, ◌≤◌, List, ◌++◌, arith, length, concat_map, Neighbors, action_bytes, wanted_value, State, Room, Sound, state_of, peer_at, Head, settled, settled_actions}
use lib.ListN.{length-map}
use Rattle.announcements.specs.OnIhave.{entry_value, entries_value}
use Rattle.storage.specs.Rows.Ident.{id_of}
use Rattle.payloads.specs.OnLateGraftReply.{late_value}
use Rattle.decide.proofs.LengthLaws.{length-actions}
use Rattle.machine.specs.Kinds.Meaning.{StepHeld, step_actions}
use Rattle.machine.specs.declared.kinds.Step.{Step}
use Rattle.machine.specs.declared.kinds.Step.TheVariants as step
use Rattle.machine.proofs.BoundsLaws.Light.{Light, light-none, light-more, light-then}
use Rattle.machine.proofs.BoundsLaws.Small.{Small, small-block, small-settled}
use Rattle.machine.proofs.BoundsLaws.DispatchLight.{dispatch-light}
use Rattle.machine.proofs.BoundsLaws.StepsLight.{settled-light, evict-light, announce-light, graft-light, send-graft-light, ihave-light, broadcast-light, late-light, new-light, emit-light}

-- the actions of each step; what it names is there in the state `t` before the call, and `s` is the state that a first event leaves
step-light : (rooms : List Room) (now : ℕ) (t : State) (r : Step) (s : State) → Small s → StepHeld t r → Light 7314866176 (step_actions rooms now r s)
unfolding step_actions
step-light rooms now t step.Nothing s small held = light-none
step-light rooms now t (step.NewSwarm m) s small held =
    light-more (new-light rooms m.sender (id_of m.id) m.content.now m.round.0 s small held.short) (omega arith)
step-light rooms now t (step.NewNeighbors sender content) s small held =
    light-more (emit-light sender content.now Neighbors held.short) (omega arith)
step-light rooms now t (step.Late copy) s small held =
    light-more (late-light rooms copy.sender (late_value s copy.kind)) (omega arith)
step-light rooms now t (step.Prune link) s small held = light-none
step-light rooms now t (step.Graft link w) s small held = light-more (graft-light rooms (peer_at s link) (wanted_value w) s small) (omega arith)
step-light rooms now t (step.IHave link d) s small held =
    light-more (ihave-light (entries_value d.entries.now) s (omega (arith, length-map d.entries.now entry_value, held.few))) (omega arith)
step-light rooms now t (step.Broadcast m) s small held =
    light-more (broadcast-light rooms (id_of m.id) m.content.now s small held.short) (omega arith)
step-light rooms now t (step.SendGraft id) s small held = light-more (send-graft-light rooms (id_of id) s) (omega arith)
step-light rooms now t (step.DispatchLazyPush rows) s small held = dispatch-light rooms s small
step-light rooms now t step.EvictCache s small held = light-more (evict-light now s small) (omega arith)
step-light rooms now t (step.AnnounceDropped cached) s small held = light-more (announce-light s) (omega arith)

module _ (h : Head) (block : List ℕ) (rooms : List Room) (now : ℕ) (r : Step) (sound : Sound h block) (held : StepHeld (state_of h block) r) where
  -- the length of the output
  pub step-length : length (concat_map action_bytes (settled_actions now (state_of h block) ++ step_actions rooms now r (settled now (state_of h block)))) ≤ 2 ^ 40
  step-length =
      let s : State = state_of h block in
      let small : Small (settled now s) = small-settled now s (small-block h block sound) in
      let both : Light (33836 + 7314866176) (settled_actions now s ++ step_actions rooms now r (settled now s)) =
      light-then (settled-light now s (small-block h block sound)) (step-light rooms now s r (settled now s) small held) in
      omega (arith, length-actions (settled_actions now s ++ step_actions rooms now r (settled now s)), both.most)
