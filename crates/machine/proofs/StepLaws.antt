-- The sizes after each step, the steps that leave the state, and a step behind a first event's work.
-- Assumes nothing.
use Rattle.machine.proofs.Words.{◌≡◌, ℕ, ◌<◌, refl, sym, ap, ◌∙◌, Bool, true, false, List, [], length, leb, if◌then◌else◌, subst, Option, add_lazy, State, Counts, zero_counts, with_links, with_init, with_received, with_grafted, with_cache, size_in_range, durations_in_range, limits_in_range, Run, begin, late_state, peer_at}
use Rattle.std.specs.Borrow.{Bor}
use Rattle.storage.specs.Rows.Ident.{id_of}
use Rattle.storage.specs.declared.rows.id.Id.{Id}
use Rattle.time_cache.specs.TimeCache.{later_cache}
use Rattle.announcements.specs.declared.on_ihave.IhaveDecision.{IhaveDecision}
use Rattle.protocol.specs.Gossips.{Late}
use Rattle.protocol.specs.Consistent.{Consistent, Ranged}
use Rattle.protocol.proofs.WholeKept.{kept-first_event}
use Rattle.decide.specs.Settled.{settled}
use Rattle.decide.specs.Sizes.{sizes_of}
use Rattle.decide.proofs.SettledLaws.{first-state}
use Rattle.decide.proofs.Gossip.{late-sizes}
use Rattle.decide.proofs.GraftSendGraft.{prune-sizes}
use Rattle.decide.proofs.StateAfterLaws.{prune-state, late-state}
use Rattle.steps.specs.Rooms.{rooms_in}
use Rattle.steps.specs.declared.call.Rooms.{Rooms}
use Rattle.steps.specs.declared.call.Call.{Call}
use Rattle.steps.proofs.AtRestLaws.{settled-as, same_links}
use Rattle.payloads.specs.OnLateGraftReply.{late_value, LateHeld}
use Rattle.payloads.specs.declared.on_gossip.NewMessage.{NewMessage}
use Rattle.payloads.specs.declared.on_late_graft_reply.LateCopy.{LateCopy}
use Rattle.payloads.specs.declared.on_late_graft_reply.Late.{Late as Kind}
use Rattle.payloads.specs.declared.on_late_graft_reply.Late.TheVariants.{Duplicate, Repeated, Faster}
use Rattle.payloads.specs.declared.broadcast.OwnMessage.{OwnMessage}
use Rattle.announcements.specs.declared.on_announce_dropped_timer.StillCached.{StillCached}
use Rattle.machine.specs.Kinds.Meaning.{step_state, step_far, step_counts, StepHeld}
use Rattle.machine.specs.declared.kinds.Step.{Step}
use Rattle.machine.specs.declared.kinds.Step.TheVariants as step
use Rattle.machine.specs.Steps.{after_step, Ready, Due}

pub settled-consistent : (now : ℕ) (s : State) → Consistent s → Consistent (settled now s)
settled-consistent now s x = subst Consistent (first-state now (begin s zero_counts []) x.core) ((kept-first_event now (begin s zero_counts [])).consistent x)

pub settled-rooms : (now : ℕ) (s : State) (peer : ℕ) (rooms : Rooms) → rooms_in (settled now s) peer rooms ≡ rooms_in s peer rooms
unfolding rooms_in
settled-rooms now s peer rooms = settled-as now s (λ (t : State). rooms_in t peer rooms) refl

-- the sizes of the state after each step
module _ (t : State) (x : Consistent t) where
  abbrev plain : Run
  plain = begin t zero_counts []

  prune-sized : (p : ℕ) → sizes_of t ≡ sizes_of (with_links (add_lazy p t.links) t)
  prune-sized p = sym (prune-sizes p plain x.core.links_up) ∙ ap sizes_of (prune-state p plain)

  late-sized : (sender id : ℕ) (l : Late) → sizes_of t ≡ sizes_of (late_state sender id l t)
  late-sized sender id l = sym (late-sizes sender id l plain x.core) ∙ ap sizes_of (late-state sender id l plain)

  -- the other steps add nothing
  pub others-sized : (call : Call) (r : Step)
      → ((m : NewMessage) → r ≡ step.NewSwarm m → ⊥)
      → ((link : ℕ) (w : Option Id) → r ≡ step.Graft link w → ⊥)
      → ((link : ℕ) (d : IhaveDecision) → r ≡ step.IHave link d → ⊥)
      → ((m : OwnMessage) → r ≡ step.Broadcast m → ⊥)
      → ((id : Id) → r ≡ step.SendGraft id → ⊥)
      → ((rows : Bor (List ℕ)) → r ≡ step.DispatchLazyPush rows → ⊥)
      → (r ≡ step.EvictCache → ⊥)
      → ((cached : StillCached) → r ≡ step.AnnounceDropped cached → ⊥)
      → sizes_of t ≡ sizes_of (after_step call r t)
  unfolding step_state
  others-sized call step.Nothing a b c d e f g h = refl
  others-sized call (step.NewSwarm m) a b c d e f g h = absurd (a m refl)
  others-sized call (step.NewNeighbors sender content) a b c d e f g h = refl
  others-sized call (step.Late copy) a b c d e f g h = late-sized copy.sender (id_of copy.id) (late_value t copy.kind)
  others-sized call (step.Prune link) a b c d e f g h = prune-sized (peer_at t link)
  others-sized call (step.Graft link w) a b c d e f g h = absurd (b link w refl)
  others-sized call (step.IHave link x) a b c d e f g h = absurd (c link x refl)
  others-sized call (step.Broadcast m) a b c d e f g h = absurd (d m refl)
  others-sized call (step.SendGraft id) a b c d e f g h = absurd (e id refl)
  others-sized call (step.DispatchLazyPush rows) a b c d e f g h = absurd (f rows refl)
  others-sized call step.EvictCache a b c d e f g h = absurd (g refl)
  others-sized call (step.AnnounceDropped cached) a b c d e f g h = absurd (h cached refl)

-- the steps that leave the state as it is
pub others-still : (call : Call) (r : Step) (t : State)
    → ((m : NewMessage) → r ≡ step.NewSwarm m → ⊥)
    → ((copy : LateCopy) → r ≡ step.Late copy → ⊥)
    → ((link : ℕ) → r ≡ step.Prune link → ⊥)
    → ((link : ℕ) (w : Option Id) → r ≡ step.Graft link w → ⊥)
    → ((link : ℕ) (d : IhaveDecision) → r ≡ step.IHave link d → ⊥)
    → ((m : OwnMessage) → r ≡ step.Broadcast m → ⊥)
    → ((id : Id) → r ≡ step.SendGraft id → ⊥)
    → ((rows : Bor (List ℕ)) → r ≡ step.DispatchLazyPush rows → ⊥)
    → (r ≡ step.EvictCache → ⊥)
    → ((cached : StillCached) → r ≡ step.AnnounceDropped cached → ⊥)
    → t ≡ after_step call r t
unfolding step_state
others-still call step.Nothing t a b c d e f g h i j = refl
others-still call (step.NewSwarm m) t a b c d e f g h i j = absurd (a m refl)
others-still call (step.NewNeighbors sender content) t a b c d e f g h i j = refl
others-still call (step.Late copy) t a b c d e f g h i j = absurd (b copy refl)
others-still call (step.Prune link) t a b c d e f g h i j = absurd (c link refl)
others-still call (step.Graft link w) t a b c d e f g h i j = absurd (d link w refl)
others-still call (step.IHave link x) t a b c d e f g h i j = absurd (e link x refl)
others-still call (step.Broadcast m) t a b c d e f g h i j = absurd (f m refl)
others-still call (step.SendGraft id) t a b c d e f g h i j = absurd (g id refl)
others-still call (step.DispatchLazyPush rows) t a b c d e f g h i j = absurd (h rows refl)
others-still call step.EvictCache t a b c d e f g h i j = absurd (i refl)
others-still call (step.AnnounceDropped cached) t a b c d e f g h i j = absurd (j cached refl)

-- a first event's work is done
settled-init : (now : ℕ) (s : State) → (settled now s).init ≡ true
unfolding settled
settled-init now s = on s.init refl
  where
    on : (b : Bool) → s.init ≡ b → (if b then s else with_init true (with_grafted (later_cache now s.grafted) (with_received (later_cache now s.received) (with_cache (later_cache now s.cache) s)))).init ≡ true
    on true e = e
    on false e = refl

-- what a step names is there where the links are the same
held_same : (s t : State) (r : Step) → length s.links ≡ length t.links → StepHeld s r → StepHeld t r
held_same s t step.Nothing e a = a
held_same s t (step.NewSwarm m) e a = a
held_same s t (step.NewNeighbors sender content) e a = a
held_same s t (step.Late copy) e a = late-same copy.kind a
  where
    late-same : (k : Kind) → LateHeld s k → LateHeld t k
    late-same (Faster first) h = subst (λ (n : ℕ). first < n) e h
    late-same Duplicate h = h
    late-same Repeated h = h
held_same s t (step.Prune link) e a = subst (λ (n : ℕ). link < n) e a
held_same s t (step.Graft link w) e a = subst (λ (n : ℕ). link < n) e a
held_same s t (step.IHave link d) e a = record { there = subst (λ (n : ℕ). link < n) e a.there; few = a.few }
held_same s t (step.Broadcast m) e a = a
held_same s t (step.SendGraft id) e a = a
held_same s t (step.DispatchLazyPush rows) e a = a
held_same s t step.EvictCache e a = a
held_same s t (step.AnnounceDropped cached) e a = a

settled-ranged : (now : ℕ) (s : State) → Ranged s → Ranged (settled now s)
settled-ranged now s k = record {
  size = settled-as now s (λ (u : State). size_in_range u.settings) refl ∙ k.size;
  durations = settled-as now s (λ (u : State). durations_in_range u.settings) refl ∙ k.durations;
  threshold = settled-as now s (λ (u : State). leb u.settings.optimization_threshold 65535) refl ∙ k.threshold;
  limits = settled-as now s (λ (u : State). limits_in_range u.limits) refl ∙ k.limits;
}

-- the step behind a first event's work
pub due-ready : (call : Call) (r : Step) (s t : State) → Due call r s → t ≡ settled call.instant.0 s → Ready call r t
due-ready call r s t due e =
    subst (Ready call r) (sym e)
    (record {
      allowed = record { rest = record { consistent = settled-consistent call.instant.0 s due.allowed.rest.consistent; ranged = settled-ranged call.instant.0 s due.allowed.rest.ranged }; fits = due.allowed.fits };
      begun = settled-init call.instant.0 s;
      held = held_same s (settled call.instant.0 s) r (ap length (sym (same_links call.instant.0 s))) due.held;
      decided = due.decided;
      near = due.near;
      early = due.early;
    })

-- the steps that are no new Swarm message
module _ (r : Step) (n : (m : NewMessage) → r ≡ step.NewSwarm m → ⊥) where
  pub others-near : false ≡ step_far r
  unfolding step_far
  others-near = on r n
    where
      on : (x : Step) → ((m : NewMessage) → x ≡ step.NewSwarm m → ⊥) → false ≡ step_far x
      on (step.NewSwarm x) m = absurd (m x refl)
      on _ m = refl

  pub others-counted : (c : Counts) → c ≡ step_counts r c
  unfolding step_counts
  others-counted c = on r n
    where
      on : (x : Step) → ((m : NewMessage) → x ≡ step.NewSwarm m → ⊥) → c ≡ step_counts x c
      on (step.NewSwarm x) m = absurd (m x refl)
      on _ m = refl
