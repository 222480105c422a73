-- The stages of a new Swarm message keep what every event keeps.
-- Assumes nothing.
use Rattle.payloads.proofs.Words.{ap, ◌∙◌, List, [], ℕ, leb, keys, State, Settings, zero_counts, size_in_range, durations_in_range, limits_in_range, Run, Room, begin, eager_push, lazy_push, grafted_for, lazy_state}
use Rattle.std.proofs.Common.{subst}
use Rattle.protocol.specs.Gossips.{set_first}
use Rattle.protocol.proofs.Walk.{walk-eager_push}
use Rattle.protocol.proofs.ConsistentSteps.{Kept as KeptRun, kept-set_first, kept-sending, kept-lazy_push}
use Rattle.decide.specs.StateAfter.{first_set_state, pushed_on_state}
use Rattle.decide.proofs.StateLaws.{eager-state, lazy-state}
use Rattle.steps.proofs.StandsAfter.{Kept}

-- a run that is kept
kept_by : (r r' : Run) → KeptRun r r' → Kept r.state → Kept r'.state
kept_by r r' k x = record {
  consistent = k.consistent x.consistent;
  ranged = record {
    size = ap size_in_range k.settings ∙ x.ranged.size;
    durations = ap durations_in_range k.settings ∙ x.ranged.durations;
    threshold = ap (λ (c : Settings). leb c.optimization_threshold 65535) k.settings ∙ x.ranged.threshold;
    limits = ap limits_in_range k.limits ∙ x.ranged.limits;
  };
}

pub kept-first-set : (id sender round : ℕ) (s : State) → Kept s → Kept (first_set_state id sender round s)
unfolding set_first first_set_state
kept-first-set id sender round s k = kept_by (begin s zero_counts []) (set_first id sender round (begin s zero_counts [])) (kept-set_first id sender round (begin s zero_counts [])) k

pub kept-pushed-on : (rooms : List Room) (id round sender : ℕ) (s : State) → Kept s → Kept (pushed_on_state rooms id round sender s)
unfolding pushed_on_state
kept-pushed-on rooms id round sender s k =
    let r : Run = begin s zero_counts rooms in
    let skip : List ℕ = keys (grafted_for id s) in
    subst Kept (eager-state id [] round sender skip r k.consistent.core.links_up k.consistent.record_flag)
    (kept_by r (eager_push id [] round sender skip r) (walk-eager_push KeptRun kept-sending id [] round sender skip r) k)

pub kept-lazy : (id round sender : ℕ) (s : State) → Kept s → Kept (lazy_state id round sender s)
kept-lazy id round sender s k =
    let r : Run = begin s zero_counts [] in
    subst Kept (lazy-state id round sender r) (kept_by r (lazy_push id round sender r) (kept-lazy_push id round sender r) k)
