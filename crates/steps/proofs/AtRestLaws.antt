-- A panel between two calls, and what is the same of the state that a first event leaves.
-- Assumes nothing.
use Rattle.steps.proofs.Words.{◌≡◌, ℕ, ◌<◌, length, refl, sym, ap, ◌∙◌, arith, Bool, true, false, if◌then◌else◌, ascending, keys, Cache, Timely, later_cache, Links, State, with_init, with_received, with_grafted, with_cache, peer_at, AtRest}
use Rattle.decide.specs.Settled.{settled}
use Rattle.block.specs.Caches.InBlock.{InOrder}
use Rattle.block.specs.Caches.GraftSteps.{Grafting}
use Rattle.steps.specs.Record.{takes_note}

-- what the functions of the tables ask
pub in_order : {A : Type 0} (c : Cache A) → Timely c → InOrder c
in_order c t = record { up = t.up; order = t.order }

module _ (s : State) (r : AtRest s) where
  pub received-order : InOrder s.received
  received-order = in_order s.received r.consistent.core.received_on

  pub cached-order : InOrder s.cache
  cached-order = in_order s.cache r.consistent.core.cache_on

  pub grafted-order : InOrder s.grafted
  grafted-order = in_order s.grafted r.consistent.core.grafted_on

  pub grafting : Grafting s
  grafting = record { links_up = r.consistent.core.links_up; order = grafted-order; whole = r.consistent.core.grafting }

-- a first event's eviction changes the three time caches and `init` alone
pub settled-as : {A : Type 0} (now : ℕ) (s : State) (f : State → A)
    → f (with_init true (with_grafted (later_cache now s.grafted) (with_received (later_cache now s.received) (with_cache (later_cache now s.cache) s)))) ≡ f s → f (settled now s) ≡ f s
unfolding settled
settled-as now s f e = on s.init
  where
    on : (b : Bool) → f (if b then s else with_init true (with_grafted (later_cache now s.grafted) (with_received (later_cache now s.received) (with_cache (later_cache now s.cache) s)))) ≡ f s
    on true = refl
    on false = e

module _ (now : ℕ) (s : State) where
  pub same_links : (settled now s).links ≡ s.links
  same_links = settled-as now s (λ (u : State). u.links) refl

  pub same_dropped : (settled now s).dropped ≡ s.dropped
  same_dropped = settled-as now s (λ (u : State). u.dropped) refl

  pub same_flag : (settled now s).timers.announce ≡ s.timers.announce
  same_flag = settled-as now s (λ (u : State). u.timers.announce) refl

  pub settled-up : AtRest s → ascending (keys (settled now s).links) ≡ true
  settled-up r = ap (λ (l : Links). ascending (keys l)) same_links ∙ r.consistent.core.links_up

  pub settled-low : (l : ℕ) → l < length s.links → l < length (settled now s).links
  settled-low l q = omega (arith, q, ap length same_links)

  pub settled-takes : (l id : ℕ) → takes_note (peer_at s l) id s.dropped ≡ takes_note (peer_at (settled now s) l) id (settled now s).dropped
  settled-takes l id = sym (settled-as now s (λ (u : State). takes_note (peer_at u l) id u.dropped) refl)
