-- A message taken in: the times fit a word, and the two inserts are the step.
-- Assumes nothing.
use Rattle.steps.proofs.Words.{◌≡◌, sym, ap, ◌∙◌, Bool, true, ◌&&◌, List, ℕ, ◌+◌, ◌*◌, ◌≤◌, ◌^◌, leb-true, leb, length, and_left, and_right, Cache, put, State, Settings, Ranged, AtRest}
use Rattle.std.proofs.Common.{subst}
use Rattle.protocol.specs.State.{durations_in_range}
use Rattle.protocol.specs.Whole.{cache_fits, content_held}
use Rattle.decide.specs.StateAfter.{taken_state}
use Rattle.block.specs.Sound.{held}
use Rattle.block.specs.Caches.InBlock.{InOrder, AtMost, received_also}
use Rattle.block.specs.Contents.CacheSteps.{message, cached_also}
use Rattle.steps.specs.TakeIn.{Takes}
use Rattle.steps.proofs.AtRestLaws.{cached-order}

-- the durations that are added to an instant
durations : (c : Settings) → durations_in_range c ≡ true → (c.message_id_retention ≤ 2 ^ 40) × (c.message_cache_retention ≤ 2 ^ 40)
unfolding durations_in_range
durations c e =
    let a : Bool = leb c.graft_timeout_1 (2 ^ 40) && leb c.graft_timeout_2 (2 ^ 40) && leb c.dispatch_timeout (2 ^ 40) in
    let d : Bool = leb c.message_cache_retention (2 ^ 40) in
    let i : Bool = leb c.message_id_retention (2 ^ 40) in
    let five : a && d && i ≡ true = and_left (a && d && i) (leb c.cache_evict_interval (2 ^ 40)) e in
    (leb-true c.message_id_retention (2 ^ 40) (and_right (a && d) i five), leb-true c.message_cache_retention (2 ^ 40) (and_right a d (and_left (a && d) i five)))

pub times-fit : (s : State) → Ranged s → (s.settings.message_id_retention ≤ 2 ^ 40) × (s.settings.message_cache_retention ≤ 2 ^ 40)
times-fit s r = durations s.settings r.durations

-- a cache within its limit
pub at_most : {A : Type 0} (n : ℕ) (c : Cache A) → cache_fits n c ≡ true → AtMost n c
unfolding cache_fits
at_most n c e = record {
  entries = leb-true (length c.entries) n (and_left (leb (length c.entries) n) (leb (length c.expiry) (2 * n)) e);
  expiry = leb-true (length c.expiry) (2 * n) (and_right (leb (length c.entries) n) (leb (length c.expiry) (2 * n)) e);
}

-- the two inserts
module _ (now id : ℕ) (content : List ℕ) (round : ℕ) (s : State) where
  pub most-received : Takes now id content round s → AtMost s.limits.R (put id tt (now + s.settings.message_id_retention) s.received)
  unfolding taken_state
  most-received k = at_most s.limits.R _ k.received

  module _ (t : State) (e : t ≡ received_also id (now + s.settings.message_id_retention) s) where
    pub order-then : AtRest s → InOrder t.cache
    order-then r = subst (λ (z : State). InOrder z.cache) (sym e) (cached-order s r)

    pub most-then : Takes now id content round s → AtMost t.limits.C (put id (message content round) (now + s.settings.message_cache_retention) t.cache)
    unfolding taken_state
    most-then k = subst (λ (z : State). AtMost z.limits.C (put id (message content round) (now + s.settings.message_cache_retention) z.cache)) (sym e) (at_most s.limits.C _ k.cached)

    pub bytes-then : Takes now id content round s → held (put id (message content round) (now + s.settings.message_cache_retention) t.cache).entries ≤ t.limits.B
    unfolding taken_state content_held
    bytes-then k = subst (λ (z : State). held (put id (message content round) (now + s.settings.message_cache_retention) z.cache).entries ≤ z.limits.B) (sym e) k.bytes

    pub taken-then : (u : State) → u ≡ cached_also id content round (now + s.settings.message_cache_retention) t → u ≡ taken_state now id content round s
    unfolding taken_state
    taken-then u f = f ∙ ap (cached_also id content round (now + s.settings.message_cache_retention)) e
