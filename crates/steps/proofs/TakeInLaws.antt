-- A message taken in: the numbers of entries with it, and what it asks of a state that is within its limits after.
-- Assumes nothing.
use Rattle.steps.proofs.Words.{Option, Some, None, ◌≡◌, ℕ, suc, ◌+◌, ◌-◌, ◌≤◌, ◌^◌, length, sym, ◌∙◌, ap, refl, arith, add-one, Bool, true, false, not, ◌&&◌, List, [], ◌∷◌, leb, eqb, leb-true, Map, cases, and_left, and_right, Timed, Cache, holds, put, State, Limits, Cached, with_cache, CoreOf, cache_fits, Sizes, AtRest}
use Rattle.std.proofs.Common.{is_some}
use Rattle.std.proofs.Math.Path.{subst}
use mir.Val.{bool_byte}
use Rattle.storage.specs.Lists.Base.{sum}
use Rattle.storage.specs.Lists.Map.{lookup}
use Rattle.storage.proofs.ListsLaws.Branches.{if-both}
use Rattle.time_cache.specs.TimeCache.{value_of, get}
use Rattle.protocol.specs.Whole.{fits, content_held}
use Rattle.decide.specs.Sizes.{sizes_of, grown}
use Rattle.decide.proofs.SizesAfter.{content_length}
use Rattle.decide.specs.Settled.{settled}
use Rattle.decide.specs.StateAfter.{first_state, taken_state}
use Rattle.decide.proofs.Broadcast.{content-put}
use Rattle.decide.proofs.GraftSendGraft.{length-put, expiry-put}
use Rattle.decide.proofs.SettledLaws.{evicted}
use Rattle.protocol.specs.Ticks.{evict}
use Rattle.steps.specs.Shared.{sizes_value}
use Rattle.steps.specs.TakeIn.{Takes}
use Rattle.steps.specs.declared.Sizes.{Sizes as CodeSizes}
use Rattle.steps.proofs.StandsAfter.{Kept, kept-first, kept-taken}

-- a key is there where a value is found
module _ {A : Type 0} (k : ℕ) (c : Cache A) where
  holds-get : holds k c ≡ is_some (get k c)
  unfolding get value_of
  holds-get = by (lookup k c.entries)
    where
      by : (o : Option (Timed A)) → is_some o ≡ is_some (value_of o)
      by None = unfold value_of in refl
      by (Some x) = unfold value_of in refl

-- the content that is found is among those that are held
found-length : (k : ℕ) (v : Cached) (m : Map (Timed Cached)) → value_of (lookup k m) ≡ Some v → length v.content ≤ sum (λ e. length e.value.value.content) m
unfolding lookup sum value_of
found-length k v [] h = let z : ◌≡◌ {A = ℕ} 0 1 = cc in absurd (omega arith)
found-length k v (e ∷ m) h =
    cases (eqb k e.key)
    (λ q. let s : Some e.value.value ≡ Some v = rw q at h in
    let w : e.value.value ≡ v = cc in
    omega (arith, ap (λ (x : Cached). length x.content) w))
    (λ q. omega (arith, found-length k v m (rw q at h)))

pub byte-small : (b : Bool) → bool_byte b ≤ 1
byte-small true = omega arith
byte-small false = omega arith

-- a state at rest still is at rest
pub rest-kept : (s : State) → Kept s → AtRest s
rest-kept s k = record { consistent = k.consistent; ranged = k.ranged }

pub kept-rest : (s : State) → AtRest s → Kept s
kept-rest s r = record { consistent = r.consistent; ranged = r.ranged }

first-settled : (now : ℕ) (s : State) → CoreOf s → first_state now s ≡ settled now s
unfolding first_state settled evict
first-settled now s c =
    let e = evicted now s c in
    if-both s.init refl (rw (e.received, e.grafted, e.cache) refl)

-- once a first event has evicted
pub settled-rest : (now : ℕ) (s : State) → AtRest s → AtRest (settled now s)
settled-rest now s r = rest-kept (settled now s) (subst Kept (first-settled now s r.consistent.core) (kept-first now s (kept-rest s r)))

-- once a message is taken in
pub taken-rest : (now id : ℕ) (content : List ℕ) (round : ℕ) (s : State) → AtRest s → AtRest (taken_state now id content round s)
taken-rest now id content round s r = rest-kept (taken_state now id content round s) (kept-taken now id content round s (kept-rest s r))

-- the numbers with a message taken in
abbrev pub taken_numbers : CodeSizes → ℕ → ℕ → ℕ → CodeSizes
taken_numbers z received cached contents = record {
  links = z.links;
  received = received;
  received_rows = z.received_rows + 1;
  cached = cached;
  cached_rows = z.cached_rows + 1;
  contents = contents;
  grafted = z.grafted;
  grafted_rows = z.grafted_rows;
  missing = z.missing;
  timers = z.timers;
  queued = z.queued;
  dropped = z.dropped;
}

module _ (now id : ℕ) (content : List ℕ) (round : ℕ) (s : State) (rest : AtRest s) (z : CodeSizes) (e : sizes_value z ≡ sizes_of s) (there : Bool) (is : there ≡ holds id s.received) where
  received_grown : z.received + bool_byte (not there) ≡ length (put id tt (now + s.settings.message_id_retention) s.received).entries
  unfolding sizes_of
  received_grown =
      on there ∙ ap (λ (n : ℕ). grown there n) (ap (λ (y : Sizes). y.received) e)
      ∙ ap (λ (b : Bool). grown b (length s.received.entries)) is
      ∙ sym (length-put id tt (now + s.settings.message_id_retention) s.received rest.consistent.core.received_on.up)
    where
      on : (b : Bool) → z.received + bool_byte (not b) ≡ grown b z.received
      on true = unfold grown in (omega arith)
      on false = unfold grown in (omega arith)

  taken-by : (cached contents : ℕ) → cached ≡ grown (holds id s.cache) z.cached → contents ≡ (z.contents - content_length (get id s.cache)) + length content
      → sizes_value (taken_numbers z (z.received + bool_byte (not there)) cached contents) ≡ sizes_of (taken_state now id content round s)
  unfolding taken_state sizes_of content_held
  taken-by cached contents ec et = λ p. record {
    links = (e p).links;
    received = received_grown p;
    received_expiry = (add-one z.received_rows ∙ ap (λ (y : Sizes). suc y.received_expiry) e ∙ sym (expiry-put id tt (now + s.settings.message_id_retention) s.received)) p;
    cached = (ec ∙ ap (λ (y : Sizes). grown (holds id s.cache) y.cached) e
        ∙ sym (length-put id (record { content = content; round = round }) (now + s.settings.message_cache_retention) s.cache rest.consistent.core.cache_on.up)) p;
    cached_expiry = (add-one z.cached_rows ∙ ap (λ (y : Sizes). suc y.cached_expiry) e ∙ sym (expiry-put id (record { content = content; round = round }) (now + s.settings.message_cache_retention) s.cache)) p;
    content = (et ∙ ap (λ (y : Sizes). (y.content - content_length (get id s.cache)) + length content) e
        ∙ sym (content-put id (now + s.settings.message_cache_retention) (record { content = content; round = round }) s.cache rest.consistent.core.cache_on.up)) p;
    grafted = (e p).grafted;
    grafted_expiry = (e p).grafted_expiry;
    missing = (e p).missing;
    timers = (e p).timers;
    queued = (e p).queued;
    recorded = (e p).recorded;
  }

  -- a content that was cached goes
  pub taken-over : (v : Cached) → Some v ≡ get id s.cache
      → sizes_value (taken_numbers z (z.received + bool_byte (not there)) z.cached ((z.contents - length v.content) + length content)) ≡ sizes_of (taken_state now id content round s)
  unfolding grown content_length
  taken-over v g =
      let t : holds id s.cache ≡ true = holds-get id s.cache ∙ ap is_some (sym g) in
      taken-by z.cached ((z.contents - length v.content) + length content) (sym (ap (λ (b : Bool). grown b z.cached) t))
      (ap (λ (o : Option Cached). (z.contents - content_length o) + length content) g)

  pub taken-new : None ≡ get id s.cache
      → sizes_value (taken_numbers z (z.received + bool_byte (not there)) (z.cached + 1) (z.contents + length content)) ≡ sizes_of (taken_state now id content round s)
  unfolding grown content_length
  taken-new g =
      let t : holds id s.cache ≡ false = holds-get id s.cache ∙ ap is_some (sym g) in
      taken-by (z.cached + 1) (z.contents + length content) (add-one z.cached ∙ sym (ap (λ (b : Bool). grown b z.cached) t))
      (plain ∙ ap (λ (o : Option Cached). (z.contents - content_length o) + length content) g)
    where
      plain : z.contents + length content ≡ (z.contents - 0) + length content
      plain = omega arith

-- what is cached is no longer than all that is
pub old-least : (id : ℕ) (v : Cached) (s : State) (z : CodeSizes) → sizes_value z ≡ sizes_of s → Some v ≡ get id s.cache → length v.content ≤ z.contents
unfolding sizes_of content_held get
old-least id v s z e g = omega (arith, found-length id v s.cache.entries (sym g), ap (λ (y : Sizes). y.content) e)

-- a later state with these caches and limits, which is within every limit
pub takes-later : (now id : ℕ) (content : List ℕ) (round : ℕ) (s z : State) → AtRest s → now ≤ 2 ^ 62 → fits z ≡ true → z.limits ≡ s.limits
    → z.received ≡ (taken_state now id content round s).received → z.cache ≡ (taken_state now id content round s).cache → Takes now id content round s
unfolding fits content_held
takes-later now id content round s z rest early e l r c =
    let n : Bool = leb (length z.links) z.limits.N in
    let rc : Bool = cache_fits z.limits.R z.received in
    let cc : Bool = cache_fits z.limits.C z.cache in
    let b : Bool = leb (content_held z) z.limits.B in
    let g : Bool = cache_fits z.limits.G z.grafted in
    let m : Bool = leb (length z.missing) z.limits.S in
    let t : Bool = leb (length z.timers.graft) z.limits.T in
    let q : Bool = leb (length z.queue) z.limits.Q in
    let d : Bool = leb (length z.dropped) z.limits.D in
    let four : n && rc && cc && b ≡ true =
    and_left (n && rc && cc && b) g (and_left (n && rc && cc && b && g) m (and_left (n && rc && cc && b && g && m) t (and_left (n && rc && cc && b && g && m && t) q (and_left (n && rc && cc && b && g && m && t && q) d e)))) in
    let three : n && rc && cc ≡ true = and_left (n && rc && cc) b four in
    record {
      rest = rest;
      early = early;
      received = (λ k. cache_fits (sym l k).R (sym r k)) ∙ and_right n rc (and_left (n && rc) cc three);
      cached = (λ k. cache_fits (sym l k).C (sym c k)) ∙ and_right (n && rc) cc three;
      bytes = omega (arith, leb-true (content_held z) z.limits.B (and_right (n && rc && cc) b four), ap (λ (k : Limits). k.B) l, ap (λ (k : Cache Cached). content_held (with_cache k z)) c);
    }
