-- The numbers of entries after a new Swarm message.
-- Assumes nothing.
use Rattle.payloads.proofs.Words.{◌≡◌, refl, sym, ap, ◌∙◌, Bool, true, false, not, ◌&&◌, ℕ, suc, ◌+◌, ◌-◌, ◌≤◌, arith, length, List, [], ◌∷◌, ◌++◌, ◌==◌, count_by, eqb, filter, sum, Map, has, id_of, Cache, lazy_peers, State, Cached, zero_counts, Run, begin, note_for, settled, Sizes, state_of, Head, rooms_of, AtRest, sizes_value, links_from, Call, settled-as, same_dropped, links_of}
use mir.Val.{bool_byte}
use Rattle.storage.specs.Lists.Base.{member}
use Rattle.storage.specs.Lists.Map.{lookup}
use Rattle.protocol.specs.Whole.{content_held}
use Rattle.decide.specs.Sizes.{sizes_of, shrunk}
use Rattle.decide.proofs.SizesAfter.{taken_sizes, new_sizes}
use Rattle.decide.specs.StateAfter.{taken_state, pushed_on_state, pushed_state, recorded_state, lazy_state}
use Rattle.decide.proofs.Gossip.{new-sizes}
use Rattle.decide.proofs.StateLaws.{new-state}
use Rattle.steps.specs.declared.Sizes.{Sizes as CodeSizes}
use Rattle.steps.proofs.TakeInLaws.{settled-rest, byte-small}
use Rattle.payloads.specs.OnGossip.{Decided, after_gossip}
use Rattle.payloads.specs.declared.on_gossip.NewMessage.{NewMessage}
use Rattle.payloads.proofs.PushedLaws.{taken-recorded, taken-queued}
use Rattle.payloads.proofs.GossipStateLaws.StageLaws.{taken, queued, end, end-new, end-received, end-cache, end-queue, end-record, first-links, first-queue, pushed-long}

-- the numbers with other numbers of missing messages, graft timers, queued and recorded entries
abbrev pub gossip_numbers : CodeSizes → ℕ → ℕ → ℕ → ℕ → CodeSizes
gossip_numbers z missing timers queued dropped = record {
  links = z.links;
  received = z.received;
  received_rows = z.received_rows;
  cached = z.cached;
  cached_rows = z.cached_rows;
  contents = z.contents;
  grafted = z.grafted;
  grafted_rows = z.grafted_rows;
  missing = missing;
  timers = timers;
  queued = queued;
  dropped = dropped;
}

shrunk-by : (b : Bool) (n : ℕ) → n - bool_byte b ≡ shrunk b n
unfolding shrunk
shrunk-by true n = refl
shrunk-by false n = omega arith

has-fewer : {A : Type 0} (k : ℕ) (l : Map A) (b : Bool) → b ≡ has k l → bool_byte b ≤ length l
unfolding lookup
has-fewer k [] b e = omega (arith, ap bool_byte e)
has-fewer k (x ∷ l) b e = omega (arith, byte-small b)

member-fewer : (k : ℕ) (l : List ℕ) (b : Bool) → b ≡ member k l → bool_byte b ≤ length l
unfolding member
member-fewer k [] b e = omega (arith, ap bool_byte e)
member-fewer k (x ∷ l) b e = omega (arith, byte-small b)

module _ (call : Call) (m : NewMessage) (h : Head) (xs : List ℕ) (rest : AtRest (state_of h xs)) where
  abbrev shown : State
  shown = state_of h xs

  abbrev id : ℕ
  id = id_of m.id

  abbrev next : ℕ
  next = suc m.round.0

  abbrev t : State
  t = settled call.instant.0 shown

  abbrev last : State
  last = after_gossip call m t

  -- what decide counts
  numbers : sizes_of last ≡ new_sizes (rooms_of call t) m.sender id m.content.now t
  numbers =
      let r : Run = begin t zero_counts (rooms_of call t) in
      let c = (settled-rest call.instant.0 shown rest).consistent in
      ap sizes_of (sym (new-state call.instant.0 m.sender id m.content.now m.round.0 r c)) ∙ new-sizes call.instant.0 m.sender id m.content.now m.round.0 r c.core

  end-last : end call m next t ≡ last
  end-last = end-new call m next t refl

  module _ (z : CodeSizes) (e : sizes_value z ≡ sizes_of (taken call m next t))
      (count : ℕ) (c : count ≡ count_by (λ l. not l.eager && not (l.peer == m.sender)) (links_from 0 shown.links))
      (d : Decided call m.sender id m.round.0 t m.decision)
      (missing : Bool) (mi : missing ≡ has id shown.missing) (timer : Bool) (ti : timer ≡ member id shown.timers.graft) where
    lazy-same : (lazy_state id next m.sender (taken call m next t)).queue ≡ (queued call m next t).queue
    unfolding lazy_state pushed_on_state pushed_state recorded_state taken_state
    lazy-same = λ p. sym (first-queue call m next t) p ++ note_for (filter (λ q. not (eqb q m.sender)) (lazy_peers (sym (first-links call m next t) p))) id next

    queue-is : z.queued + count ≡ length last.queue
    queue-is =
        taken-queued call.instant.0 id m.content.now next h xs z e m.sender count c
        ∙ ap length lazy-same ∙ sym (ap length (end-queue call m next t)) ∙ ap (λ (s : State). length s.queue) end-last

    dropped-is : z.dropped + length (links_of m.decision.push.noted) ≡ length last.dropped
    dropped-is =
        omega (
          arith,
          taken-recorded call.instant.0 id m.content.now next h xs z e,
          ap length (same_dropped call.instant.0 shown),
          pushed-long call m next t d,
          ap length (end-record call m next t),
          ap (λ (s : State). length s.dropped) end-last,
        )

    settled-has : has id t.missing ≡ has id shown.missing
    settled-has = settled-as call.instant.0 shown (λ (s : State). has id s.missing) refl

    settled-member : member id t.timers.graft ≡ member id shown.timers.graft
    settled-member = settled-as call.instant.0 shown (λ (s : State). member id s.timers.graft) refl

    missing-is : z.missing - bool_byte missing ≡ length last.missing
    unfolding sizes_of taken_state new_sizes taken_sizes
    missing-is =
        ap (λ k. k - bool_byte missing) (ap (λ (y : Sizes). y.missing) e)
        ∙ shrunk-by missing (length t.missing)
        ∙ ap (λ b. shrunk b (length t.missing)) (mi ∙ sym settled-has)
        ∙ sym (ap (λ (y : Sizes). y.missing) numbers)

    timers-are : z.timers - bool_byte timer ≡ length last.timers.graft
    unfolding sizes_of taken_state new_sizes taken_sizes
    timers-are =
        ap (λ k. k - bool_byte timer) (ap (λ (y : Sizes). y.timers) e)
        ∙ shrunk-by timer (length t.timers.graft)
        ∙ ap (λ b. shrunk b (length t.timers.graft)) (ti ∙ sym settled-member)
        ∙ sym (ap (λ (y : Sizes). y.timers) numbers)

    received-is : last.received ≡ (taken call m next t).received
    received-is = ap (λ (s : State). s.received) (sym end-last) ∙ end-received call m next t

    cache-is : last.cache ≡ (taken call m next t).cache
    cache-is = ap (λ (s : State). s.cache) (sym end-last) ∙ end-cache call m next t

    links-are : z.links ≡ length last.links
    unfolding sizes_of taken_state new_sizes taken_sizes
    links-are = ap (λ (y : Sizes). y.links) e ∙ sym (ap (λ (y : Sizes). y.links) numbers)

    grafted-are : z.grafted ≡ length last.grafted.entries
    unfolding sizes_of taken_state new_sizes taken_sizes
    grafted-are = ap (λ (y : Sizes). y.grafted) e ∙ sym (ap (λ (y : Sizes). y.grafted) numbers)

    rows-are : z.grafted_rows ≡ length last.grafted.expiry
    unfolding sizes_of taken_state new_sizes taken_sizes
    rows-are = ap (λ (y : Sizes). y.grafted_expiry) e ∙ sym (ap (λ (y : Sizes). y.grafted_expiry) numbers)

    pub sizes-are : sizes_value (gossip_numbers z (z.missing - bool_byte missing) (z.timers - bool_byte timer) (z.queued + count) (z.dropped + length (links_of m.decision.push.noted))) ≡ sizes_of last
    unfolding sizes_of content_held
    sizes-are = λ p. record {
      links = links-are p;
      received = (ap (λ (y : Sizes). y.received) e ∙ sym (ap (λ (k : Cache (Unit {0})). length k.entries) received-is)) p;
      received_expiry = (ap (λ (y : Sizes). y.received_expiry) e ∙ sym (ap (λ (k : Cache (Unit {0})). length k.expiry) received-is)) p;
      cached = (ap (λ (y : Sizes). y.cached) e ∙ sym (ap (λ (k : Cache Cached). length k.entries) cache-is)) p;
      cached_expiry = (ap (λ (y : Sizes). y.cached_expiry) e ∙ sym (ap (λ (k : Cache Cached). length k.expiry) cache-is)) p;
      content = (ap (λ (y : Sizes). y.content) e ∙ sym (ap (λ (k : Cache Cached). sum (λ x. length x.value.value.content) k.entries) cache-is)) p;
      grafted = grafted-are p;
      grafted_expiry = rows-are p;
      missing = missing-is p;
      timers = timers-are p;
      queued = queue-is p;
      recorded = dropped-is p;
    }

  -- what is not there is not taken away
  pub missing-fewer : (z : CodeSizes) → sizes_value z ≡ sizes_of (taken call m next t) → (b : Bool) → b ≡ has id shown.missing → bool_byte b ≤ z.missing
  unfolding sizes_of taken_state
  missing-fewer z e b f =
      let g : b ≡ has id t.missing = f ∙ sym (settled-as call.instant.0 shown (λ (s : State). has id s.missing) refl) in
      omega (arith, ap (λ (y : Sizes). y.missing) e, has-fewer id t.missing b g)

  pub timers-fewer : (z : CodeSizes) → sizes_value z ≡ sizes_of (taken call m next t) → (b : Bool) → b ≡ member id shown.timers.graft → bool_byte b ≤ z.timers
  unfolding sizes_of taken_state
  timers-fewer z e b f =
      let g : b ≡ member id t.timers.graft = f ∙ sym (settled-as call.instant.0 shown (λ (s : State). member id s.timers.graft) refl) in
      omega (arith, ap (λ (y : Sizes). y.timers) e, member-fewer id t.timers.graft b g)
