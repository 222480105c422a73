-- A message that is taken in and pushed: what its steps ask where the state at the end is within its limits, and the numbers of entries then.
-- Assumes nothing.
use Rattle.payloads.proofs.Words.{◌≡◌, refl, ap, ◌∙◌, Bool, true, ◌&&◌, not, ℕ, ◌+◌, ◌≤◌, arith, length, List, leb, ◌==◌, count_by, leb-true, and_left, and_right, State, Links, cache_fits, content_held, settled, Sizes, Head, lazy_state, sizes_value, links_from, NumberedLink, same_links, same_dropped}
use Rattle.protocol.specs.Whole.{fits}
use Rattle.decide.specs.Sizes.{sizes_of}
use Rattle.block.specs.View.{state_of}
use Rattle.steps.specs.declared.Sizes.{Sizes as CodeSizes}
use Rattle.decide.specs.StateAfter.{taken_state}
use Rattle.block.specs.Sound.{Sound}
use Rattle.steps.proofs.LazyPushLaws.{lazy-more-queued}
use Rattle.steps.proofs.SettledLaws.FewLaws.{few-then}

-- question 13, but for the queue and the record
abbrev others : State → Bool
others s =
    leb (length s.links) s.limits.N && cache_fits s.limits.R s.received && cache_fits s.limits.C s.cache && leb (content_held s) s.limits.B && cache_fits s.limits.G s.grafted
    && leb (length s.missing) s.limits.S && leb (length s.timers.graft) s.limits.T

-- what question 13 tells of the queue and the record
pub queue-within : (s : State) → fits s ≡ true → length s.queue ≤ s.limits.Q
unfolding fits
queue-within s e =
    let q : Bool = leb (length s.queue) s.limits.Q in
    let d : Bool = leb (length s.dropped) s.limits.D in
    leb-true (length s.queue) s.limits.Q (and_right (others s) q (and_left (others s && q) d e))

pub record-within : (s : State) → fits s ≡ true → length s.dropped ≤ s.limits.D
unfolding fits
record-within s e =
    leb-true (length s.dropped) s.limits.D (and_right (others s && leb (length s.queue) s.limits.Q) (leb (length s.dropped) s.limits.D) e)

-- the panel's own number is in the header
pub own-number : (h : Head) (xs : List ℕ) → (state_of h xs).settings.me ≡ h.settings.me
unfolding state_of
own-number h xs = refl

-- the numbers with other numbers of queued and recorded entries
abbrev pub pushed_numbers : CodeSizes → ℕ → ℕ → CodeSizes
pushed_numbers z queued dropped = record {
  links = z.links;
  received = z.received;
  received_rows = z.received_rows;
  cached = z.cached;
  cached_rows = z.cached_rows;
  contents = z.contents;
  grafted = z.grafted;
  grafted_rows = z.grafted_rows;
  missing = z.missing;
  timers = z.timers;
  queued = queued;
  dropped = dropped;
}

-- a message taken in, whose numbers were counted
module _ (now id : ℕ) (content : List ℕ) (round : ℕ) (h : Head) (xs : List ℕ) (z : CodeSizes) (e : sizes_value z ≡ sizes_of (taken_state now id content round (settled now (state_of h xs)))) where
  abbrev s : State
  s = state_of h xs

  pub taken-few : Sound h xs → (z.queued ≤ 8192) × (z.dropped ≤ 4096)
  unfolding sizes_of taken_state
  taken-few sound =
      let f = few-then now h xs sound in
      (omega (arith, ap (λ (y : Sizes). y.queued) e, f.queued), omega (arith, ap (λ (y : Sizes). y.recorded) e, f.recorded))

  pub taken-recorded : z.dropped ≡ length s.dropped
  unfolding sizes_of taken_state
  taken-recorded = ap (λ (y : Sizes). y.recorded) e ∙ ap length (same_dropped now s)

  pub taken-queued : (sender count : ℕ) → count ≡ count_by (λ l. not l.eager && not (l.peer == sender)) (links_from 0 s.links)
      → z.queued + count ≡ length (lazy_state id round sender (taken_state now id content round (settled now s))).queue
  unfolding sizes_of taken_state
  taken-queued sender count c =
      omega (
        arith,
        c,
        ap (λ (y : Sizes). y.queued) e,
        ap (λ (l : Links). count_by (λ (k : NumberedLink). not k.eager && not (k.peer == sender)) (links_from 0 l)) (same_links now s),
        lazy-more-queued id round sender (taken_state now id content round (settled now s)),
      )
