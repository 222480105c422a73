-- The numbers of entries of a state that stands, and of what a first event, EvictCache and neighbour down leave of it: within the limits, and so within the specification's ceilings.
-- Assumes nothing.
use Rattle.steps.proofs.Words.{ℕ, ◌≤◌, ◌≡◌, refl, sym, ◌∙◌, true, List, arith, le-leb, cases, and_intro, State, fits, whole, limits_of, Head, Sizes, sizes_of, down_sizes, settled, AtRest}
use Rattle.std.proofs.Common.{subst}
use Rattle.protocol.proofs.Consistent.{consistent-whole}
use Rattle.block.specs.View.{state_of}
use Rattle.block.specs.Fit.{Fit}
use Rattle.block.specs.Sound.{Sound}
use Rattle.decide.specs.Sizes.{fit_sizes}
use Rattle.decide.proofs.Decide.{Below, fit-below, down-below, evict-below}
use Rattle.decide.proofs.TableSizes.{fits-sizes}
use Rattle.steps.proofs.SettledLaws.SizeLaws.{sizes-live, sizes-still, sizes-evicted}

-- within the ceilings
pub record Few (z : Sizes) : Type 0 where
  pub links : z.links ≤ 32
  pub received : z.received ≤ 2048
  pub received_expiry : z.received_expiry ≤ 4096
  pub cached : z.cached ≤ 512
  pub cached_expiry : z.cached_expiry ≤ 1024
  pub content : z.content ≤ 1048576
  pub grafted : z.grafted ≤ 512
  pub grafted_expiry : z.grafted_expiry ≤ 1024
  pub missing : z.missing ≤ 512
  pub timers : z.timers ≤ 512
  pub queued : z.queued ≤ 8192
  pub recorded : z.recorded ≤ 4096

few-below : (z y : Sizes) → Below z y → Few y → Few z
few-below z y b f = record {
  links = omega (arith, b.links, f.links);
  received = omega (arith, b.received, f.received);
  received_expiry = omega (arith, b.received_expiry, f.received_expiry);
  cached = omega (arith, b.cached, f.cached);
  cached_expiry = omega (arith, b.cached_expiry, f.cached_expiry);
  content = omega (arith, b.content, f.content);
  grafted = omega (arith, b.grafted, f.grafted);
  grafted_expiry = omega (arith, b.grafted_expiry, f.grafted_expiry);
  missing = omega (arith, b.missing, f.missing);
  timers = omega (arith, b.timers, f.timers);
  queued = omega (arith, b.queued, f.queued);
  recorded = omega (arith, b.recorded, f.recorded);
}

-- the header's numbers
abbrev live_sizes : Head → Sizes
live_sizes h = record {
  links = h.live.links;
  received = h.live.received;
  received_expiry = h.live.received_rows;
  cached = h.live.cached;
  cached_expiry = h.live.cached_rows;
  content = h.live.contents;
  grafted = h.live.grafted;
  grafted_expiry = h.live.grafted_rows;
  missing = h.live.missing;
  timers = h.live.timers;
  queued = h.live.queued;
  recorded = h.live.dropped;
}

module _ (h : Head) (xs : List ℕ) (sound : Sound h xs) where
  live : live_sizes h ≡ sizes_of (state_of h xs)
  live = sizes-live h xs sound (live_sizes h) refl refl refl refl refl refl refl refl refl refl refl refl

  few-live : Fit h xs → Few (live_sizes h)
  few-live f = record {
    links = omega (arith, f.within.links, f.ceilings.N);
    received = omega (arith, f.within.received, f.ceilings.R);
    received_expiry = omega (arith, f.within.received_rows, f.ceilings.R);
    cached = omega (arith, f.within.cached, f.ceilings.C);
    cached_expiry = omega (arith, f.within.cached_rows, f.ceilings.C);
    content = omega (arith, f.within.contents, f.ceilings.B);
    grafted = omega (arith, f.within.grafted, f.ceilings.G);
    grafted_expiry = omega (arith, f.within.grafted_rows, f.ceilings.G);
    missing = omega (arith, f.within.missing, f.ceilings.S);
    timers = omega (arith, f.within.timers, f.ceilings.T);
    queued = omega (arith, f.within.queued, f.ceilings.Q);
    recorded = omega (arith, f.within.dropped, f.ceilings.D);
  }

  pub few-now : Few (sizes_of (state_of h xs))
  few-now = subst Few live (few-live sound.fit)

  -- question 13 of the numbers as they stand
  fit-live : Fit h xs → fit_sizes (limits_of h.limits) (live_sizes h) ≡ true
  unfolding fit_sizes
  fit-live f =
      and_intro (and_intro (and_intro (and_intro (and_intro (and_intro (and_intro (and_intro
      (le-leb _ _ f.within.links)
      (and_intro (le-leb _ _ f.within.received) (le-leb _ _ f.within.received_rows)))
      (and_intro (le-leb _ _ f.within.cached) (le-leb _ _ f.within.cached_rows)))
      (le-leb _ _ f.within.contents))
      (and_intro (le-leb _ _ f.within.grafted) (le-leb _ _ f.within.grafted_rows)))
      (le-leb _ _ f.within.missing))
      (le-leb _ _ f.within.timers))
      (le-leb _ _ f.within.queued))
      (le-leb _ _ f.within.dropped)

  pub fit-now : fit_sizes (limits_of h.limits) (sizes_of (state_of h xs)) ≡ true
  fit-now = subst (λ (z : Sizes). fit_sizes (limits_of h.limits) z ≡ true) live (fit-live sound.fit)

  pub sound-fits : fits (state_of h xs) ≡ true
  unfolding state_of
  sound-fits = fits-sizes (state_of h xs) ∙ fit-now

-- a first event's work: nothing grows
settled-below : (now : ℕ) (s : State) → Below (sizes_of (settled now s)) (sizes_of s)
settled-below now s =
    cases s.init
    (λ e. subst (λ (z : Sizes). Below z (sizes_of s)) (sym (sizes-still now s e)) (all_same (sizes_of s)))
    (λ e. subst (λ (z : Sizes). Below z (sizes_of s)) (sym (sizes-evicted now s e)) (evict-below now s))
  where
    same : (n : ℕ) → n ≤ n
    same n = omega arith

    all_same : (z : Sizes) → Below z z
    all_same z = record {
      links = same _;
      received = same _;
      received_expiry = same _;
      cached = same _;
      cached_expiry = same _;
      content = same _;
      grafted = same _;
      grafted_expiry = same _;
      missing = same _;
      timers = same _;
      queued = same _;
      recorded = same _;
    }

module _ (now : ℕ) (h : Head) (xs : List ℕ) (sound : Sound h xs) where
  abbrev s : State
  s = state_of h xs

  pub few-then : Few (sizes_of (settled now s))
  few-then = few-below (sizes_of (settled now s)) (sizes_of s) (settled-below now s) (few-now h xs sound)

-- neighbour down is never answered 13
pub fit-down : (p : ℕ) (h : Head) (xs : List ℕ) → Sound h xs → fit_sizes (limits_of h.limits) (down_sizes p (state_of h xs)) ≡ true
fit-down p h xs sound = fit-below (limits_of h.limits) (down_sizes p (state_of h xs)) (sizes_of (state_of h xs)) (down-below p (state_of h xs)) (fit-now h xs sound)

-- the state of a sound block, at rest, is whole
pub rest-whole : (h : Head) (xs : List ℕ) → Sound h xs → AtRest (state_of h xs) → whole (state_of h xs) ≡ true
rest-whole h xs sound r = consistent-whole (state_of h xs) r.consistent r.ranged (sound-fits h xs sound)
