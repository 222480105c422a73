-- The numbers of entries, as they stand and as eviction leaves them, and a sum over the entries as a loop makes it.
-- Assumes nothing.
use Rattle.steps.proofs.Words.{ℕ, zero, suc, ◌+◌, ◌≤◌, ◌<◌, ◌≡◌, refl, sym, ap, ◌∙◌, Bool, true, false, not, List, [], ◌∷◌, add-one, arith, ltb, length, get_or, take, if◌then◌else◌, Map, Timed, later_cache, State, Cached, Head, Sizes, settled}
use borrow.Author.Tests.{not-true, not-false}
use Rattle.storage.specs.Lists.Base.{sum}
use Rattle.protocol.specs.Whole.{content_held}
use Rattle.block.specs.View.{state_of}
use Rattle.block.specs.Sound.{Sound}
use Rattle.block.proofs.LinkLaws.{count-links}
use Rattle.block.proofs.MissingLaws.{count-missing}
use Rattle.block.proofs.TimerLaws.{count-timers}
use Rattle.block.proofs.NoteLaws.{count-queue, count-dropped}
use Rattle.block.specs.Caches.CachedReads.{cached_at}
use Rattle.block.proofs.CachesLaws.ReceivedLaws.{count-received, count-received-rows}
use Rattle.block.proofs.CachesLaws.CachedLaws.{count-cached, count-cached-rows}
use Rattle.block.proofs.CachesLaws.GraftedLaws.{count-grafted, count-grafted-rows}
use Rattle.decide.specs.Sizes.{sizes_of}
use Rattle.decide.proofs.SizesAfter.{evict_sizes, settled_sizes}
use Rattle.decide.proofs.SettledLaws.{length-later, expiry-later, settled-sizes}
use Rattle.steps.specs.Settled.Then.{no_cached, later_bytes}

-- a sum over the first entries, one more
pub sum-next : {A : Type 0} (f : A → ℕ) (d : A) (i : ℕ) (m : List A) → i < length m → sum f (take (suc i) m) ≡ sum f (take i m) + f (get_or m i d)
unfolding sum
sum-next f d i [] h = absurd (omega arith)
sum-next f d zero (x ∷ m) h = omega arith
sum-next f d (suc i) (x ∷ m) h = omega (arith, sum-next f d i m (omega arith))

pub sum-all : {A : Type 0} (f : A → ℕ) (i : ℕ) (m : List A) → length m ≤ i → sum f (take i m) ≡ sum f m
unfolding sum
sum-all f zero [] h = refl
sum-all f (suc i) [] h = refl
sum-all f zero (x ∷ m) h = absurd (omega arith)
sum-all f (suc i) (x ∷ m) h = ap (λ (n : ℕ). f x + n) (sum-all f i m (omega arith))

module _ (h : Head) (xs : List ℕ) (sound : Sound h xs) where
  -- the header's numbers are those of the state
  contents-held : h.live.contents ≡ content_held (state_of h xs)
  unfolding state_of content_held
  contents-held = sym sound.laid.used

  pub sizes-live : (z : Sizes) → z.links ≡ h.live.links → z.received ≡ h.live.received → z.received_expiry ≡ h.live.received_rows → z.cached ≡ h.live.cached → z.cached_expiry ≡ h.live.cached_rows
      → z.content ≡ h.live.contents → z.grafted ≡ h.live.grafted → z.grafted_expiry ≡ h.live.grafted_rows → z.missing ≡ h.live.missing → z.timers ≡ h.live.timers → z.queued ≡ h.live.queued → z.recorded ≡ h.live.dropped
      → z ≡ sizes_of (state_of h xs)
  unfolding sizes_of
  sizes-live z a b c d e f g i j k l m = λ p. record {
    links = (a ∙ sym (count-links h xs)) p;
    received = (b ∙ sym (count-received h xs sound.fit)) p;
    received_expiry = (c ∙ sym (count-received-rows h xs sound.fit)) p;
    cached = (d ∙ sym (count-cached h xs sound.fit)) p;
    cached_expiry = (e ∙ sym (count-cached-rows h xs sound.fit)) p;
    content = (f ∙ contents-held) p;
    grafted = (g ∙ sym (count-grafted h xs sound.fit)) p;
    grafted_expiry = (i ∙ sym (count-grafted-rows h xs sound.fit)) p;
    missing = (j ∙ sym (count-missing h xs)) p;
    timers = (k ∙ sym (count-timers h xs)) p;
    queued = (l ∙ sym (count-queue h xs sound)) p;
    recorded = (m ∙ sym (count-dropped h xs sound)) p;
  }

-- the bytes of the first i contents that expire later
abbrev pub Bytes : ℕ → Head → List ℕ → ℕ → ℕ → Type 0
Bytes now h xs i total = total ≡ sum (later_bytes now) (take i (state_of h xs).cache.entries)

module _ (now : ℕ) (h : Head) (xs : List ℕ) (sound : Sound h xs) where
  abbrev es : Map (Timed Cached)
  es = (state_of h xs).cache.entries

  pub bytes-start : Bytes now h xs 0 0
  unfolding sum
  bytes-start = start es
    where
      start : (m : Map (Timed Cached)) → 0 ≡ sum (later_bytes now) (take 0 m)
      start [] = refl
      start (x ∷ m) = refl

  module _ (i total : ℕ) (q : i < h.live.cached) (b : Bytes now h xs i total) (t : ℕ) (e : t ≡ (get_or es i no_cached).value.expires) where
    next : Bytes now h xs (i + 1) (total + later_bytes now (get_or es i no_cached))
    next =
        rw (add-one i) (ap (λ (n : ℕ). n + later_bytes now (get_or es i no_cached)) b ∙ sym (sum-next (later_bytes now) no_cached i es (omega (arith, count-cached h xs sound.fit))))

    pub bytes-later : (content : List ℕ) → content ≡ (cached_at (state_of h xs) i).content → ltb now t ≡ true → Bytes now h xs (i + 1) (total + length content)
    bytes-later content c k =
        let f : later_bytes now (get_or es i no_cached) ≡ length content = ap (λ (a : Bool). if a then length (cached_at (state_of h xs) i).content else 0) (sym (ap (ltb now) e) ∙ k) ∙ sym (ap length c) in
        ap (λ (n : ℕ). total + n) (sym f) ∙ next

    pub bytes-gone : ltb now t ≡ false → Bytes now h xs (i + 1) total
    bytes-gone k =
        let f : later_bytes now (get_or es i no_cached) ≡ 0 = ap (λ (a : Bool). if a then length (cached_at (state_of h xs) i).content else 0) (sym (ap (ltb now) e) ∙ k) in
        let z : total ≡ total + later_bytes now (get_or es i no_cached) = omega (arith, f) in
        z ∙ next

  pub bytes-end : (i total : ℕ) → h.live.cached ≤ i → Bytes now h xs i total → total ≡ sum (later_bytes now) es
  bytes-end i total q b = b ∙ sum-all (later_bytes now) i es (omega (arith, count-cached h xs sound.fit))

  pub sizes-later : (z : Sizes) → z.links ≡ h.live.links → z.received ≡ length (later_cache now (state_of h xs).received).entries → z.received_expiry ≡ length (later_cache now (state_of h xs).received).expiry
      → z.cached ≡ length (later_cache now (state_of h xs).cache).entries → z.cached_expiry ≡ length (later_cache now (state_of h xs).cache).expiry → z.content ≡ sum (later_bytes now) es
      → z.grafted ≡ length (later_cache now (state_of h xs).grafted).entries → z.grafted_expiry ≡ length (later_cache now (state_of h xs).grafted).expiry
      → z.missing ≡ h.live.missing → z.timers ≡ h.live.timers → z.queued ≡ h.live.queued → z.recorded ≡ h.live.dropped
      → z ≡ evict_sizes now (state_of h xs)
  unfolding evict_sizes sizes_of
  sizes-later z a b c d e f g i j k l m = λ p. record {
    links = (a ∙ sym (count-links h xs)) p;
    received = (b ∙ length-later now (state_of h xs).received) p;
    received_expiry = (c ∙ expiry-later now (state_of h xs).received) p;
    cached = (d ∙ length-later now (state_of h xs).cache) p;
    cached_expiry = (e ∙ expiry-later now (state_of h xs).cache) p;
    content = f p;
    grafted = (g ∙ length-later now (state_of h xs).grafted) p;
    grafted_expiry = (i ∙ expiry-later now (state_of h xs).grafted) p;
    missing = (j ∙ sym (count-missing h xs)) p;
    timers = (k ∙ sym (count-timers h xs)) p;
    queued = (l ∙ sym (count-queue h xs sound)) p;
    recorded = (m ∙ sym (count-dropped h xs sound)) p;
  }

-- the sizes of the settled state, where `init` is set and where it is not
module _ (now : ℕ) (s : State) where
  pub sizes-still : s.init ≡ true → sizes_of (settled now s) ≡ sizes_of s
  unfolding settled_sizes
  sizes-still e = settled-sizes now s ∙ rw e refl

  pub sizes-evicted : s.init ≡ false → sizes_of (settled now s) ≡ evict_sizes now s
  unfolding settled_sizes
  sizes-evicted e = settled-sizes now s ∙ rw e refl

-- what a function's answer r tells of the test t that it is
pub no : {r t : Bool} → r ≡ t → not r ≡ true → t ≡ false
no {r} e h = sym e ∙ not-true r h

pub yes : {r t : Bool} → r ≡ t → not r ≡ false → t ≡ true
yes {r} e h = sym e ∙ not-false r h
