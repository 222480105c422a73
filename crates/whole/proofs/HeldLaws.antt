-- What is known of a block that holds a state.
-- Assumes nothing.
use Rattle.whole.proofs.Words.{Some, ◌≡◌, subst, Bool, true, ◌&&◌, List, [], ◌∷◌, ℕ, ◌*◌, ◌≤◌, arith, leb-true, eqb-true, leb, eqb, length, take, drop, get_or, cases, true≢, and_left, and_right, all-at, part, rows, length-rows, get_d_rows, below_of, Limits, block_need, whole, tables, limits_of, byte_at, view_of, state_of, Ceilings, WithinLimits, Fit, Numbered, AllNumbered, adjoin, Laid, Sound, Head, within-need}
use Rattle.protocol.specs.State.{limits_in_range, up_to}
use Rattle.protocol.specs.Whole.{content_held}
use Rattle.block.specs.Header.{head_in}
use Rattle.block.specs.declared.head.Live.{Live}
use Rattle.whole.specs.Held.{has_header, has_tables, counts_within, all_below, places_name, numbers_name, all_lists, laid_out, holds_with, held, whole_held, whole_block}
use Rattle.whole.proofs.Tests.{each}

pub numbered_of : (m : ℕ) (list : List ℕ) → numbers_name m list ≡ true → Numbered m list
unfolding numbers_name
numbered_of m list h =
    let few : Bool = leb (byte_at 0 list) 32 in
    let low : Bool = all_below m (take (byte_at 0 list) (drop 1 list)) in
    record { few = leb-true (byte_at 0 list) 32 (and_left few low h); below = below_of m (take (byte_at 0 list) (drop 1 list)) (and_right few low h) }

pub all-numbered-of : (m o s n : ℕ) (bytes : List ℕ) → all_lists (numbers_name m) o s n bytes ≡ true → AllNumbered m o s n bytes
unfolding all_lists
all-numbered-of m o s n bytes h = record {
  each = λ i l. numbered_of m (drop o (part (i * s) s bytes))
      (subst (λ (row : List ℕ). numbers_name m (drop o row) ≡ true) (get_d_rows s n i [] bytes l)
      (all-at (λ row. numbers_name m (drop o row)) [] (rows s n bytes) h i (omega (arith, length-rows s n bytes))));
}

-- limits in range are within their ceilings
up-to : (c n : ℕ) → up_to c n ≡ true → n ≤ c
unfolding up_to
up-to c n h = leb-true n c (and_right (leb 1 n) (leb n c) h)

pub ceilings_of : (l : Limits) → limits_in_range l ≡ true → Ceilings l
unfolding limits_in_range
ceilings_of l h =
    let e = each (up_to 32 l.N) (up_to 2048 l.R ∷ up_to 512 l.C ∷ up_to 1048576 l.B ∷ up_to 512 l.G ∷ up_to 512 l.S ∷ up_to 512 l.T ∷ up_to 8192 l.Q ∷ up_to 4096 l.D ∷ []) h in
    record {
      N = up-to 32 l.N e.0;
      R = up-to 2048 l.R e.1.0;
      C = up-to 512 l.C e.1.1.0;
      B = up-to 1048576 l.B e.1.1.1.0;
      G = up-to 512 l.G e.1.1.1.1.0;
      S = up-to 512 l.S e.1.1.1.1.1.0;
      T = up-to 512 l.T e.1.1.1.1.1.1.0;
      Q = up-to 8192 l.Q e.1.1.1.1.1.1.1.0;
      D = up-to 4096 l.D e.1.1.1.1.1.1.1.1.0;
    }

-- row counts within the limits
pub within_of : (l : Limits) (v : Live) → counts_within l v ≡ true → WithinLimits l v
unfolding counts_within
within_of l v h =
    let e = each (leb v.links l.N)
    (leb v.received l.R
    ∷ leb v.received_rows (2 * l.R)
    ∷ leb v.cached l.C
    ∷ leb v.cached_rows (2 * l.C)
    ∷ leb v.contents l.B
    ∷ leb v.grafted l.G
    ∷ leb v.grafted_rows (2 * l.G)
    ∷ leb v.missing l.S
    ∷ leb v.timers l.T
    ∷ leb v.queued l.Q
    ∷ leb v.dropped l.D
    ∷ []) h in
    record {
      links = leb-true v.links l.N e.0;
      received = leb-true v.received l.R e.1.0;
      received_rows = leb-true v.received_rows (2 * l.R) e.1.1.0;
      cached = leb-true v.cached l.C e.1.1.1.0;
      cached_rows = leb-true v.cached_rows (2 * l.C) e.1.1.1.1.0;
      contents = leb-true v.contents l.B e.1.1.1.1.1.0;
      grafted = leb-true v.grafted l.G e.1.1.1.1.1.1.0;
      grafted_rows = leb-true v.grafted_rows (2 * l.G) e.1.1.1.1.1.1.1.0;
      missing = leb-true v.missing l.S e.1.1.1.1.1.1.1.1.0;
      timers = leb-true v.timers l.T e.1.1.1.1.1.1.1.1.1.0;
      queued = leb-true v.queued l.Q e.1.1.1.1.1.1.1.1.1.1.0;
      dropped = leb-true v.dropped l.D e.1.1.1.1.1.1.1.1.1.1.1.0;
    }

pub ceilings_there : (l : Limits) (block : List ℕ) → has_tables l block ≡ true → Ceilings l
unfolding has_tables
ceilings_there l block a = ceilings_of l (and_left (limits_in_range l) (leb (block_need l) (length block)) a)

-- the tables lie in the block
pub fit_of : (h : Head) (block : List ℕ) → has_tables (limits_of h.limits) block ≡ true → counts_within (limits_of h.limits) h.live ≡ true → Fit h block
unfolding has_tables
fit_of h block a b =
    let l : Limits = limits_of h.limits in
    let range : Bool = limits_in_range l in
    let long : Bool = leb (block_need l) (length block) in
    record {
      ceilings = ceilings_there l block a;
      within = within_of l h.live b;
      long = omega (arith, within-need l, leb-true (block_need l) (length block) (and_right range long a));
    }

pub laid_of : (h : Head) (t : List (List ℕ)) → laid_out h t ≡ true → Laid h t
unfolding laid_out content_held
laid_of h t a =
    let v : Live = h.live in
    let e = each (places_name v.received_rows 2 v.received (get_or t 2 []))
    (places_name v.cached_rows 4 v.cached (get_or t 4 [])
    ∷ places_name v.grafted_rows 119 v.grafted (get_or t 7 [])
    ∷ all_lists (numbers_name v.links) 22 119 v.grafted (get_or t 7 [])
    ∷ all_lists (numbers_name v.links) 32 129 v.missing (get_or t 9 [])
    ∷ all_below v.links (take v.queued (get_or t 11 []))
    ∷ all_below v.links (take v.dropped (get_or t 13 []))
    ∷ adjoin 0 (rows 48 v.cached_rows (get_or t 5 [])) v.contents
    ∷ eqb (content_held (view_of h t)) v.contents
    ∷ []) a in
    record {
      received = below_of _ _ e.0;
      cached = below_of _ _ e.1.0;
      grafted = below_of _ _ e.1.1.0;
      contents = e.1.1.1.1.1.1.1.0;
      used = eqb-true _ _ e.1.1.1.1.1.1.1.1.0;
      grafts = all-numbered-of _ _ _ _ _ e.1.1.1.0;
      missing = all-numbered-of _ _ _ _ _ e.1.1.1.1.0;
      queue = below_of _ _ e.1.1.1.1.1.0;
      dropped = below_of _ _ e.1.1.1.1.1.1.0;
    }

pub sound-of : (h : Head) (block : List ℕ) → holds_with h block ≡ true → Sound h block
unfolding holds_with
sound-of h block a =
    let l : Limits = limits_of h.limits in
    let e = each (has_tables l block) (counts_within l h.live ∷ laid_out h (tables l block) ∷ []) a in
    record { fit = fit_of h block e.0 e.1.0; laid = laid_of h (tables l block) e.1.1.0 }

-- a block that is whole: it holds the state of its tables, and that state is whole
pub record Wholly (block : List ℕ) : Type 0 where
  pub header : has_header block ≡ true
  pub holds : holds_with (head_in block) block ≡ true
  pub sound : Sound (head_in block) block
  pub state : held block ≡ Some (state_of (head_in block) block)
  pub whole : whole (state_of (head_in block) block) ≡ true

pub wholly_of : (block : List ℕ) → whole_block block ≡ true → Wholly block
unfolding whole_block whole_held held
wholly_of block w =
    cases (has_header block && holds_with (head_in block) block)
    (λ p. record {
      header = and_left (has_header block) (holds_with (head_in block) block) p;
      holds = and_right (has_header block) (holds_with (head_in block) block) p;
      sound = sound-of (head_in block) block (and_right (has_header block) (holds_with (head_in block) block) p);
      state = rw p;
      whole = rw p at w;
    })
    (λ p. true≢ (rw p at w))
