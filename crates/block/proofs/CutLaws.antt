-- The record cut to its first entries.
-- Assumes nothing.
use Rattle.block.proofs.Words.{◌≡◌, refl, sym, ap, ◌∙◌, List, [], ◌∷◌, ℕ, zero, suc, ◌+◌, ◌≤◌, ◌<◌, arith, lit<, length, take, get_or, take-take, rows, take-rows, Below, Limits, Note, with_dropped}
use Rattle.std.proofs.Common.{get_or-take, length-take-le}
use Rattle.block.specs.Layout.{tables, table}
use Rattle.block.specs.View.{state_of, limits_of, note_of, notes_in, peers_in}
use Rattle.storage.specs.Refs.Numbers.{pairs, numbered}
use Rattle.block.specs.Sound.{Sound}
use Rattle.block.specs.Becomes.{Becomes}
use Rattle.block.specs.Heads.{with_dropped_count}
use Rattle.block.specs.declared.head.Head.{Head}
use Rattle.block.proofs.Tables.{length-table}

below-take : (m k n : ℕ) (ps : List ℕ) → k ≤ n → n ≤ length ps → Below m (take n ps) → Below m (take k ps)
below-take m k n ps h g b = record {
  below = λ i l.
      let q : i < k = omega (arith, length-take-le k ps (omega arith)) in
      let at : get_or (take n ps) i 0 < m = b.below i (omega (arith, length-take-le n ps g)) in
      omega (arith, get_or-take k ps i 0 q, get_or-take n ps i 0 (omega arith));
}

module _ {A : Type 0} (f : ℕ → List ℕ → A) where
  pairs-take : (k : ℕ) (ls : List ℕ) (rs : List (List ℕ)) → pairs f (take k ls) (take k rs) ≡ take k (pairs f ls rs)
  unfolding pairs
  pairs-take zero ls rs = refl
  pairs-take (suc k) [] rs = refl
  pairs-take (suc k) (l ∷ ls) [] = refl
  pairs-take (suc k) (l ∷ ls) (r ∷ rs) = ap (λ (t : List A). f l r ∷ t) (pairs-take k ls rs)

  module _ (s n k : ℕ) (c b : List ℕ) where
    numbered-take : k ≤ n → numbered f s k c b ≡ take k (numbered f s n c b)
    unfolding numbered
    numbered-take h =
        (λ t. pairs f (sym (take-take k n c h) t) (sym (take-rows s k n b h) t)) ∙ pairs-take k (take n c) (rows s n b)

module _ (h : Head) (xs : List ℕ) (sound : Sound h xs) where
  abbrev l : Limits
  l = limits_of h.limits

  numbers-long : length (table l 13 xs) ≡ l.D + 1
  numbers-long = length-table l 13 xs (lit< tt) sound.fit.long

  -- the first k entries
  pub cut-goes : (k : ℕ) → k ≤ h.live.dropped → Becomes (λ s. with_dropped (take k s.dropped) s) h xs (with_dropped_count k h) xs
  unfolding state_of notes_in
  cut-goes k q = record {
    state = ap (λ (ns : List Note). with_dropped ns (state_of h xs)) (numbered-take (note_of (peers_in h (tables l xs))) 34 h.live.dropped k (table l 13 xs) (table l 14 xs) q);
    sound = record {
      fit = record { ceilings = sound.fit.ceilings; within = omega arith; long = sound.fit.long };
      laid = record {
        received = sound.laid.received;
        cached = sound.laid.cached;
        grafted = sound.laid.grafted;
        contents = sound.laid.contents;
        used = sound.laid.used;
        grafts = sound.laid.grafts;
        missing = sound.laid.missing;
        queue = sound.laid.queue;
        dropped = below-take h.live.links k h.live.dropped (table l 13 xs) q (omega (arith, numbers-long, sound.fit.within.dropped)) sound.laid.dropped;
      };
    };
  }
