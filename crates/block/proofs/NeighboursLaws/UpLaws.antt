-- A link that comes in: the link numbers of the whole block, then the row of the link.
-- Assumes nothing.
use Rattle.block.proofs.Words.{◌≡◌, sym, ap, ◌∙◌, subst, List, map, ℕ, ◌+◌, ◌*◌, ◌≤◌, ◌<◌, arith, lit<, length, take, get_or, set, keys, part, put, rows, length_part, length-put, shifted, Below, Limits}
use lib.ListN.{length-map}
use Rattle.block.specs.Layout.{sizes, place, tables, table, end}
use Rattle.block.specs.View.{limits_of, view_with, state_of}
use Rattle.block.specs.Fit.{Fit}
use Rattle.block.specs.Sound.{Laid, Sound, AllNumbered}
use Rattle.block.specs.Heads.{with_link_count}
use Rattle.block.specs.declared.head.Head.{Head}
use Rattle.block.proofs.Cut.{within}
use Rattle.block.proofs.Tables.{frame, length-table}
use Rattle.block.proofs.RowLaws.{part_in}
use Rattle.block.proofs.LinkLaws.{count-peers}
use Rattle.block.specs.Neighbours.Raised.{raised_row, RaisedLinks, with_peer}
use Rattle.storage.specs.Refs.Numbers.{raised}
use Rattle.block.proofs.NeighboursLaws.RaisedLaws.{below_raised, take-raised, notes-raised, missing-raised, grafted-raised, places-raised, all-raised}

module _ (l : Limits) (t : ℕ) (ht : t < 15) (ys : List ℕ) (long : end l ≤ length ys) where
  abbrev size : ℕ
  size = get_or (sizes l) t 0

  -- a column of numbers
  module _ (i n : ℕ) (h : n ≤ size) where
    column-numbers : length (map (shifted i) (part (place l t) n ys)) ≡ n
    column-numbers = length-map (part (place l t) n ys) (shifted i) ∙ length_part (place l t) n ys (omega (arith, within (sizes l) t 0 n ht (omega arith)))

    pub column-long : length (raised i (place l t) n ys) ≡ length ys
    unfolding raised
    column-long = length-put (place l t) (map (shifted i) (part (place l t) n ys)) ys (omega (arith, column-numbers, within (sizes l) t 0 n ht (omega arith)))

    pub column-frame : tables l (raised i (place l t) n ys) ≡ set (tables l ys) t (raised i 0 n (table l t ys))
    unfolding raised
    column-frame =
        let z : place l t ≡ place l t + 0 = omega arith in
        let p : part (place l t) n ys ≡ part 0 n (table l t ys) = ap (λ (a : ℕ). part a n ys) z ∙ sym (part_in l t 0 n ys ht (omega arith)) in
        ap (λ (a : ℕ). tables l (put a (map (shifted i) (part (place l t) n ys)) ys)) z
        ∙ frame l t 0 (map (shifted i) (part (place l t) n ys)) ys ht (omega (arith, column-numbers)) long
        ∙ ap (λ (ls : List ℕ). set (tables l ys) t (put 0 (map (shifted i) ls) (table l t ys))) p

module _ (h : Head) (xs : List ℕ) (sound : Sound h xs) (i : ℕ) (hi : i ≤ h.live.links) where
  abbrev l1 : Limits
  l1 = limits_of h.limits

  abbrev ps : List ℕ
  ps = keys (state_of h xs).links

  abbrev m : ℕ
  m = length ps

  abbrev fit : Fit h xs
  fit = sound.fit

  abbrev old : Laid h (tables l1 xs)
  old = sound.laid

  here : i ≤ m
  here = omega (arith, count-peers h xs)

  abbrev T : ℕ → List ℕ
  T t = table l1 t xs

  long-at : (t : ℕ) → t < 15 → length (T t) ≡ get_or (sizes l1) t 0
  long-at t ht = length-table l1 t xs ht fit.long

  queue-below : Below m (take h.live.queued (T 11))
  queue-below = subst (λ (k : ℕ). Below k (take h.live.queued (T 11))) (sym (count-peers h xs)) old.queue

  dropped-below : Below m (take h.live.dropped (T 13))
  dropped-below = subst (λ (k : ℕ). Below k (take h.live.dropped (T 13))) (sym (count-peers h xs)) old.dropped

  grafts-below : AllNumbered m 22 119 h.live.grafted (T 7)
  grafts-below = subst (λ (k : ℕ). AllNumbered k 22 119 h.live.grafted (T 7)) (sym (count-peers h xs)) old.grafts

  missing-below : AllNumbered m 32 129 h.live.missing (T 9)
  missing-below = subst (λ (k : ℕ). AllNumbered k 32 129 h.live.missing (T 9)) (sym (count-peers h xs)) old.missing

  -- the tables with all numbers raised
  module _ (g v ys : List ℕ) (long : length ys ≡ length xs)
      (framed : tables l1 ys ≡ set (set (set (set (tables l1 xs) 11 (raised i 0 h.live.queued (T 11))) 13 (raised i 0 h.live.dropped (T 13))) 7 g) 9 v)
      (rg : rows 119 h.live.grafted g ≡ map (raised_row i 22) (rows 119 h.live.grafted (T 7)))
      (rv : rows 129 h.live.missing v ≡ map (raised_row i 32) (rows 129 h.live.missing (T 9))) where
    room11 : h.live.queued ≤ length (T 11)
    room11 = omega (arith, long-at 11 (lit< tt))

    room13 : h.live.dropped ≤ length (T 13)
    room13 = omega (arith, long-at 13 (lit< tt))

    room7 : h.live.grafted * 119 ≤ length (T 7)
    room7 = omega (arith, long-at 7 (lit< tt))

    room9 : h.live.missing * 129 ≤ length (T 9)
    room9 = omega (arith, long-at 9 (lit< tt))

    pub raised-links : RaisedLinks i h xs ys
    unfolding state_of
    raised-links = record {
      same = λ p.
          let s = state_of h xs in
          ap (view_with (with_peer i p ps) h) framed
          ∙ (λ k. record {
            settings = s.settings;
            limits = s.limits;
            links = s.links;
            queue = notes-raised i p ps here h.live.queued (T 11) (T 12) room11 queue-below k;
            dropped = notes-raised i p ps here h.live.dropped (T 13) (T 14) room13 dropped-below k;
            missing = missing-raised i p ps here h.live.missing (T 9) v room9 missing-below rv k;
            received = s.received;
            grafted = grafted-raised i p ps here h.live.grafted (T 7) g room7 grafts-below rg h.live.grafted_rows (T 8) k;
            cache = s.cache;
            timers = s.timers;
            init = s.init;
          });
      fit = record { ceilings = fit.ceilings; within = fit.within; long = omega (arith, fit.long) };
      laid = subst (Laid (with_link_count (h.live.links + 1) h)) (sym framed) (record {
        received = old.received;
        cached = old.cached;
        grafted = subst (Below h.live.grafted_rows) (sym (places-raised i 0 ps here h.live.grafted (T 7) g room7 grafts-below rg)) old.grafted;
        contents = old.contents;
        used = old.used;
        grafts = all-raised i 22 119 h.live.grafted h.live.links (T 7) (omega arith) room7 old.grafts g rg;
        missing = all-raised i 32 129 h.live.missing h.live.links (T 9) (omega arith) room9 old.missing v rv;
        queue = subst (Below (h.live.links + 1)) (sym (take-raised i h.live.queued (T 11) room11)) (below_raised i h.live.links (take h.live.queued (T 11)) old.queue);
        dropped = subst (Below (h.live.links + 1)) (sym (take-raised i h.live.dropped (T 13) room13)) (below_raised i h.live.links (take h.live.dropped (T 13)) old.dropped);
      });
    }
