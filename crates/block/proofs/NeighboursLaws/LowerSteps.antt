-- The four changes that lower the link numbers of a block, one after the other: queue, record, grafted rows, missing rows.
-- Assumes nothing.
use Rattle.block.proofs.Words.{◌≡◌, refl, sym, ap, ◌∙◌, subst, List, [], ◌++◌, map, ℕ, ◌+◌, ◌-◌, ◌*◌, ◌≤◌, ◌<◌, arith, lit<, length, take, drop, get_or, set, take_at, drop_at, take-take, take-append-drop, length-append, Range, filter, keys, put, Ascending, length-put, part-add, put-put-next, put_all, loan-put, get_d_part, ref, places, Below, up_of, Limits, numbered, lower_all, entries}
use Rattle.std.proofs.Common.{length-take-le, length-drop}
use borrow.Rule.Slice.PartMut.{put_mid}
use Rattle.storage.specs.Rows.Part.{part}
use Rattle.block.specs.Layout.{sizes, place, span, tables, table, end}
use Rattle.block.specs.View.{limits_of, view_with, state_of}
use Rattle.block.specs.Fit.{Fit}
use Rattle.block.specs.Sound.{Laid, Sound, AllNumbered}
use Rattle.block.specs.LinkSteps.{LinksAscend}
use Rattle.block.specs.Heads.{with_link_count, with_queued_count, with_dropped_count, with_missing_count}
use Rattle.block.specs.declared.head.Head.{Head}
use Rattle.block.proofs.Cut.{cut-part, within}
use Rattle.block.proofs.Tables.{frame, length-table}
use Rattle.block.proofs.LinkLaws.{count-peers}
use Rattle.block.proofs.Lent.{lent_at, given_back, lent-table, lent-room, lent-frame, lent-long}
use Rattle.storage.proofs.RefsLaws.Numbered.{numbered-same}
use Rattle.block.specs.Neighbours.Lowered.{without_peer, Listed, listed, lower_listed, has_announcers, AllFew, LoweredLinks}
use Rattle.block.proofs.NeighboursLaws.RaisedRows.{few-in}
use Rattle.block.proofs.NeighboursLaws.LoweredRefs.{below-lowered, places-numbered}
use Rattle.block.proofs.NeighboursLaws.LoweredTables.{notes-left, missing-left, grafted-left, places-lowered, fine_of, of-fine, fine-lowered, fine-filter, Fine}

-- two tables that are lent as one part, the one after the other: numbers in the one, rows beside them in the other
module _ (l : Limits) (t u : ℕ) (ht : t < 15) (hu : u < 15) (nx : place l u ≡ place l t + get_or (sizes l) t 0) (r : Range ℕ) (hs : r.start ≡ place l t) (he : r.end ≡ place l u + get_or (sizes l) u 0) where
  abbrev a : ℕ
  a = place l t

  abbrev k : ℕ
  k = get_or (sizes l) t 0

  abbrev j : ℕ
  j = get_or (sizes l) u 0

  ends : a + k + j ≤ end l
  ends = omega (arith, within (sizes l) u 0 j hu (omega arith))

  wide : r.end - r.start ≡ k + j
  wide = omega (arith, hs, he, nx)

  two-lent : (xs : List ℕ) → lent_at r xs ≡ table l t xs ++ table l u xs
  unfolding part
  two-lent xs =
      (λ z. take (wide z) (drop (hs z) xs))
      ∙ part-add a k j xs
      ∙ (λ z. sym (cut-part (sizes l) t xs ht) z ++ (ap (λ (b : ℕ). part b j xs) (sym nx) ∙ sym (cut-part (sizes l) u xs hu)) z)

  -- one table anew
  whole : (v : ℕ) (bs ws : List ℕ) → v < 15 → length bs ≡ get_or (sizes l) v 0 → end l ≤ length ws → tables l (put (place l v) bs ws) ≡ set (tables l ws) v bs
  whole v bs ws hv e long =
      let z : place l v ≡ place l v + 0 = omega arith in
      ap (λ (n : ℕ). tables l (put n bs ws)) z ∙ frame l v 0 bs ws hv (omega arith) long ∙ ap (set (tables l ws) v) (put_all bs (table l v ws) (e ∙ sym (length-table l v ws hv long)))

  module _ (xs zs : List ℕ) (long : end l ≤ length xs) (g : length zs ≡ length (lent_at r xs)) where
    lt : length (table l t xs) ≡ k
    lt = length-table l t xs ht long

    lz : length zs ≡ k + j
    lz = g ∙ ap length (two-lent xs) ∙ length-append (table l t xs) (table l u xs) ∙ (λ z. lt z + length-table l u xs hu long z)

    la : length (take k zs) ≡ k
    la = length-take-le k zs (omega (arith, lz))

    lb : length (drop k zs) ≡ j
    lb = omega (arith, length-drop k zs, lz)

    back : given_back r xs zs ≡ put a zs xs
    back = (λ z. put_mid (hs z) (wide z) xs zs) ∙ loan-put a (k + j) zs xs lz

    pub two-long : length (given_back r xs zs) ≡ length xs
    two-long = ap length back ∙ length-put a zs xs (omega (arith, lz, ends))

    pub two-frame : tables l (given_back r xs zs) ≡ set (set (tables l xs) t (take k zs)) u (drop k zs)
    two-frame =
        let x1 : List ℕ = put a (take k zs) xs in
        let l1 : length x1 ≡ length xs = length-put a (take k zs) xs (omega (arith, la, ends)) in
        ap (tables l) (back
        ∙ ap (λ (b : List ℕ). put a b xs) (sym (take-append-drop k zs))
        ∙ sym (put-put-next a (a + k) (take k zs) (drop k zs) xs (omega (arith, la)) (omega (arith, lb, ends)))
        ∙ ap (λ (b : ℕ). put b (drop k zs) x1) (sym nx))
        ∙ whole u (drop k zs) x1 hu lb (omega arith)
        ∙ ap (λ (ts : List (List ℕ)). set ts u (drop k zs)) (whole t (take k zs) xs ht la long)

    -- the notes that are left
    pub two-left : (i n q o : ℕ) → o ≡ k → n ≤ k → q ≤ n → entries o 34 q zs ≡ lower_all i (entries o 34 n (lent_at r xs))
        → numbered ref 34 q (take k zs) (drop k zs) ≡ lower_all i (numbered ref 34 n (table l t xs) (table l u xs))
    two-left i n q o eo hn hq w =
        sym (apart q zs (omega arith))
        ∙ subst (λ (b : ℕ). entries b 34 q zs ≡ lower_all i (entries b 34 n (lent_at r xs))) eo w
        ∙ ap (lower_all i) (ap (entries k 34 n) (two-lent xs) ∙ apart n (table l t xs ++ table l u xs) hn
        ∙ (λ z. numbered ref 34 n (take_at (table l t xs) (table l u xs) k lt z) (drop_at (table l t xs) (table l u xs) k lt z)))
      where
        apart : (m : ℕ) (bs : List ℕ) → m ≤ k → entries k 34 m bs ≡ numbered ref 34 m (take k bs) (drop k bs)
        apart m bs h = numbered-same ref 34 m bs (take k bs) (drop k bs) (drop k bs) (sym (take-take m k bs h)) refl

-- what a lent list has at most
few-are : (l : Limits) (t m o s n : ℕ) (r : Range ℕ) (xs zs : List ℕ) → t < 15 → r ≡ span l t → o < s → table l t zs ≡ table l t xs → AllNumbered m o s n (table l t xs) → AllFew o s n (lent_at r zs)
few-are l t m o s n r xs zs ht hr h e all =
    subst (AllFew o s n) (sym (lent-table l t r zs ht hr ∙ e))
    (record { each = λ q b. omega (arith, few-in m o (part (q * s) s (table l t xs)) (all.each q b), get_d_part (q * s) s o 0 (table l t xs) h) })

-- the tables with all numbers lowered
module _ (h : Head) (xs : List ℕ) (sound : Sound h xs) (asc : LinksAscend h xs) (i : ℕ) (hi : i < h.live.links) where
  abbrev l1 : Limits
  l1 = limits_of h.limits

  abbrev ps : List ℕ
  ps = keys (state_of h xs).links

  abbrev T : ℕ → List ℕ
  T t = table l1 t xs

  up : Ascending ps
  up = up_of ps asc

  here : i < length ps
  here = omega (arith, count-peers h xs)

  abbrev fit : Fit h xs
  fit = sound.fit

  abbrev old : Laid h (tables l1 xs)
  old = sound.laid

  queue-below : Below (length ps) (take h.live.queued (T 11))
  queue-below = subst (λ (k : ℕ). Below k (take h.live.queued (T 11))) (sym (count-peers h xs)) old.queue

  dropped-below : Below (length ps) (take h.live.dropped (T 13))
  dropped-below = subst (λ (k : ℕ). Below k (take h.live.dropped (T 13))) (sym (count-peers h xs)) old.dropped

  grafts-below : AllNumbered (length ps) 22 119 h.live.grafted (T 7)
  grafts-below = subst (λ (k : ℕ). AllNumbered k 22 119 h.live.grafted (T 7)) (sym (count-peers h xs)) old.grafts

  missing-below : AllNumbered (length ps) 32 129 h.live.missing (T 9)
  missing-below = subst (λ (k : ℕ). AllNumbered k 32 129 h.live.missing (T 9)) (sym (count-peers h xs)) old.missing

  notes-below : (n r : ℕ) (c b d e : List ℕ) → numbered ref 34 r d e ≡ lower_all i (numbered ref 34 n c b) → Below h.live.links (take n c) → Below (h.live.links - 1) (take r d)
  notes-below n r c b d e w q =
      subst (Below (h.live.links - 1)) (sym (ap places w) ∙ places-numbered 34 r d e)
      (below-lowered i h.live.links hi (numbered ref 34 n c b) (subst (Below h.live.links) (sym (places-numbered 34 n c b)) q))

  -- the header with what is left
  abbrev pub left_head : ℕ → ℕ → ℕ → Head
  left_head q d m = with_missing_count m (with_dropped_count d (with_queued_count q h))

  module _ (q1 q2 d1 d2 g v ys : List ℕ) (q d m : ℕ) (long : length ys ≡ length xs)
      (framed : tables l1 ys ≡ set (set (set (set (set (set (tables l1 xs) 11 q1) 12 q2) 13 d1) 14 d2) 7 g) 9 v)
      (hq : q ≤ h.live.queued) (hd : d ≤ h.live.dropped) (hm : m ≤ h.live.missing)
      (nq : numbered ref 34 q q1 q2 ≡ lower_all i (numbered ref 34 h.live.queued (T 11) (T 12)))
      (nd : numbered ref 34 d d1 d2 ≡ lower_all i (numbered ref 34 h.live.dropped (T 13) (T 14)))
      (ng : listed 22 119 h.live.grafted g ≡ map (lower_listed i) (listed 22 119 h.live.grafted (T 7)))
      (nv : listed 32 129 m v ≡ filter has_announcers (map (lower_listed i) (listed 32 129 h.live.missing (T 9)))) where
    pub lowered-links : LoweredLinks i h xs (left_head q d m) ys
    unfolding state_of
    lowered-links = record {
      same =
          let s = state_of h xs in
          ap (view_with (without_peer i ps) (left_head q d m)) framed
          ∙ (λ k. record {
            settings = s.settings;
            limits = s.limits;
            links = s.links;
            queue = notes-left i ps up here h.live.queued q (T 11) (T 12) q1 q2 nq queue-below k;
            dropped = notes-left i ps up here h.live.dropped d (T 13) (T 14) d1 d2 nd dropped-below k;
            missing = missing-left i ps up here h.live.missing m (T 9) v nv missing-below k;
            received = s.received;
            grafted = grafted-left i ps up here h.live.grafted (T 7) g ng grafts-below h.live.grafted_rows (T 8) k;
            cache = s.cache;
            timers = s.timers;
            init = s.init;
          });
      links = refl;
      fit = record { ceilings = fit.ceilings; within = omega (arith, fit.within, hq, hd, hm); long = omega (arith, fit.long) };
      laid = subst (Laid (with_link_count (h.live.links - 1) (left_head q d m))) (sym framed) (record {
        received = old.received;
        cached = old.cached;
        grafted = subst (Below h.live.grafted_rows) (sym (places-lowered i h.live.grafted (T 7) g ng)) old.grafted;
        contents = old.contents;
        used = old.used;
        grafts = of-fine (h.live.links - 1) 22 119 h.live.grafted g
            (subst (λ (rs : List Listed). Fine (h.live.links - 1) rs) (sym ng) (fine-lowered i h.live.links hi (listed 22 119 h.live.grafted (T 7)) (fine_of h.live.links 22 119 h.live.grafted (T 7) old.grafts)));
        missing = of-fine (h.live.links - 1) 32 129 m v
            (subst (λ (rs : List Listed). Fine (h.live.links - 1) rs) (sym nv)
            (fine-filter (h.live.links - 1) has_announcers (map (lower_listed i) (listed 32 129 h.live.missing (T 9)))
            (fine-lowered i h.live.links hi (listed 32 129 h.live.missing (T 9)) (fine_of h.live.links 32 129 h.live.missing (T 9) old.missing))));
        queue = notes-below h.live.queued q (T 11) (T 12) q1 q2 nq old.queue;
        dropped = notes-below h.live.dropped d (T 13) (T 14) d1 d2 nd old.dropped;
      });
    }

  -- one change after the other: the queue, the record, each with its rows
  module _ (queue : Range ℕ) (queue-start : queue.start ≡ place l1 11) (queue-end : queue.end ≡ place l1 13) (z1 : List ℕ) (q o1 : ℕ) (g1 : length z1 ≡ length (lent_at queue xs)) (k1 : o1 ≡ get_or (sizes l1) 11 0)
      (w1 : (q ≤ h.live.queued) × (entries o1 34 q z1 ≡ lower_all i (entries o1 34 h.live.queued (lent_at queue xs)))) where
    abbrev y1 : List ℕ
    y1 = given_back queue xs z1

    abbrev s11 : ℕ
    s11 = get_or (sizes l1) 11 0

    end11 : queue.end ≡ place l1 12 + get_or (sizes l1) 12 0
    end11 = omega (arith, queue-end)

    f1 : tables l1 y1 ≡ set (set (tables l1 xs) 11 (take s11 z1)) 12 (drop s11 z1)
    f1 = two-frame l1 11 12 (lit< tt) (lit< tt) (omega arith) queue queue-start end11 xs z1 fit.long g1

    long1 : length y1 ≡ length xs
    long1 = two-long l1 11 12 (lit< tt) (lit< tt) (omega arith) queue queue-start end11 xs z1 fit.long g1

    n1 : numbered ref 34 q (take s11 z1) (drop s11 z1) ≡ lower_all i (numbered ref 34 h.live.queued (T 11) (T 12))
    n1 = two-left l1 11 12 (lit< tt) (lit< tt) (omega arith) queue queue-start end11 xs z1 fit.long g1 i h.live.queued q o1 k1 (omega (arith, fit.within)) w1.0 w1.1

    module _ (notes : Range ℕ) (notes-start : notes.start ≡ place l1 13) (notes-end : notes.end ≡ end l1) (z2 : List ℕ) (d o2 : ℕ) (g2 : length z2 ≡ length (lent_at notes y1)) (k2 : o2 ≡ get_or (sizes l1) 13 0)
        (w2 : (d ≤ h.live.dropped) × (entries o2 34 d z2 ≡ lower_all i (entries o2 34 h.live.dropped (lent_at notes y1))))
        (grafted : Range ℕ) (grafted-is : grafted ≡ span l1 7) where
      abbrev y2 : List ℕ
      y2 = given_back notes y1 z2

      abbrev s13 : ℕ
      s13 = get_or (sizes l1) 13 0

      end13 : notes.end ≡ place l1 14 + get_or (sizes l1) 14 0
      end13 = omega (arith, notes-end)

      room1 : end l1 ≤ length y1
      room1 = omega (arith, long1, fit.long)

      abbrev t2 : List (List ℕ)
      t2 = set (set (set (set (tables l1 xs) 11 (take s11 z1)) 12 (drop s11 z1)) 13 (take s13 z2)) 14 (drop s13 z2)

      f2 : tables l1 y2 ≡ t2
      f2 =
          two-frame l1 13 14 (lit< tt) (lit< tt) (omega arith) notes notes-start end13 y1 z2 room1 g2
          ∙ ap (λ (ts : List (List ℕ)). set (set ts 13 (take s13 z2)) 14 (drop s13 z2)) f1

      long2 : length y2 ≡ length xs
      long2 = two-long l1 13 14 (lit< tt) (lit< tt) (omega arith) notes notes-start end13 y1 z2 room1 g2 ∙ long1

      n2 : numbered ref 34 d (take s13 z2) (drop s13 z2) ≡ lower_all i (numbered ref 34 h.live.dropped (T 13) (T 14))
      n2 =
          two-left l1 13 14 (lit< tt) (lit< tt) (omega arith) notes notes-start end13 y1 z2 room1 g2 i h.live.dropped d o2 k2 (omega (arith, fit.within)) w2.0 w2.1
          ∙ ap (λ (ts : List (List ℕ)). lower_all i (numbered ref 34 h.live.dropped (get_or ts 13 []) (get_or ts 14 []))) f1

      room2 : end l1 ≤ length y2
      room2 = omega (arith, long2, fit.long)

      pub third-asks : (h.live.grafted * 119 ≤ length (lent_at grafted y2)) × AllFew 22 119 h.live.grafted (lent_at grafted y2)
      third-asks = (
        omega (arith, lent-room l1 7 grafted y2 (lit< tt) grafted-is room2, fit.within),
        few-are l1 7 h.live.links 22 119 h.live.grafted grafted xs y2 (lit< tt) grafted-is (omega arith) (ap (λ (ts : List (List ℕ)). get_or ts 7 []) f2) old.grafts,
      )

      module _ (z3 : List ℕ) (g3 : length z3 ≡ length (lent_at grafted y2))
          (w3 : listed 22 119 h.live.grafted z3 ≡ map (lower_listed i) (listed 22 119 h.live.grafted (lent_at grafted y2)))
          (missing : Range ℕ) (missing-is : missing ≡ span l1 9) where
        abbrev y3 : List ℕ
        y3 = given_back grafted y2 z3

        f3 : tables l1 y3 ≡ set t2 7 z3
        f3 = lent-frame l1 7 grafted y2 (lit< tt) grafted-is z3 room2 g3 ∙ ap (λ (ts : List (List ℕ)). set ts 7 z3) f2

        long3 : length y3 ≡ length xs
        long3 = lent-long l1 7 grafted y2 (lit< tt) grafted-is z3 room2 g3 ∙ long2

        n3 : listed 22 119 h.live.grafted z3 ≡ map (lower_listed i) (listed 22 119 h.live.grafted (T 7))
        n3 =
            w3
            ∙ ap (λ (bs : List ℕ). map (lower_listed i) (listed 22 119 h.live.grafted bs)) (lent-table l1 7 grafted y2 (lit< tt) grafted-is ∙ ap (λ (ts : List (List ℕ)). get_or ts 7 []) f2)

        room3 : end l1 ≤ length y3
        room3 = omega (arith, long3, fit.long)

        pub fourth-asks : (h.live.missing * 129 ≤ length (lent_at missing y3)) × AllFew 32 129 h.live.missing (lent_at missing y3)
        fourth-asks = (
          omega (arith, lent-room l1 9 missing y3 (lit< tt) missing-is room3, fit.within),
          few-are l1 9 h.live.links 32 129 h.live.missing missing xs y3 (lit< tt) missing-is (omega arith) (ap (λ (ts : List (List ℕ)). get_or ts 9 []) f3) old.missing,
        )

        module _ (z4 : List ℕ) (m : ℕ) (g4 : length z4 ≡ length (lent_at missing y3))
            (w4 : (m ≤ h.live.missing) × (listed 32 129 m z4 ≡ filter has_announcers (map (lower_listed i) (listed 32 129 h.live.missing (lent_at missing y3))))) where
          abbrev y4 : List ℕ
          y4 = given_back missing y3 z4

          pub all-steps : LoweredLinks i h xs (left_head q d m) y4
          all-steps =
              lowered-links (take s11 z1) (drop s11 z1) (take s13 z2) (drop s13 z2) z3 z4 y4 q d m
              (lent-long l1 9 missing y3 (lit< tt) missing-is z4 room3 g4 ∙ long3)
              (lent-frame l1 9 missing y3 (lit< tt) missing-is z4 room3 g4 ∙ ap (λ (ts : List (List ℕ)). set ts 9 z4) f3)
              w1.0 w2.0 w4.0 n1 n2 n3
              (w4.1
              ∙ ap (λ (bs : List ℕ). filter has_announcers (map (lower_listed i) (listed 32 129 h.live.missing bs)))
              (lent-table l1 9 missing y3 (lit< tt) missing-is ∙ ap (λ (ts : List (List ℕ)). get_or ts 9 []) f3))
