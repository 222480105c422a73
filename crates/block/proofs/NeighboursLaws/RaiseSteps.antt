-- The four changes that raise the link numbers of a block, one after the other: queue, record, grafted rows, missing rows.
-- Assumes nothing.
use Rattle.block.proofs.Words.{◌≡◌, refl, sym, ap, ◌∙◌, subst, List, [], map, ℕ, ◌+◌, ◌*◌, ◌≤◌, ◌<◌, arith, lit<, length, take, get_or, set, Range, rows, Below, Limits, raised}
use Rattle.storage.specs.Rows.Part.{part}
use Rattle.block.specs.Layout.{sizes, place, span, tables, table, end}
use Rattle.block.specs.View.{limits_of}
use Rattle.block.specs.Sound.{Sound, AllNumbered}
use Rattle.block.specs.declared.head.Head.{Head}
use Rattle.block.proofs.RowLaws.{part_in}
use Rattle.block.specs.Neighbours.Raised.{raised_row, RaisedLinks}
use Rattle.block.proofs.Lent.{lent_at, given_back, lent-table, lent-room, lent-frame, lent-long}
use Rattle.block.proofs.NeighboursLaws.RaisedLaws.{below_more}
use Rattle.block.proofs.NeighboursLaws.UpLaws.{column-long, column-frame, raised-links}

all_more : (m k o s n : ℕ) (xs : List ℕ) → m ≤ k → AllNumbered m o s n xs → AllNumbered k o s n xs
all_more m k o s n xs h a = record {
  each = λ j q. record { few = (a.each j q).few; below = below_more m k _ h (a.each j q).below };
}

module _ (h : Head) (xs : List ℕ) (sound : Sound h xs) (i : ℕ) (hi : i ≤ h.live.links) where
  abbrev l : Limits
  l = limits_of h.limits

  abbrev T : ℕ → List ℕ
  T t = table l t xs

  few-links : h.live.links ≤ 255
  few-links = omega (arith, sound.fit)

  -- what each change asks for, where the table is as it was
  column-below : (t n : ℕ) (ys : List ℕ) → t < 15 → n ≤ get_or (sizes l) t 0 → table l t ys ≡ T t → Below h.live.links (take n (T t)) → Below 255 (part (place l t) n ys)
  unfolding part
  column-below t n ys ht q e b =
      let z : place l t + 0 ≡ place l t = omega arith in
      let p : take n (T t) ≡ part (place l t) n ys = ap (take n) (sym e) ∙ part_in l t 0 n ys ht (omega arith) ∙ ap (λ (a : ℕ). part a n ys) z in
      subst (Below 255) p (below_more h.live.links 255 (take n (T t)) few-links b)

  rows-below : (t o s n : ℕ) (r : Range ℕ) (ys : List ℕ) → t < 15 → r ≡ span l t → table l t ys ≡ T t → AllNumbered h.live.links o s n (T t) → AllNumbered 255 o s n (lent_at r ys)
  rows-below t o s n r ys ht hr e b = subst (AllNumbered 255 o s n) (sym (lent-table l t r ys ht hr ∙ e)) (all_more h.live.links 255 o s n (T t) few-links b)

  module _ (a11 : ℕ) (e11 : a11 ≡ place l 11) where
    pub first-asks : Below 255 (part a11 h.live.queued xs)
    first-asks = subst (λ (a : ℕ). Below 255 (part a h.live.queued xs)) (sym e11) (column-below 11 h.live.queued xs (lit< tt) (omega (arith, sound.fit)) refl sound.laid.queue)

    module _ (y1 : List ℕ) (w1 : y1 ≡ raised i a11 h.live.queued xs) (a13 : ℕ) (e13 : a13 ≡ place l 13) where
      f1 : tables l y1 ≡ set (tables l xs) 11 (raised i 0 h.live.queued (T 11))
      f1 =
          ap (tables l) w1
          ∙ ap (λ (a : ℕ). tables l (raised i a h.live.queued xs)) e11
          ∙ column-frame l 11 (lit< tt) xs sound.fit.long i h.live.queued (omega (arith, sound.fit))

      long1 : length y1 ≡ length xs
      long1 =
          ap length w1
          ∙ ap (λ (a : ℕ). length (raised i a h.live.queued xs)) e11
          ∙ column-long l 11 (lit< tt) xs sound.fit.long i h.live.queued (omega (arith, sound.fit))

      pub second-asks : Below 255 (part a13 h.live.dropped y1)
      second-asks =
          subst (λ (a : ℕ). Below 255 (part a h.live.dropped y1)) (sym e13)
          (column-below 13 h.live.dropped y1 (lit< tt) (omega (arith, sound.fit)) (ap (λ (ts : List (List ℕ)). get_or ts 13 []) f1) sound.laid.dropped)

      module _ (y2 : List ℕ) (w2 : y2 ≡ raised i a13 h.live.dropped y1) (r7 : Range ℕ) (h7 : r7 ≡ span l 7) where
        f2 : tables l y2 ≡ set (set (tables l xs) 11 (raised i 0 h.live.queued (T 11))) 13 (raised i 0 h.live.dropped (T 13))
        f2 =
            ap (tables l) w2
            ∙ ap (λ (a : ℕ). tables l (raised i a h.live.dropped y1)) e13
            ∙ column-frame l 13 (lit< tt) y1 (omega (arith, sound.fit.long, long1)) i h.live.dropped (omega (arith, sound.fit))
            ∙ ap (λ (ts : List (List ℕ)). set ts 13 (raised i 0 h.live.dropped (get_or ts 13 []))) f1

        long2 : length y2 ≡ length xs
        long2 =
            ap length w2
            ∙ ap (λ (a : ℕ). length (raised i a h.live.dropped y1)) e13
            ∙ column-long l 13 (lit< tt) y1 (omega (arith, sound.fit.long, long1)) i h.live.dropped (omega (arith, sound.fit))
            ∙ long1

        abbrev t2 : List (List ℕ)
        t2 = set (set (tables l xs) 11 (raised i 0 h.live.queued (T 11))) 13 (raised i 0 h.live.dropped (T 13))

        room2 : end l ≤ length y2
        room2 = omega (arith, sound.fit.long, long2)

        pub third-asks : (h.live.grafted * 119 ≤ length (lent_at r7 y2)) × AllNumbered 255 22 119 h.live.grafted (lent_at r7 y2)
        third-asks = (
          omega (arith, lent-room l 7 r7 y2 (lit< tt) h7 room2, sound.fit),
          rows-below 7 22 119 h.live.grafted r7 y2 (lit< tt) h7 (ap (λ (ts : List (List ℕ)). get_or ts 7 []) f2) sound.laid.grafts,
        )

        module _ (z3 : List ℕ) (g3 : length z3 ≡ length (lent_at r7 y2)) (w3 : rows 119 h.live.grafted z3 ≡ map (raised_row i 22) (rows 119 h.live.grafted (lent_at r7 y2)))
            (r9 : Range ℕ) (h9 : r9 ≡ span l 9) where
          abbrev y3 : List ℕ
          y3 = given_back r7 y2 z3

          f3 : tables l y3 ≡ set t2 7 z3
          f3 = lent-frame l 7 r7 y2 (lit< tt) h7 z3 room2 g3 ∙ ap (λ (ts : List (List ℕ)). set ts 7 z3) f2

          long3 : length y3 ≡ length xs
          long3 = lent-long l 7 r7 y2 (lit< tt) h7 z3 room2 g3 ∙ long2

          room3 : end l ≤ length y3
          room3 = omega (arith, sound.fit.long, long3)

          pub fourth-asks : (h.live.missing * 129 ≤ length (lent_at r9 y3)) × AllNumbered 255 32 129 h.live.missing (lent_at r9 y3)
          fourth-asks = (
            omega (arith, lent-room l 9 r9 y3 (lit< tt) h9 room3, sound.fit),
            rows-below 9 32 129 h.live.missing r9 y3 (lit< tt) h9 (ap (λ (ts : List (List ℕ)). get_or ts 9 []) f3) sound.laid.missing,
          )

          module _ (z4 : List ℕ) (g4 : length z4 ≡ length (lent_at r9 y3)) (w4 : rows 129 h.live.missing z4 ≡ map (raised_row i 32) (rows 129 h.live.missing (lent_at r9 y3))) where
            pub all-steps : RaisedLinks i h xs (given_back r9 y3 z4)
            all-steps =
                raised-links h xs sound i hi z3 z4 (given_back r9 y3 z4)
                (lent-long l 9 r9 y3 (lit< tt) h9 z4 room3 g4 ∙ long3)
                (lent-frame l 9 r9 y3 (lit< tt) h9 z4 room3 g4 ∙ ap (λ (ts : List (List ℕ)). set ts 9 z4) f3)
                (w3 ∙ ap (λ (bs : List ℕ). map (raised_row i 22) (rows 119 h.live.grafted bs)) (lent-table l 7 r7 y2 (lit< tt) h7 ∙ ap (λ (ts : List (List ℕ)). get_or ts 7 []) f2))
                (w4 ∙ ap (λ (bs : List ℕ). map (raised_row i 32) (rows 129 h.live.missing bs)) (lent-table l 9 r9 y3 (lit< tt) h9 ∙ ap (λ (ts : List (List ℕ)). get_or ts 9 []) f3))
