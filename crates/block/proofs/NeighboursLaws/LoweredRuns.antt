-- Link numbers and notes after a link went, many at once: numbers that are lowered, a run of notes that is kept, rows before the first that goes.
-- Assumes nothing.
use Rattle.block.proofs.Words.{◌≡◌, refl, sym, ap, ◌∙◌, subst, ◌⊎◌, inl, inr, Bool, not, List, [], ◌∷◌, ◌++◌, append-nil, map, ℕ, zero, suc, ◌+◌, ◌-◌, ◌*◌, ◌≤◌, ◌<◌, suc-le-suc, zero-le, arith, lit<, eq-eqb, ne_eqb, length, take, drop, get_or, set, drop-drop, drop_of_length-le, length-append, if◌then◌else◌, rows, differs, length_part, length-put, part-part, part-put, part-zero, put-nil, part-add, part-after, part-before, part-inside, drop-put, put-drop, put-put-next, take_put, get_d_part, get_or-put-after, get_d_rows, length-rows, rows-part, rows-put, take-rows, ref, Ref, low_or_high, entries, stays}
use Rattle.std.proofs.Common.{take-append-drop, length-take-le, length-drop, get_or-take, map-id, zero-add}
use mathlib.Core.List.{map-append}
use lib.ListN.{length-map}
use Rattle.storage.specs.Lists.Base.{filter}
use Rattle.storage.specs.Rows.Part.{part, put}
use Rattle.storage.specs.Refs.Numbers.{pairs, numbered, lower, lowered, lower_all}
use Rattle.storage.proofs.ListsLaws.ListLaws.{filter-append}
use Rattle.storage.proofs.RowsLaws.Parts.{put-snoc, part-snoc, put-part}
use Rattle.storage.proofs.RowsLaws.Rows.{drop-rows, rows_take, rows_append, mul-up, mul-split}
use Rattle.storage.proofs.RowsLaws.Kept.{Going, going-read, going_drop, going_done}
use Rattle.storage.proofs.RefsLaws.Numbered.{length_pairs, pairs-append}
use Rattle.storage.proofs.RefsLaws.Entries.{entries-long, entry_at, entries-first}
use Rattle.block.specs.Neighbours.Lowered.{NoneFrom, Announced, moved_notes, listed_of, lower_listed}
use Rattle.block.proofs.NeighboursLaws.LoweredRows.{list-lowered}

-- one more that is another number
pub others-none : (i a : ℕ) (xs : List ℕ) → NoneFrom i a a xs
others-none i a xs = record { other = λ k h g e. omega (arith, h, g) }

pub others-more : (i a j : ℕ) (xs : List ℕ) → NoneFrom i a j xs → (get_or xs j 0 ≡ i → ⊥) → NoneFrom i a (j + 1) xs
others-more i a j xs o n = record { other = λ k h g e. go k h g e (low_or_high j k) }
  where
    go : (k : ℕ) → a ≤ k → k < j + 1 → get_or xs k 0 ≡ i → (k < j) ⊎ (j ≤ k) → ⊥
    go k h g e (inl b) = o.other k h b e
    go k h g e (inr b) = let z : j ≡ k = omega arith in n (ap (λ (q : ℕ). get_or xs q 0) z ∙ e)

-- more behind them
pub others-behind : (i a b c : ℕ) (xs : List ℕ) → NoneFrom i a b xs → NoneFrom i b c xs → NoneFrom i a c xs
others-behind i a b c xs o n = record { other = λ k h g e. go k h g e (low_or_high b k) }
  where
    go : (k : ℕ) → a ≤ k → k < c → get_or xs k 0 ≡ i → (k < b) ⊎ (b ≤ k) → ⊥
    go k h g e (inl q) = o.other k h q e
    go k h g e (inr q) = n.other k q g e

-- the one before them too
pub others-from : (i a j : ℕ) (xs : List ℕ) → (get_or xs a 0 ≡ i → ⊥) → NoneFrom i (a + 1) j xs → NoneFrom i a j xs
others-from i a j xs n o = record { other = λ k h g e. go k g e h (low_or_high (a + 1) k) }
  where
    go : (k : ℕ) → k < j → get_or xs k 0 ≡ i → a ≤ k → (k < a + 1) ⊎ (a + 1 ≤ k) → ⊥
    go k g e h (inl b) = let z : a ≡ k = omega arith in n (ap (λ (q : ℕ). get_or xs q 0) z ∙ e)
    go k g e h (inr b) = o.other k b g e

pub announced-more : (j : ℕ) (xs : List ℕ) → Announced j xs → (get_or xs (j * 129 + 32) 0 ≡ 0 → ⊥) → Announced (j + 1) xs
announced-more j xs o n = record { some = λ k g e. go k g e (low_or_high j k) }
  where
    go : (k : ℕ) → k < j + 1 → get_or xs (k * 129 + 32) 0 ≡ 0 → (k < j) ⊎ (j ≤ k) → ⊥
    go k g e (inl b) = o.some k b e
    go k g e (inr b) = let z : j ≡ k = omega arith in n (ap (λ (q : ℕ). get_or xs (q * 129 + 32) 0) z ∙ e)

-- numbers that are changed, one after the other
module _ (f : ℕ → ℕ) (a : ℕ) (xs : List ℕ) where
  abbrev pub changed : ℕ → List ℕ
  changed j = put a (map f (part a j xs)) xs

  pub changed-start : xs ≡ changed 0
  changed-start = sym (ap (λ (l : List ℕ). put a (map f l) xs) (part-zero a xs) ∙ put-nil a xs)

  length-changed : (j : ℕ) → a + j ≤ length xs → length (map f (part a j xs)) ≡ j
  length-changed j h = length-map (part a j xs) f ∙ length_part a j xs h

  pub changed-read : (j : ℕ) → a + j < length xs → get_or (changed j) (a + j) 0 ≡ get_or xs (a + j) 0
  changed-read j h = get_or-put-after a (a + j) 0 (map f (part a j xs)) xs (omega (arith, length-changed j (omega arith))) (omega arith)

  pub changed-more : (j : ℕ) → a + j < length xs → set (changed j) (a + j) (f (get_or xs (a + j) 0)) ≡ changed (j + 1)
  changed-more j h =
      put-snoc a (a + j) (map f (part a j xs)) (f (get_or xs (a + j) 0)) xs (omega (arith, length-changed j (omega arith))) h
      ∙ ap (λ (l : List ℕ). put a l xs) (sym (ap (map f) (part-snoc a j 0 xs h) ∙ map-append f (part a j xs) (get_or xs (a + j) 0 ∷ [])))

-- pairs of numbers and rows
pairs-lowered : (i : ℕ) (ls : List ℕ) (rs : List (List ℕ)) → pairs ref (map (lowered i) ls) rs ≡ map (lower i) (pairs ref ls rs)
unfolding pairs
pairs-lowered i [] rs = refl
pairs-lowered i (l ∷ ls) [] = refl
pairs-lowered i (l ∷ ls) (r ∷ rs) = ap (λ (t : List Ref). ref (lowered i l) r ∷ t) (pairs-lowered i ls rs)

pairs-others : (i : ℕ) (ls : List ℕ) (rs : List (List ℕ)) → NoneFrom i 0 (length ls) ls → filter (stays i) (pairs ref ls rs) ≡ pairs ref ls rs
unfolding pairs filter
pairs-others i [] rs o = refl
pairs-others i (l ∷ ls) [] o = refl
pairs-others i (l ∷ ls) (r ∷ rs) o =
    let tail : NoneFrom i 0 (length ls) ls = record { other = λ k h g e. o.other (suc k) zero-le (suc-le-suc g) e } in
    ap (λ (t : Bool). if t then ref l r ∷ filter (stays i) (pairs ref ls rs) else filter (stays i) (pairs ref ls rs)) (ap not (ne_eqb l i (λ e. o.other 0 zero-le (suc-le-suc zero-le) e)))
    ∙ ap (λ (t : List Ref). ref l r ∷ t) (pairs-others i ls rs tail)

pairs-first : (k : ℕ) (ls : List ℕ) (rs : List (List ℕ)) → take k (pairs ref ls rs) ≡ pairs ref (take k ls) (take k rs)
unfolding pairs
pairs-first zero ls rs = refl
pairs-first (suc k) [] rs = refl
pairs-first (suc k) (l ∷ ls) [] = refl
pairs-first (suc k) (l ∷ ls) (r ∷ rs) = ap (λ (t : List Ref). ref l r ∷ t) (pairs-first k ls rs)

pairs-rest : (k : ℕ) (ls : List ℕ) (rs : List (List ℕ)) → length ls ≡ length rs → drop k (pairs ref ls rs) ≡ pairs ref (drop k ls) (drop k rs)
unfolding pairs
pairs-rest zero ls rs e = refl
pairs-rest (suc k) [] [] e = refl
pairs-rest (suc k) [] (r ∷ rs) e = absurd (omega arith)
pairs-rest (suc k) (l ∷ ls) [] e = absurd (omega arith)
pairs-rest (suc k) (l ∷ ls) (r ∷ rs) e = pairs-rest k ls rs (omega arith)

pairs-part : (a k : ℕ) (ls : List ℕ) (rs : List (List ℕ)) → length ls ≡ length rs → part a k (pairs ref ls rs) ≡ pairs ref (part a k ls) (part a k rs)
unfolding part
pairs-part a k ls rs e = ap (take k) (pairs-rest a ls rs e) ∙ pairs-first k (drop a ls) (drop a rs)

pairs-put : (a : ℕ) (ys ls : List ℕ) (zs rs : List (List ℕ)) → length ls ≡ length rs → length ys ≡ length zs → a ≤ length ls
    → pairs ref (put a ys ls) (put a zs rs) ≡ put a (pairs ref ys zs) (pairs ref ls rs)
unfolding put
pairs-put a ys ls zs rs e f h =
    pairs-append ref (take a ls) (ys ++ drop (length ys) (drop a ls)) (take a rs) (zs ++ drop (length zs) (drop a rs)) (length-take-le a ls h ∙ sym (length-take-le a rs (omega (arith, e))))
    ∙ ap (λ (t : List Ref). pairs ref (take a ls) (take a rs) ++ t) (pairs-append ref ys (drop (length ys) (drop a ls)) zs (drop (length zs) (drop a rs)) f)
    ∙ (λ k. sym (pairs-first a ls rs) k ++ (pairs ref ys zs ++ behind k))
  where
    behind : pairs ref (drop (length ys) (drop a ls)) (drop (length zs) (drop a rs)) ≡ drop (length (pairs ref ys zs)) (drop a (pairs ref ls rs))
    behind =
        ap (λ (n : ℕ). pairs ref (drop (length ys) (drop a ls)) (drop n (drop a rs))) (sym f)
        ∙ sym (pairs-rest (length ys) (drop a ls) (drop a rs) (omega (arith, e, length-drop a ls, length-drop a rs)))
        ∙ (λ k. drop (sym (length_pairs ref ys zs f) k) (sym (pairs-rest a ls rs e) k))

-- n numbers at the start and rows at o: the numbers lowered, and a run of them that is moved
module _ (o s n : ℕ) (b : List ℕ) (ho : n ≤ o) (room : o + n * s ≤ length b) where
  abbrev numbers : List ℕ
  numbers = take n b

  abbrev beside : List (List ℕ)
  beside = rows s n (drop o b)

  long : length numbers ≡ n
  long = length-take-le n b (omega arith)

  same : length numbers ≡ length beside
  same = long ∙ sym (length-rows s n (drop o b))

  pub entries-lowered : (i : ℕ) → entries o s n (put 0 (map (lowered i) (part 0 n b)) b) ≡ map (lower i) (entries o s n b)
  unfolding numbered part
  entries-lowered i =
      let ys : List ℕ = map (lowered i) (part 0 n b) in
      let l : length ys ≡ n = length-map (part 0 n b) (lowered i) ∙ length_part 0 n b (omega arith) in
      (λ k. pairs ref (part-put 0 n ys b l (omega arith) k) (rows s n (drop-put o 0 ys b (omega (arith, l)) (omega arith) k)))
      ∙ pairs-lowered i numbers beside

  -- none of the numbers of a run is i
  module _ (i j m : ℕ) (h : j + m ≤ n) (w : NoneFrom i j (j + m) b) where
    pub run-stays : filter (stays i) (part j m (entries o s n b)) ≡ part j m (entries o s n b)
    unfolding numbered
    run-stays =
        let lp : length (part j m numbers) ≡ m = length_part j m numbers (omega (arith, long)) in
        let here : (k : ℕ) → k < m → get_or (part j m numbers) k 0 ≡ get_or b (j + k) 0 = λ k g. get_d_part j m k 0 numbers g ∙ get_or-take n b (j + k) 0 (omega arith) in
        let none : NoneFrom i 0 (length (part j m numbers)) (part j m numbers) = record {
          other = λ k _ g e. w.other (j + k) (omega arith) (omega (arith, g, lp)) (sym (here k (omega (arith, g, lp))) ∙ e);
        } in
        ap (filter (stays i)) (pairs-part j m numbers beside same)
        ∙ pairs-others i (part j m numbers) (part j m beside) none
        ∙ sym (pairs-part j m numbers beside same)

  pub entries-stay : (i : ℕ) → NoneFrom i 0 n b → filter (stays i) (entries o s n b) ≡ entries o s n b
  unfolding numbered
  entries-stay i w =
      pairs-others i numbers beside
      (record { other = λ k h g e. w.other k h (omega (arith, g, long)) (sym (get_or-take n b k 0 (omega (arith, g, long))) ∙ e) })

  module _ (j to m : ℕ) (le : to ≤ j) (h : j + m ≤ n) where
    abbrev moved_rows : List ℕ
    moved_rows = part (o + j * s) (m * s) b

    fit : (k : ℕ) → k + m ≤ n → k * s + m * s ≤ n * s
    fit k g =
        let z : k + m - k ≡ m = omega arith in
        omega (arith, mul-split s (k + m) k (omega arith), ap (λ (q : ℕ). k * s + q * s) z, mul-up s (k + m) n g)

    long-moved : length moved_rows ≡ m * s
    long-moved = length_part (o + j * s) (m * s) b (omega (arith, fit j h, room))

    abbrev c : List ℕ
    c = put (o + to * s) moved_rows b

    long-c : length c ≡ length b
    long-c = length-put (o + to * s) moved_rows b (omega (arith, long-moved, fit to (omega arith), room))

    long-run : length (part j m b) ≡ m
    long-run = length_part j m b (omega arith)

    numbers-moved : take n (put to (part j m b) c) ≡ put to (part j m numbers) numbers
    unfolding part
    numbers-moved =
        let z : 0 + to ≡ to = omega arith in
        let y : 0 + j ≡ j = omega arith in
        ap (λ (a : ℕ). take n (put a (part j m b) c)) (sym z)
        ∙ part-inside 0 to n (part j m b) c (omega (arith, long-run)) (omega (arith, long-c))
        ∙ (λ k. put to (run k) (take_put n (o + to * s) moved_rows b (omega arith) (omega (arith, fit to (omega arith), room)) k))
      where
        run : part j m b ≡ part j m numbers
        run = let y : 0 + j ≡ j = omega arith in sym (part-part j m 0 n b h ∙ ap (λ (a : ℕ). part a m b) y)

    behind-moved : drop o (put to (part j m b) c) ≡ put (to * s) moved_rows (drop o b)
    behind-moved = drop-put o to (part j m b) c (omega (arith, long-run)) (omega (arith, long-c)) ∙ put-drop o (to * s) moved_rows b (omega arith)

    rows-moved : rows s n (put (to * s) moved_rows (drop o b)) ≡ put to (part j m beside) beside
    unfolding part
    rows-moved =
        let l : length (drop o b) ≡ length b - o = length-drop o b in
        rows-put s to m n moved_rows (drop o b) long-moved (omega arith) (omega (arith, l))
        ∙ ap (λ (t : List (List ℕ)). put to t beside) (ap (λ (t : List ℕ). rows s m (take (m * s) t)) (sym (drop-drop (j * s) o b)) ∙ rows-part s j m n (drop o b) h)

    pub entries-moved : entries o s n (put to (part j m b) c) ≡ put to (part j m (entries o s n b)) (entries o s n b)
    unfolding numbered
    entries-moved =
        (λ k. pairs ref (numbers-moved k) ((ap (rows s n) behind-moved ∙ rows-moved) k))
        ∙ pairs-put to (part j m numbers) numbers (part j m beside) beside same
        (length_part j m numbers (omega (arith, long)) ∙ sym (length_part j m beside (omega (arith, length-rows s n (drop o b)))))
        (omega (arith, long))
        ∙ ap (λ (t : List Ref). put to t (pairs ref numbers beside)) (sym (pairs-part j m numbers beside same))

first-more : {A : Type 0} (i m : ℕ) (xs : List A) → take (i + m) xs ≡ take i xs ++ part i m xs
unfolding part
first-more i m xs = part-add 0 i m xs ∙ ap (λ (a : ℕ). take i xs ++ part a m xs) (zero-add i)

-- a run that is kept
module _ {A : Type 0} (q : A → Bool) (d : A) (xs : List A) where
  abbrev kept_first : ℕ → List A
  kept_first i = map (λ (r : A). r) (filter q (take i xs))

  pub going-run : (ys : List A) (k i m : ℕ) → Going q (λ (r : A). r) d xs ys k i → i + m ≤ length xs → filter q (part i m ys) ≡ part i m ys
      → Going q (λ (r : A). r) d xs (put k (part i m ys) ys) (k + m) (i + m)
  going-run ys k i m g h w = record {
    within = h;
    behind = omega (arith, g.behind);
    here = ap (λ (t : List A). put k t ys) as_was
        ∙ ap (put k (part i m xs)) g.here
        ∙ put-put-next 0 k (kept_first i) (part i m xs) xs (omega (arith, g.count)) (omega (arith, g.behind, long-run))
        ∙ ap (λ (t : List A). put 0 t xs) (sym more);
    count = ap length more ∙ length-append (kept_first i) (part i m xs) ∙ (λ z. g.count z + long-run z);
  }
    where
      long-run : length (part i m xs) ≡ m
      long-run = length_part i m xs h

      as_was : part i m ys ≡ part i m xs
      as_was = ap (part i m) g.here ∙ part-after i m 0 (kept_first i) xs (omega (arith, g.count, g.behind)) (omega arith)

      stays-all : filter q (part i m xs) ≡ part i m xs
      stays-all = ap (filter q) (sym as_was) ∙ w ∙ as_was

      more : kept_first (i + m) ≡ kept_first i ++ part i m xs
      more =
          ap (λ (t : List A). map (λ (r : A). r) (filter q t)) (first-more i m xs)
          ∙ ap (map (λ (r : A). r)) (filter-append q (take i xs) (part i m xs))
          ∙ map-append (λ (r : A). r) (filter q (take i xs)) (filter q (part i m xs))
          ∙ ap (λ (t : List A). kept_first i ++ t) (map-id (filter q (part i m xs)) ∙ stays-all)

-- the loop over notes: a note goes, a run stays, and the numbers of those that are left
module _ (o n i : ℕ) (xs b : List ℕ) (ho : n ≤ o) (room : o + n * 34 ≤ length b) (long : length b ≡ length xs) (k j : ℕ)
    (g : Going (stays i) (λ (r : Ref). r) (ref 0 []) (entries o 34 n xs) (entries o 34 n b) k j) where
  abbrev es : List Ref
  es = entries o 34 n xs

  pub long-es : length es ≡ n
  long-es = entries-long o 34 n xs ho (omega (arith, room, long))

  pub note-goes : j < n → get_or b j 0 ≡ i → Going (stays i) (λ (r : Ref). r) (ref 0 []) es (entries o 34 n b) k (j + 1)
  note-goes h e =
      let was : get_or es j (ref 0 []) ≡ ref (get_or b j 0) (part (o + j * 34) 34 b) =
      sym (going-read (stays i) (λ (r : Ref). r) (ref 0 []) es (entries o 34 n b) k j g) ∙ entry_at o 34 n b ho room j (ref 0 []) h in
      going_drop (stays i) (λ (r : Ref). r) (ref 0 []) es (entries o 34 n b) k j g (omega (arith, long-es)) (ap (stays i) was ∙ ap not (eq-eqb (get_or b j 0) i e))

  pub notes-stay : (m : ℕ) → j + m ≤ n → NoneFrom i j (j + m) b → Going (stays i) (λ (r : Ref). r) (ref 0 []) es (entries o 34 n (moved_notes o j k m b)) (k + m) (j + m)
  unfolding moved_notes
  notes-stay m h w =
      subst (λ (t : List Ref). Going (stays i) (λ (r : Ref). r) (ref 0 []) es t (k + m) (j + m)) (sym (entries-moved o 34 n b ho room j k m g.behind h))
      (going-run (stays i) (ref 0 []) es (entries o 34 n b) k j m g (omega (arith, long-es)) (run-stays o 34 n b ho room i j m h w))

  pub notes-lowered : n ≤ j → entries o 34 k (put 0 (map (lowered i) (part 0 k b)) b) ≡ lower_all i es
  unfolding lower_all
  notes-lowered h =
      let q : k ≤ n = omega (arith, g.behind, g.within, long-es) in
      entries-lowered o 34 k b (omega arith) (omega (arith, mul-up 34 k n q)) i
      ∙ ap (map (lower i)) (entries-first o 34 n b ho room k q
      ∙ going_done (stays i) (λ (r : Ref). r) (ref 0 []) es (entries o 34 n b) k j g (omega (arith, long-es))
      ∙ map-id (filter (stays i) es))

-- what a move of notes leaves
pub moved-apart : (a j to m : ℕ) (b : List ℕ) → j + m ≤ a → a + (j + m) * 34 ≤ length b → to ≤ j
    → put to (part j m (put (a + to * 34) (part (a + j * 34) (m * 34) b) b)) (put (a + to * 34) (part (a + j * 34) (m * 34) b) b) ≡ moved_notes a j to m b
unfolding moved_notes
moved-apart a j to m b h r le =
    ap (λ (t : List ℕ). put to t (put (a + to * 34) (part (a + j * 34) (m * 34) b) b)) (part-before j m (a + to * 34) (part (a + j * 34) (m * 34) b) b (omega arith) (omega arith))

pub not-moved : (a j m : ℕ) (b : List ℕ) → j + m ≤ a → a + (j + m) * 34 ≤ length b → moved_notes a j j m b ≡ b
unfolding moved_notes
not-moved a j m b h r = ap (put j (part j m b)) (put-part (a + j * 34) (m * 34) b (omega arith)) ∙ put-part j m b (omega arith)

-- a list in which i is not
pub list-kept : (i n : ℕ) (list : List ℕ) → length list ≡ 97 → n ≡ get_or list 0 0 → n ≤ 32 → NoneFrom i 1 (1 + n) list
    → listed_of 0 (put 1 (map (lowered i) (part 1 n list)) list) ≡ lower_listed i (listed_of 0 list)
unfolding put part lower_all
list-kept i n [] e c few w = absurd (omega (arith, e))
list-kept i n (x ∷ t) e c few w =
    subst (λ (y : ℕ). listed_of 0 (y ∷ put 0 (map (lowered i) (part 0 n t)) t) ≡ lower_listed i (listed_of 0 (x ∷ t))) c
    (list-lowered i n n (x ∷ t) (put 0 (map (lowered i) (part 0 n t)) t) e c few (omega arith) long
    (entries-lowered 32 2 n t few (omega (arith, e)) i ∙ ap (map (lower i)) (sym (entries-stay 32 2 n t few (omega (arith, e)) i others))))
  where
    others : NoneFrom i 0 n t
    others = record { other = λ k h g q. w.other (suc k) (omega arith) (omega (arith, g)) q }

    long : length (put 0 (map (lowered i) (part 0 n t)) t) ≡ 96
    long = length-put 0 (map (lowered i) (part 0 n t)) t (omega (arith, e, length-map (part 0 n t) (lowered i), length_part 0 n t (omega (arith, e)))) ∙ omega (arith, e)

-- rows before the first that goes
all-differ : (o v : ℕ) (rs : List (List ℕ)) → ((k : ℕ) → k < length rs → get_or (get_or rs k []) o 0 ≡ v → ⊥) → filter (differs o v) rs ≡ rs
unfolding filter
all-differ o v [] w = refl
all-differ o v (r ∷ rs) w =
    ap (λ (t : Bool). if t then r ∷ filter (differs o v) rs else filter (differs o v) rs) (ap not (ne_eqb (get_or r o 0) v (w 0 (suc-le-suc zero-le))))
    ∙ ap (λ (t : List (List ℕ)). r ∷ t) (all-differ o v rs (λ k h e. w (suc k) (suc-le-suc h) e))

put-end : (a : ℕ) (zs xs : List ℕ) → length zs ≡ length xs - a → put a zs xs ≡ take a xs ++ zs
unfolding put
put-end a zs xs e =
    ap (λ (t : List ℕ). take a xs ++ (zs ++ t)) (drop_of_length-le (drop a xs) (omega (arith, e, length-drop a xs)))
    ∙ ap (λ (t : List ℕ). take a xs ++ t) (append-nil zs)

pub rows-kept : (n first r : ℕ) (xs zs : List ℕ) → first ≤ n → n * 129 ≤ length xs → Announced first xs → length zs ≡ length xs - first * 129
    → rows 129 r zs ≡ filter (differs 32 0) (rows 129 (n - first) (drop (first * 129) xs)) → rows 129 (first + r) (put (first * 129) zs xs) ≡ filter (differs 32 0) (rows 129 n xs)
rows-kept n first r xs zs h room w lz e =
    ap (rows 129 (first + r)) (put-end (first * 129) zs xs lz)
    ∙ rows_append 129 first r (take (first * 129) xs) zs (length-take-le (first * 129) xs (omega arith))
    ∙ (λ k. front k ++ (e ∙ ap (filter (differs 32 0)) (sym (drop-rows 129 first n xs))) k)
    ∙ sym (filter-append (differs 32 0) (take first (rows 129 n xs)) (drop first (rows 129 n xs)))
    ∙ ap (filter (differs 32 0)) (take-append-drop first (rows 129 n xs))
  where
    differ : filter (differs 32 0) (take first (rows 129 n xs)) ≡ take first (rows 129 n xs)
    differ =
        all-differ 32 0 (take first (rows 129 n xs))
        (λ k g q.
        let b : k < first = omega (arith, g, length-take-le first (rows 129 n xs) (omega (arith, length-rows 129 n xs))) in
        w.some k b
        (sym (get_d_part (k * 129) 129 32 0 xs (lit< tt))
        ∙ ap (λ (t : List ℕ). get_or t 32 0) (sym (get_or-take first (rows 129 n xs) k [] b ∙ get_d_rows 129 n k [] xs (omega arith)))
        ∙ q))

    front : rows 129 first (take (first * 129) xs) ≡ filter (differs 32 0) (take first (rows 129 n xs))
    front = rows_take 129 first xs ∙ sym (take-rows 129 first n xs h) ∙ sym differ
