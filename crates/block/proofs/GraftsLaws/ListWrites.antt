-- Lists of link numbers and rounds: one more in its order, and another round of one of them.
-- Assumes nothing.
use Rattle.block.proofs.Words.{◌≡◌, refl, sym, ap, ◌∙◌, subst, List, [], ◌∷◌, ◌++◌, append_assoc, ℕ, zero, suc, ◌+◌, ◌-◌, ◌*◌, ◌≤◌, ◌<◌, arith, lt-ltb, ltb, length, take, drop, get_or, set, length-append, take_all, take-take, drop-drop, take-append-le, le_bytes, rows, length-le_bytes, length_part, length-put, part-part, part-after, drop-put, take_put, drop-take, get_d_part, get_or-put-before, set-put, put-cons, put-put-prev, put-drop, length-rows, rows-put-one, rows-opened, length-opened, put-gap, Below, below_of, of-below, all-gap}
use Rattle.std.proofs.Common.{length-drop, length-take-le, get_or-drop, get_or-take}
use Rattle.storage.specs.Rows.Part.{part, put}
use Rattle.storage.specs.Rows.Rows.{opened}
use Rattle.block.specs.View.{byte_at, hops_in}
use Rattle.storage.specs.Refs.Numbers.{pairs, numbered}
use Rattle.block.specs.Sound.{Numbered}
use Rattle.block.proofs.HopLaws.{three-nested, first-put}
use Rattle.block.specs.HopSteps.{inserted_hop, round_put}

-- numbers and rows, with one more of each in the same place, and with another row
module _ {A : Type 0} (f : ℕ → List ℕ → A) where
  pairs-gap : (j l : ℕ) (r ls : List ℕ) (rs : List (List ℕ)) → length ls ≡ length rs
      → pairs f (take j ls ++ (l ∷ drop j ls)) (take j rs ++ (r ∷ drop j rs)) ≡ take j (pairs f ls rs) ++ (f l r ∷ drop j (pairs f ls rs))
  unfolding pairs
  pairs-gap zero l r ls rs e = refl
  pairs-gap (suc j) l r [] [] e = refl
  pairs-gap (suc j) l r [] (s ∷ rs) e = absurd (omega arith)
  pairs-gap (suc j) l r (m ∷ ls) [] e = absurd (omega arith)
  pairs-gap (suc j) l r (m ∷ ls) (s ∷ rs) e = ap (λ (t : List A). f m s ∷ t) (pairs-gap j l r ls rs (omega arith))

  pairs-put : (j : ℕ) (r ls : List ℕ) (rs : List (List ℕ)) → j < length ls → length ls ≡ length rs → pairs f ls (put j (r ∷ []) rs) ≡ put j (f (get_or ls j 0) r ∷ []) (pairs f ls rs)
  unfolding pairs put
  pairs-put j r [] rs h e = absurd (omega arith)
  pairs-put j r (m ∷ ls) [] h e = absurd (omega arith)
  pairs-put zero r (m ∷ ls) (s ∷ rs) h e = refl
  pairs-put (suc j) r (m ∷ ls) (s ∷ rs) h e = ap (λ (t : List A). f m s ∷ t) (pairs-put j r ls rs (omega arith) (omega arith))

below-gap : (m j l : ℕ) (ps : List ℕ) → Below m ps → l < m → Below m (take j ps ++ (l ∷ drop j ps))
below-gap m j l ps b h = below_of m (take j ps ++ (l ∷ drop j ps)) (all-gap (λ p. ltb p m) j l ps (lt-ltb l m h) (of-below m ps b))

-- the first k numbers and one more among them
take-opened : (k j l : ℕ) (c : List ℕ) → j ≤ k → k < length c → take (k + 1) (put j (l ∷ take (k - j) (drop j c)) c) ≡ take j (take k c) ++ (l ∷ drop j (take k c))
unfolding put
take-opened k j l c h g =
    let e : j + (k - j) ≡ k = omega arith in
    let ys : List ℕ = l ∷ take (k - j) (drop j c) in
    let ly : length (take (k - j) (drop j c)) ≡ k - j = length-take-le (k - j) (drop j c) (omega (arith, length-drop j c)) in
    let lj : length (take j c) ≡ j = length-take-le j c (omega arith) in
    let la : length (take j c ++ ys) ≡ k + 1 = length-append (take j c) ys ∙ (omega arith) in
    let rest : List ℕ = drop (length ys) (drop j c) in
    ap (take (k + 1)) (sym (append_assoc (take j c) ys rest))
    ∙ take-append-le (k + 1) (take j c ++ ys) rest (omega arith)
    ∙ take_all (k + 1) (take j c ++ ys) (omega arith)
    ∙ sym (λ i. take-take j k c h i ++ (l ∷ (ap (λ (n : ℕ). drop j (take n c)) (sym e) ∙ drop-take j (k - j) c) i))

module _ (list : List ℕ) (long : length list ≡ 97) where
  abbrev k : ℕ
  k = byte_at 0 list

  abbrev c : List ℕ
  c = drop 1 list

  abbrev b : List ℕ
  b = drop 33 list

  c-long : length c ≡ 96
  c-long = length-drop 1 list ∙ (omega arith)

  b-long : length b ≡ 64
  b-long = length-drop 33 list ∙ (omega arith)

  -- one more, before number j
  module _ (j l r : ℕ) (hj : j ≤ k) (q : k < 32) where
    abbrev ys : List ℕ
    ys = l ∷ part (1 + j) (k - j) list

    abbrev zs : List ℕ
    zs = le_bytes 2 r ++ part (33 + 2 * j) (2 * (k - j)) list

    abbrev n1 : List ℕ
    n1 = put (1 + j) ys list

    abbrev n2 : List ℕ
    n2 = put (33 + 2 * j) zs n1

    lr : length (le_bytes 2 r) ≡ 2
    lr = length-le_bytes 2 r

    ys-long : length (part (1 + j) (k - j) list) ≡ k - j
    ys-long = length_part (1 + j) (k - j) list (omega arith)

    zs-long : length zs ≡ 2 + 2 * (k - j)
    zs-long = length-append (le_bytes 2 r) (part (33 + 2 * j) (2 * (k - j)) list) ∙ (omega (arith, lr, length_part (33 + 2 * j) (2 * (k - j)) list (omega arith)))

    n1-long : length n1 ≡ 97
    n1-long = length-put (1 + j) ys list (omega (arith, ys-long)) ∙ long

    n2-long : length n2 ≡ 97
    n2-long = length-put (33 + 2 * j) zs n1 (omega (arith, zs-long, n1-long)) ∙ n1-long

    pub inserted-long : length (inserted_hop j l r list) ≡ 97
    unfolding inserted_hop
    inserted-long = length-put 0 ((k + 1) ∷ []) n2 (omega (arith, n2-long)) ∙ n2-long

    inserted-count : byte_at 0 (inserted_hop j l r list) ≡ k + 1
    unfolding inserted_hop
    inserted-count = first-put (k + 1) n2

    numbers-part : part (1 + j) (k - j) list ≡ take (k - j) (drop j c)
    unfolding part
    numbers-part = ap (take (k - j)) (sym (drop-drop j 1 list))

    inserted-numbers : take (k + 1) (drop 1 (inserted_hop j l r list)) ≡ take j (take k c) ++ (l ∷ drop j (take k c))
    unfolding inserted_hop
    inserted-numbers =
        let e : 33 + 2 * j ≡ 1 + (32 + 2 * j) = omega arith in
        ap (take (k + 1)) (drop-put 1 0 ((k + 1) ∷ []) n2 (omega arith) (omega arith)
        ∙ ap (λ (o : ℕ). drop 1 (put o zs n1)) e
        ∙ put-drop 1 (32 + 2 * j) zs n1 (omega (arith, n1-long)))
        ∙ take_put (k + 1) (32 + 2 * j) zs (drop 1 n1) (omega arith) (omega (arith, length-drop 1 n1, n1-long))
        ∙ ap (take (k + 1)) (put-drop 1 j ys list (omega arith) ∙ ap (λ (t : List ℕ). put j (l ∷ t) c) numbers-part)
        ∙ take-opened k j l c hj (omega (arith, c-long))

    rounds-part : part (33 + 2 * j) (2 * (k - j)) list ≡ part (j * 2) ((k - j) * 2) b
    unfolding part
    rounds-part =
        let e : 33 + 2 * j ≡ 33 + j * 2 = omega arith in
        let d : 2 * (k - j) ≡ (k - j) * 2 = omega arith in
        (λ i. take (d i) (drop (e i) list)) ∙ ap (take ((k - j) * 2)) (sym (drop-drop (j * 2) 33 list))

    inserted-rounds : rows 2 (k + 1) (drop 33 (inserted_hop j l r list)) ≡ take j (rows 2 k b) ++ (le_bytes 2 r ∷ drop j (rows 2 k b))
    unfolding inserted_hop opened
    inserted-rounds =
        let e : 33 + 2 * j ≡ 33 + j * 2 = omega arith in
        let qs : List ℕ = part (j * 2) ((k - j) * 2) b in
        let lq : length qs ≡ (k - j) * 2 = length_part (j * 2) ((k - j) * 2) b (omega (arith, b-long)) in
        ap (rows 2 (k + 1)) (drop-put 33 0 ((k + 1) ∷ []) n2 (omega arith) (omega arith)
        ∙ ap (λ (o : ℕ). drop 33 (put o zs n1)) e
        ∙ put-drop 33 (j * 2) zs n1 (omega (arith, n1-long))
        ∙ ap (put (j * 2) zs) (drop-put 33 (1 + j) ys list (omega (arith, ys-long)) (omega arith))
        ∙ ap (λ (t : List ℕ). put (j * 2) (le_bytes 2 r ++ t) b) rounds-part
        ∙ sym (put-put-prev (j * 2) (j * 2 + 2) (le_bytes 2 r) qs b (omega (arith, lr)) (omega (arith, lq, b-long))))
        ∙ rows-put-one 2 j (k + 1) (le_bytes 2 r) (opened 2 k j b) lr (omega arith) (omega (arith, length-opened 2 k j b hj (omega (arith, b-long)), b-long))
        ∙ ap (put j (le_bytes 2 r ∷ [])) (rows-opened 2 k j b hj (omega (arith, b-long)))
        ∙ put-gap j (part (j * 2) 2 b) (le_bytes 2 r) (take j (rows 2 k b)) (drop j (rows 2 k b)) (length-take-le j (rows 2 k b) (omega (arith, length-rows 2 k b)))

    same-long : length (take k c) ≡ length (rows 2 k b)
    same-long = length-take-le k c (omega (arith, c-long)) ∙ sym (length-rows 2 k b)

    pub hops-insert : {A : Type 0} (f : ℕ → List ℕ → A) → hops_in f (inserted_hop j l r list) ≡ take j (hops_in f list) ++ (f l (le_bytes 2 r) ∷ drop j (hops_in f list))
    unfolding hops_in numbered
    hops-insert f =
        ap (λ (n : ℕ). pairs f (take n (drop 1 (inserted_hop j l r list))) (rows 2 n (drop 33 (inserted_hop j l r list)))) inserted-count
        ∙ (λ i. pairs f (inserted-numbers i) (inserted-rounds i))
        ∙ pairs-gap f j l (le_bytes 2 r) (take k c) (rows 2 k b) same-long

    pub numbered-inserted : (m : ℕ) → Numbered m list → l < m → Numbered m (inserted_hop j l r list)
    numbered-inserted m n h = record {
      few = omega (arith, inserted-count);
      below = subst (Below m) (sym (ap (λ (i : ℕ). take i (drop 1 (inserted_hop j l r list))) inserted-count ∙ inserted-numbers)) (below-gap m j l (take k c) n.below h);
    }

  -- another round of number j
  module _ (j r : ℕ) (hj : j < k) (few : k ≤ 32) where
    abbrev w : List ℕ
    w = round_put j r list

    wr : length (le_bytes 2 r) ≡ 2
    wr = length-le_bytes 2 r

    pub round-long : length (round_put j r list) ≡ 97
    round-long = length-put (33 + 2 * j) (le_bytes 2 r) list (omega (arith, wr)) ∙ long

    round-count : byte_at 0 w ≡ k
    round-count = get_or-put-before (33 + 2 * j) 0 0 (le_bytes 2 r) list (omega arith) (omega arith)

    round-numbers : take k (drop 1 w) ≡ take k c
    round-numbers =
        let e : 33 + 2 * j ≡ 1 + (32 + 2 * j) = omega arith in
        ap (take k) (ap (λ (o : ℕ). drop 1 (put o (le_bytes 2 r) list)) e ∙ put-drop 1 (32 + 2 * j) (le_bytes 2 r) list (omega arith))
        ∙ take_put k (32 + 2 * j) (le_bytes 2 r) c (omega arith) (omega (arith, c-long))

    round-rows : rows 2 k (drop 33 w) ≡ put j (le_bytes 2 r ∷ []) (rows 2 k b)
    round-rows =
        let e : 33 + 2 * j ≡ 33 + j * 2 = omega arith in
        ap (rows 2 k) (ap (λ (o : ℕ). drop 33 (put o (le_bytes 2 r) list)) e ∙ put-drop 33 (j * 2) (le_bytes 2 r) list (omega arith))
        ∙ rows-put-one 2 j k (le_bytes 2 r) b wr hj (omega (arith, b-long))

    pub hops-round : {A : Type 0} (f : ℕ → List ℕ → A) → hops_in f (round_put j r list) ≡ put j (f (get_or list (1 + j) 0) (le_bytes 2 r) ∷ []) (hops_in f list)
    unfolding hops_in numbered
    hops-round f =
        ap (λ (n : ℕ). pairs f (take n (drop 1 w)) (rows 2 n (drop 33 w))) round-count
        ∙ (λ i. pairs f (round-numbers i) (round-rows i))
        ∙ pairs-put f j (le_bytes 2 r) (take k c) (rows 2 k b) (omega (arith, length-take-le k c (omega (arith, c-long)))) (length-take-le k c (omega (arith, c-long)) ∙ sym (length-rows 2 k b))
        ∙ ap (λ (n : ℕ). put j (f n (le_bytes 2 r) ∷ []) (pairs f (take k c) (rows 2 k b))) (get_or-take k c j 0 hj ∙ get_or-drop 1 list j 0)

    pub numbered-round : (m : ℕ) → Numbered m list → Numbered m (round_put j r list)
    numbered-round m n = record {
      few = omega (arith, round-count);
      below = subst (Below m) (sym (ap (λ (i : ℕ). take i (drop 1 w)) round-count ∙ round-numbers)) n.below;
    }

-- the moves and the stores of a number more
pub write-insert : (xs v1 v2 v3 : List ℕ) (at k j l r : ℕ) → k ≡ get_or xs at 0 → j ≤ k → k < 32 → at + 97 ≤ length xs
    → v1 ≡ put (at + 2 + j) (part (at + 1 + j) (k - j) xs) xs
    → v2 ≡ put (at + 35 + 2 * j) (part (at + 33 + 2 * j) (2 * (k - j)) (set v1 (at + 1 + j) l)) (set v1 (at + 1 + j) l)
    → v3 ≡ put (at + 33 + 2 * j) (le_bytes 2 r) v2
    → set v3 at (k + 1) ≡ put at (inserted_hop j l r (part at 97 xs)) xs
unfolding inserted_hop
write-insert xs v1 v2 v3 at k j l r e h g long p1 p2 p3 =
    let y1 : List ℕ = part (at + 1 + j) (k - j) xs in
    let ly : length y1 ≡ k - j = length_part (at + 1 + j) (k - j) xs (omega arith) in
    let q1 : List ℕ = part (at + 33 + 2 * j) (2 * (k - j)) xs in
    let lq : length q1 ≡ 2 * (k - j) = length_part (at + 33 + 2 * j) (2 * (k - j)) xs (omega arith) in
    let lr : length (le_bytes 2 r) ≡ 2 = length-le_bytes 2 r in
    let u : List ℕ = put (at + 1 + j) (l ∷ y1) xs in
    let lu : length u ≡ length xs = length-put (at + 1 + j) (l ∷ y1) xs (omega arith) in
    let e1 : set v1 (at + 1 + j) l ≡ u = ap (λ (z : List ℕ). set z (at + 1 + j) l) p1 ∙ put-cons (at + 1 + j) (at + 2 + j) l y1 xs (omega arith) (omega arith) in
    let s1 : part (at + 33 + 2 * j) (2 * (k - j)) (set v1 (at + 1 + j) l) ≡ q1 = ap (part (at + 33 + 2 * j) (2 * (k - j))) e1 ∙ part-after (at + 33 + 2 * j) (2 * (k - j)) (at + 1 + j) (l ∷ y1) xs (omega arith) (omega arith) in
    let e2 : v2 ≡ put (at + 35 + 2 * j) q1 u = p2 ∙ (λ i. put (at + 35 + 2 * j) (s1 i) (e1 i)) in
    let zs : List ℕ = le_bytes 2 r ++ q1 in
    let lz : length zs ≡ 2 + 2 * (k - j) = length-append (le_bytes 2 r) q1 ∙ (omega arith) in
    let e3 : v3 ≡ put (at + 33 + 2 * j) zs u = p3 ∙ ap (put (at + 33 + 2 * j) (le_bytes 2 r)) e2 ∙ put-put-prev (at + 33 + 2 * j) (at + 35 + 2 * j) (le_bytes 2 r) q1 u (omega arith) (omega arith) in
    let l3 : length v3 ≡ length xs = ap length e3 ∙ length-put (at + 33 + 2 * j) zs u (omega arith) ∙ lu in
    let a0 : at ≡ at + 0 = omega arith in
    let a1 : at + 1 + j ≡ at + (1 + j) = omega arith in
    let a2 : at + 33 + 2 * j ≡ at + (33 + 2 * j) = omega arith in
    let list : List ℕ = part at 97 xs in
    let k0 : byte_at 0 list ≡ k = get_d_part at 97 0 0 xs (omega arith) ∙ ap (λ (a : ℕ). get_or xs a 0) (sym a0) ∙ sym e in
    let yy : part (1 + j) (byte_at 0 list - j) list ≡ y1 = ap (λ (n : ℕ). part (1 + j) (n - j) list) k0 ∙ part-part (1 + j) (k - j) at 97 xs (omega arith) ∙ ap (λ (a : ℕ). part a (k - j) xs) (sym a1) in
    let qq : part (33 + 2 * j) (2 * (byte_at 0 list - j)) list ≡ q1 = ap (λ (n : ℕ). part (33 + 2 * j) (2 * (n - j)) list) k0 ∙ part-part (33 + 2 * j) (2 * (k - j)) at 97 xs (omega arith) ∙ ap (λ (a : ℕ). part a (2 * (k - j)) xs) (sym a2) in
    set-put at (k + 1) v3 (omega arith)
    ∙ ap (put at ((k + 1) ∷ [])) e3
    ∙ (λ i. put (a0 i) ((k + 1) ∷ []) (put (a2 i) zs (put (a1 i) (l ∷ y1) xs)))
    ∙ three-nested at 97 (1 + j) (33 + 2 * j) 0 (l ∷ y1) zs ((k + 1) ∷ []) xs (omega arith) (omega arith) (omega arith) long
    ∙ sym (λ i. put at (put 0 ((k0 i + 1) ∷ []) (put (33 + 2 * j) (le_bytes 2 r ++ qq i) (put (1 + j) (l ∷ yy i) list))) xs)
