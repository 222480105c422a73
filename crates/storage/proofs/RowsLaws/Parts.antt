-- The laws of `part` and `put`.
-- Assumes nothing.
use Rattle.std.proofs.Common.{◌≡◌, refl, sym, ap, ◌∙◌, List, [], ◌∷◌, ◌++◌, append_assoc, append-nil, ℕ, zero, suc, ◌+◌, ◌-◌, ◌≤◌, ◌<◌, zero-add, add-sub_of_le, suc-add, add-one, arith, length, take, drop, get_or, set, length-append, length-take, length-drop, take-append-drop, drop_of_length-le, take_at, drop_at, drop-drop, take-take, take-add, drop-cons, length-take-le, get_or-take, get_or-drop}
use lib.Seq.{take-append-le, drop-append-le, drop-append-add, take-append-add, set_split, take-nil}
use Rattle.storage.specs.Rows.Part.{part, put}

module _ {A : Type 0} where
  pub length_part : (a k : ℕ) (xs : List A) → a + k ≤ length xs → length (part a k xs) ≡ k
  unfolding part
  length_part a k xs h = simp (length-take, length-drop) (omega arith)

  pub length-put : (a : ℕ) (ys xs : List A) → a + length ys ≤ length xs → length (put a ys xs) ≡ length xs
  unfolding put
  length-put a ys xs h = simp (length-append, length-take, length-drop) (omega arith)

  -- a put over p ++ (m ++ q), where m stands there
  pub put-at : (a : ℕ) (p m q ys : List A) → length p ≡ a → length m ≡ length ys → put a ys (p ++ (m ++ q)) ≡ p ++ (ys ++ q)
  unfolding put
  put-at a p m q ys hp hm = rw (take_at p (m ++ q) a hp, drop_at p (m ++ q) a hp, drop_at m q (length ys) hm)

  -- the part that was put
  pub part-put : (a k : ℕ) (ys xs : List A) → length ys ≡ k → a + k ≤ length xs → part a k (put a ys xs) ≡ ys
  unfolding part put
  part-put a k ys xs e h =
      let l : length (take a xs) ≡ a = length-take-le a xs (omega arith) in
      rw (drop_at (take a xs) (ys ++ drop (length ys) (drop a xs)) a l, take_at ys (drop (length ys) (drop a xs)) k e)

  -- a part of the first list of two
  pub part_left : (a k : ℕ) (p q : List A) → a + k ≤ length p → part a k (p ++ q) ≡ part a k p
  unfolding part
  part_left a k p q h =
      rw (drop-append-le a p q (omega arith), take-append-le k (drop a p) q (omega (arith, length-drop a p)))

  -- a part that ends where the put starts, or before
  pub part-before : (b k a : ℕ) (ys xs : List A) → b + k ≤ a → a ≤ length xs → part b k (put a ys xs) ≡ part b k xs
  unfolding put
  part-before b k a ys xs h l =
      let e : length (take a xs) ≡ a = length-take-le a xs l in
      part_left b k (take a xs) (ys ++ drop (length ys) (drop a xs)) (omega arith)
      ∙ sym (part_left b k (take a xs) (drop a xs) (omega arith))
      ∙ ap (part b k) (take-append-drop a xs)

  drop-put-end : (a : ℕ) (ys xs : List A) → a ≤ length xs → drop (a + length ys) (put a ys xs) ≡ drop (a + length ys) xs
  unfolding put
  drop-put-end a ys xs h =
      sym (drop-drop (length ys) a (take a xs ++ (ys ++ drop (length ys) (drop a xs))))
      ∙ ap (drop (length ys)) (drop_at (take a xs) (ys ++ drop (length ys) (drop a xs)) a (length-take-le a xs h))
      ∙ drop_at ys (drop (length ys) (drop a xs)) (length ys) refl
      ∙ drop-drop (length ys) a xs

  -- all that stands after the put
  pub drop-put : (b a : ℕ) (ys xs : List A) → a + length ys ≤ b → a ≤ length xs → drop b (put a ys xs) ≡ drop b xs
  drop-put b a ys xs h l =
      let e : a + length ys + (b - (a + length ys)) ≡ b = add-sub_of_le h in
      ap (λ (n : ℕ). drop n (put a ys xs)) (sym e)
      ∙ sym (drop-drop (b - (a + length ys)) (a + length ys) (put a ys xs))
      ∙ ap (drop (b - (a + length ys))) (drop-put-end a ys xs l)
      ∙ drop-drop (b - (a + length ys)) (a + length ys) xs
      ∙ ap (λ (n : ℕ). drop n xs) e

  pub part-after : (b k a : ℕ) (ys xs : List A) → a + length ys ≤ b → a ≤ length xs → part b k (put a ys xs) ≡ part b k xs
  unfolding part
  part-after b k a ys xs h l = ap (take k) (drop-put b a ys xs h l)

  -- all that stands before the put
  pub take_put : (b a : ℕ) (ys xs : List A) → b ≤ a → a ≤ length xs → take b (put a ys xs) ≡ take b xs
  unfolding part
  take_put b a ys xs h l = part-before 0 b a ys xs (omega arith) l

  -- a put at the end of another is one put
  pub put-put-next : (a b : ℕ) (ys zs xs : List A) → b ≡ a + length ys → b + length zs ≤ length xs → put b zs (put a ys xs) ≡ put a (ys ++ zs) xs
  unfolding put
  put-put-next a b ys zs xs e h =
      let r : List A = drop (length ys) (drop a xs) in
      let lr : length zs ≤ length r = simp length-drop (omega arith) in
      let shape : put a ys xs ≡ (take a xs ++ ys) ++ (take (length zs) r ++ drop (length zs) r) =
      rw (take-append-drop (length zs) r) (sym (append_assoc (take a xs) ys r)) in
      let rest : drop (length zs) r ≡ drop (length (ys ++ zs)) (drop a xs) =
      drop-drop (length zs) (length ys) (drop a xs) ∙ ap (λ (n : ℕ). drop n (drop a xs)) (sym (length-append ys zs)) in
      ap (put b zs) shape
      ∙ put-at b (take a xs ++ ys) (take (length zs) r) (drop (length zs) r) zs (simp (length-append, length-take) (omega arith)) (length-take-le (length zs) r lr)
      ∙ ap (λ (l : List A). (take a xs ++ ys) ++ (zs ++ l)) rest
      ∙ simp append_assoc

  -- the list as what stands before a part, the part, and what stands after it
  pub split-part : (a k : ℕ) (xs : List A) → xs ≡ take a xs ++ (part a k xs ++ drop k (drop a xs))
  unfolding part
  split-part a k xs = sym (ap (λ (l : List A). take a xs ++ l) (take-append-drop k (drop a xs)) ∙ take-append-drop a xs)

  -- a put behind a list
  pub put_right : (b c : ℕ) (p zs s : List A) → b ≡ length p + c → put b zs (p ++ s) ≡ p ++ put c zs s
  unfolding put
  put_right b c p zs s e =
      rw (e, take-append-add p s c, drop-append-add p s c, append_assoc p (take c s) (zs ++ drop (length zs) (drop c s)))

  -- a put past the first s elements
  pub put-drop : (s a : ℕ) (ys xs : List A) → s ≤ length xs → drop s (put (s + a) ys xs) ≡ put a ys (drop s xs)
  put-drop s a ys xs h =
      let e : length (take s xs) ≡ s = length-take-le s xs h in
      ap (λ (l : List A). drop s (put (s + a) ys l)) (sym (take-append-drop s xs))
      ∙ ap (drop s) (put_right (s + a) a (take s xs) ys (drop s xs) (omega arith))
      ∙ drop_at (take s xs) (put a ys (drop s xs)) s e

  -- two puts at places apart, in either order
  pub put-comm : (a b : ℕ) (ys zs xs : List A) → a + length ys ≤ b → b + length zs ≤ length xs → put a ys (put b zs xs) ≡ put b zs (put a ys xs)
  unfolding part put
  put-comm a b ys zs xs h l =
      let c : ℕ = b - (a + length ys) in
      let r : List A = drop (length ys) (drop a xs) in
      let m : List A = part a (length ys) xs in
      let la : length (take a xs) ≡ a = length-take-le a xs (omega arith) in
      let lm : length m ≡ length ys = length_part a (length ys) xs (omega arith) in
      let e : b ≡ length (take a xs ++ ys) + c = simp (length-append, length-take) (omega arith) in
      let e' : b ≡ length (take a xs ++ m) + c = omega (arith, length-append (take a xs) m) in
      ap (put a ys) (ap (put b zs) (split-part a (length ys) xs ∙ sym (append_assoc (take a xs) m r)) ∙ put_right b c (take a xs ++ m) zs r e' ∙ append_assoc (take a xs) m (put c zs r))
      ∙ put-at a (take a xs) m (put c zs r) ys la lm
      ∙ sym (append_assoc (take a xs) ys (put c zs r))
      ∙ sym (put_right b c (take a xs ++ ys) zs r e)
      ∙ ap (put b zs) (append_assoc (take a xs) ys r)

  -- a put just before another is one put
  pub put-put-prev : (a b : ℕ) (ys zs xs : List A) → b ≡ a + length ys → b + length zs ≤ length xs → put a ys (put b zs xs) ≡ put a (ys ++ zs) xs
  put-put-prev a b ys zs xs e h = put-comm a b ys zs xs (omega arith) h ∙ put-put-next a b ys zs xs e h

  -- a list is its part put over itself
  pub put-part : (a k : ℕ) (xs : List A) → a + k ≤ length xs → put a (part a k xs) xs ≡ xs
  unfolding part put
  put-part a k xs h =
      let e : length (take k (drop a xs)) ≡ k = length_part a k xs h in
      ap (λ (n : ℕ). take a xs ++ (take k (drop a xs) ++ drop n (drop a xs))) e
      ∙ ap (λ (l : List A). take a xs ++ l) (take-append-drop k (drop a xs))
      ∙ take-append-drop a xs

  -- a put over a put at the same place
  pub put-over : (a : ℕ) (ys zs xs : List A) → length ys ≡ length zs → a + length ys ≤ length xs → put a zs (put a ys xs) ≡ put a zs xs
  unfolding put
  put-over a ys zs xs e h =
      put-at a (take a xs) ys (drop (length ys) (drop a xs)) zs (length-take-le a xs (omega arith)) e
      ∙ ap (λ (n : ℕ). take a xs ++ (zs ++ drop n (drop a xs))) e

  -- a put over the whole
  pub put_all : (ys xs : List A) → length ys ≡ length xs → put 0 ys xs ≡ ys
  unfolding put
  put_all ys xs e = ap (λ (l : List A). ys ++ l) (drop_of_length-le xs {i = length ys} (omega arith)) ∙ append-nil ys

  drop-append : (m : ℕ) (d r : List A) → drop m (d ++ r) ≡ drop m d ++ drop (m - length d) r
  drop-append zero d r = let e : 0 - length d ≡ 0 = omega arith in ap (λ (k : ℕ). d ++ drop k r) (sym e)
  drop-append (suc m) [] r = let e : suc m - 0 ≡ suc m = omega arith in ap (λ (k : ℕ). drop k r) (sym e)
  drop-append (suc m) (x ∷ d) r =
      let e : suc m - suc (length d) ≡ m - length d = omega arith in
      drop-append m d r ∙ ap (λ (k : ℕ). drop m d ++ drop k r) (sym e)

  -- a put that starts within one that stands there
  pub put-within : (a i : ℕ) (ys xs zs : List A) → i ≤ length xs → a ≤ length zs → put (a + i) ys (put a xs zs) ≡ put a (put i ys xs) zs
  unfolding put
  put-within a i ys xs zs h l =
      let r : List A = drop (length xs) (drop a zs) in
      let d : List A = drop i xs in
      let la : length (take a zs) ≡ a = length-take-le a zs l in
      let li : length (take i xs) ≡ i = length-take-le i xs h in
      let ld : length d ≡ length xs - i = length-drop i xs in
      let n : length (take i xs ++ (ys ++ drop (length ys) d)) ≡ length xs + (length ys - length d) =
      omega (arith, length-append (take i xs) (ys ++ drop (length ys) d), length-append ys (drop (length ys) d), length-drop (length ys) d) in
      let rest : drop (length ys) (d ++ r) ≡ drop (length ys) d ++ drop (length (take i xs ++ (ys ++ drop (length ys) d))) (drop a zs) =
      drop-append (length ys) d r
      ∙ ap (λ (t : List A). drop (length ys) d ++ t) (drop-drop (length ys - length d) (length xs) (drop a zs) ∙ ap (λ (k : ℕ). drop k (drop a zs)) (sym n)) in
      put_right (a + i) i (take a zs) ys (xs ++ r) (omega arith)
      ∙ ap (λ (t : List A). take a zs ++ t)
      ((λ k. take-append-le i xs r h k ++ (ys ++ drop (length ys) (drop-append-le i xs r h k)))
      ∙ ap (λ (t : List A). take i xs ++ (ys ++ t)) rest
      ∙ simp append_assoc)

  -- what is lent from a to a + k is a part
  pub part-between : (a k : ℕ) (xs : List A) → take (a + k - a) (drop a xs) ≡ part a k xs
  unfolding part
  part-between a k xs = let e : a + k - a ≡ k = omega arith in ap (λ (n : ℕ). take n (drop a xs)) e

  -- a loan of the part from a to a + k, as it comes back
  pub loan-put : (a k : ℕ) (ys xs : List A) → length ys ≡ k → take a xs ++ (ys ++ drop k (drop a xs)) ≡ put a ys xs
  unfolding put
  loan-put a k ys xs e = ap (λ (n : ℕ). take a xs ++ (ys ++ drop n (drop a xs))) (sym e)

  pub drop-take : (o k : ℕ) (xs : List A) → drop o (take (o + k) xs) ≡ take k (drop o xs)
  drop-take zero k xs = ap (λ (n : ℕ). take n xs) (zero-add k)
  drop-take (suc o) k [] = rw (suc-add o k) (sym (take-nil k))
  drop-take (suc o) k (x ∷ xs) = rw (suc-add o k) (drop-take o k xs)

  -- a part of a part
  pub part-part : (o j a k : ℕ) (xs : List A) → o + j ≤ k → part o j (part a k xs) ≡ part (a + o) j xs
  unfolding part
  part-part o j a k xs h =
      let e : o + (k - o) ≡ k = omega arith in
      ap (λ (n : ℕ). take j (drop o (take n (drop a xs)))) (sym e)
      ∙ ap (take j) (drop-take o (k - o) (drop a xs))
      ∙ take-take j (k - o) (drop o (drop a xs)) (omega arith)
      ∙ ap (take j) (drop-drop o a xs)

  -- a part of what was put
  pub part-put-in : (a o j : ℕ) (ys xs : List A) → o + j ≤ length ys → a + length ys ≤ length xs → part (a + o) j (put a ys xs) ≡ part o j ys
  part-put-in a o j ys xs h l =
      sym (part-part o j a (length ys) (put a ys xs) h) ∙ ap (part o j) (part-put a (length ys) ys xs refl l)

  -- a part without its first elements
  pub drop-part : (a j k : ℕ) (xs : List A) → j ≤ k → drop j (part a k xs) ≡ part (a + j) (k - j) xs
  unfolding part
  drop-part a j k xs h =
      let e : k ≡ j + (k - j) = omega arith in
      ap (λ (n : ℕ). drop j (take n (drop a xs))) e
      ∙ drop-take j (k - j) (drop a xs)
      ∙ ap (take (k - j)) (drop-drop j a xs)

  -- a part is its first j elements and the rest
  pub part-add : (a j k : ℕ) (xs : List A) → part a (j + k) xs ≡ part a j xs ++ part (a + j) k xs
  unfolding part
  part-add a j k xs = take-add j k (drop a xs) ∙ ap (λ (l : List A). take j (drop a xs) ++ take k l) (drop-drop j a xs)

  regroup : (p o y d q : List A) → (p ++ o) ++ (y ++ (d ++ q)) ≡ p ++ ((o ++ (y ++ d)) ++ q)
  regroup p o y d q = simp append_assoc

  -- a put inside a part: the part with the put inside it, put back
  pub put-inside : (a o k : ℕ) (ys xs : List A) → o + length ys ≤ k → a + k ≤ length xs → put (a + o) ys xs ≡ put a (put o ys (part a k xs)) xs
  unfolding put part
  put-inside a o k ys xs h l =
      let m : List A = part a k xs in
      let lm : length m ≡ k = length_part a k xs l in
      let q : List A = drop k (drop a xs) in
      let shape : xs ≡ (take a xs ++ take o m) ++ (part o (length ys) m ++ (drop (length ys) (drop o m) ++ q)) =
      split-part a k xs ∙ ap (λ (t : List A). take a xs ++ (t ++ q)) (split-part o (length ys) m) ∙ simp append_assoc in
      let lp : length (put o ys m) ≡ k = length-put o ys m (omega arith) ∙ lm in
      ap (put (a + o) ys) shape
      ∙ put-at (a + o) (take a xs ++ take o m) (part o (length ys) m) (drop (length ys) (drop o m) ++ q) ys
      (simp (length-append, length-take, length-drop) (omega arith)) (length_part o (length ys) m (omega arith))
      ∙ regroup (take a xs) (take o m) ys (drop (length ys) (drop o m)) q
      ∙ loan-put a k (put o ys m) xs lp

  -- the part that a put lies in
  pub part-inside : (a o k : ℕ) (ys xs : List A) → o + length ys ≤ k → a + k ≤ length xs → part a k (put (a + o) ys xs) ≡ put o ys (part a k xs)
  part-inside a o k ys xs h l =
      let lm : length (part a k xs) ≡ k = length_part a k xs l in
      rw (put-inside a o k ys xs h l) (part-put a k (put o ys (part a k xs)) xs (length-put o ys (part a k xs) (omega arith) ∙ lm) l)

  -- a store of one element is a put
  pub set-put : (a : ℕ) (v : A) (xs : List A) → a < length xs → set xs a v ≡ put a (v ∷ []) xs
  unfolding put
  set-put a v xs h = set_split xs a v h ∙ ap (λ (l : List A). take a xs ++ (v ∷ l)) (ap (λ (n : ℕ). drop n xs) (sym (add-one a)) ∙ sym (drop-drop 1 a xs))

  -- one more at the end, one more at the front
  pub put-snoc : (a i : ℕ) (ys : List A) (v : A) (xs : List A) → i ≡ a + length ys → i < length xs → set (put a ys xs) i v ≡ put a (ys ++ (v ∷ [])) xs
  put-snoc a i ys v xs e h =
      set-put i v (put a ys xs) (omega (arith, length-put a ys xs (omega arith))) ∙ put-put-next a i ys (v ∷ []) xs e (omega arith)

  pub put-cons : (a b : ℕ) (v : A) (ys xs : List A) → b ≡ a + 1 → b + length ys ≤ length xs → set (put b ys xs) a v ≡ put a (v ∷ ys) xs
  put-cons a b v ys xs e h =
      set-put a v (put b ys xs) (omega (arith, length-put b ys xs h)) ∙ put-put-prev a b (v ∷ []) ys xs e h

  -- a part with one more at the end, at the front
  pub part-snoc : (a k : ℕ) (d : A) (xs : List A) → a + k < length xs → part a (k + 1) xs ≡ part a k xs ++ (get_or xs (a + k) d ∷ [])
  unfolding part
  part-snoc a k d xs h =
      part-add a k 1 xs ∙ ap (λ (l : List A). take k (drop a xs) ++ take 1 l) (drop-cons xs (a + k) d h)

  pub part-cons : (a k : ℕ) (d : A) (xs : List A) → a < length xs → part a (k + 1) xs ≡ get_or xs a d ∷ part (a + 1) k xs
  unfolding part
  part-cons a k d xs h = rw (add-one k, add-one a, drop-cons xs a d h)

  pub get_d_part : (a k i : ℕ) (d : A) (xs : List A) → i < k → get_or (part a k xs) i d ≡ get_or xs (a + i) d
  unfolding part
  get_d_part a k i d xs h = get_or-take k (drop a xs) i d h ∙ get_or-drop a xs i d

  -- nothing put, nothing taken
  pub put-nil : (a : ℕ) (xs : List A) → put a [] xs ≡ xs
  unfolding put
  put-nil a xs = take-append-drop a xs

  pub part-zero : (a : ℕ) (xs : List A) → part a 0 xs ≡ []
  unfolding part
  part-zero a xs = refl

  -- an element that was put
  pub get_or-put-in : (a i : ℕ) (d : A) (ys xs : List A) → i < length ys → a + length ys ≤ length xs → get_or (put a ys xs) (a + i) d ≡ get_or ys i d
  get_or-put-in a i d ys xs h l =
      sym (get_d_part a (length ys) i d (put a ys xs) h) ∙ ap (λ (t : List A). get_or t i d) (part-put a (length ys) ys xs refl l)

  -- an element that the put does not reach
  pub get_or-put-before : (a i : ℕ) (d : A) (ys xs : List A) → i < a → a ≤ length xs → get_or (put a ys xs) i d ≡ get_or xs i d
  get_or-put-before a i d ys xs h l =
      let e : i + 0 ≡ i = omega arith in
      ap (λ (n : ℕ). get_or (put a ys xs) n d) (sym e)
      ∙ sym (get_d_part i 1 0 d (put a ys xs) (omega arith))
      ∙ ap (λ (t : List A). get_or t 0 d) (part-before i 1 a ys xs (omega arith) l)
      ∙ get_d_part i 1 0 d xs (omega arith)
      ∙ ap (λ (n : ℕ). get_or xs n d) e

  pub get_or-put-after : (a i : ℕ) (d : A) (ys xs : List A) → a + length ys ≤ i → a ≤ length xs → get_or (put a ys xs) i d ≡ get_or xs i d
  get_or-put-after a i d ys xs h l =
      let e : i + 0 ≡ i = omega arith in
      ap (λ (n : ℕ). get_or (put a ys xs) n d) (sym e)
      ∙ sym (get_d_part i 1 0 d (put a ys xs) (omega arith))
      ∙ ap (λ (t : List A). get_or t 0 d) (part-after i 1 a ys xs h l)
      ∙ get_d_part i 1 0 d xs (omega arith)
      ∙ ap (λ (n : ℕ). get_or xs n d) e

  -- a turn of a move up, which counts down, and of a move down
  pub move-up-step : (b₀ b : List A) (from to k i : ℕ) (d : A) → from ≤ to → to + k ≤ length b₀ → 0 < i → i ≤ k
      → b ≡ put (to + i) (part (from + i) (k - i) b₀) b₀
      → set b (to + (i - 1)) (get_or b (from + (i - 1)) d) ≡ put (to + (i - 1)) (part (from + (i - 1)) (k - (i - 1)) b₀) b₀
  move-up-step b₀ b from to k i d h l p q e =
      let m : length (part (from + i) (k - i) b₀) ≡ k - i = length_part (from + i) (k - i) b₀ (omega arith) in
      let r : part (from + (i - 1)) (k - (i - 1)) b₀ ≡ get_or b₀ (from + (i - 1)) d ∷ part (from + i) (k - i) b₀ =
      ap (λ (n : ℕ). part (from + (i - 1)) n b₀) (omega arith) ∙ part-cons (from + (i - 1)) (k - i) d b₀ (omega arith)
      ∙ ap (λ (n : ℕ). get_or b₀ (from + (i - 1)) d ∷ part n (k - i) b₀) (omega arith) in
      rw (e, r) (ap (λ (v : A). set (put (to + i) (part (from + i) (k - i) b₀) b₀) (to + (i - 1)) v)
      (get_or-put-before (to + i) (from + (i - 1)) d (part (from + i) (k - i) b₀) b₀ (omega arith) (omega arith))
      ∙ put-cons (to + (i - 1)) (to + i) (get_or b₀ (from + (i - 1)) d) (part (from + i) (k - i) b₀) b₀ (omega arith) (omega arith))

  pub move-down-step : (b₀ b : List A) (from to i : ℕ) (d : A) → to ≤ from → from + i < length b₀
      → b ≡ put to (part from i b₀) b₀
      → set b (to + i) (get_or b (from + i) d) ≡ put to (part from (i + 1) b₀) b₀
  move-down-step b₀ b from to i d h l e =
      let m : length (part from i b₀) ≡ i = length_part from i b₀ (omega arith) in
      rw (e, part-snoc from i d b₀ l) (ap (λ (v : A). set (put to (part from i b₀) b₀) (to + i) v)
      (get_or-put-after to (from + i) d (part from i b₀) b₀ (omega arith) (omega arith))
      ∙ put-snoc to (to + i) (part from i b₀) (get_or b₀ (from + i) d) b₀ (omega arith) (omega arith))

  -- where a move up begins
  pub move_start : (b : List A) (from to k : ℕ) → b ≡ put (to + k) (part (from + k) (k - k) b) b
  unfolding part
  move_start b from to k =
      let e : k - k ≡ 0 = omega arith in
      rw e (sym (put-nil (to + k) b))
