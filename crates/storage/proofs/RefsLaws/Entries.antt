-- Numbers at the start of a slice and rows at o of it: one of them, one anew, and the first of them.
-- Assumes nothing.
use Rattle.std.proofs.Common.{◌≡◌, refl, sym, ap, ◌∙◌, subst, not, List, [], ◌∷◌, ℕ, zero, suc, ◌+◌, ◌-◌, ◌*◌, ◌≤◌, ◌<◌, arith, eq-eqb, ne_eqb, length, take, drop, get_or, set, length-drop, take-take, drop-drop, length-take-le}
use Rattle.storage.specs.Rows.Part.{part, put}
use Rattle.storage.specs.Rows.Rows.{rows}
use Rattle.storage.proofs.RowsLaws.Parts.{part-inside, take_put, drop-put, length-put, length_part, set-put, put-drop}
use Rattle.storage.proofs.RowsLaws.Rows.{length-rows, take-rows, rows-put-one, row-end}
use Rattle.storage.specs.Refs.Refs.{Ref, ref}
use Rattle.storage.proofs.RowsLaws.Kept.{Going, going-read, going-keep, going_drop}
use Rattle.storage.specs.Refs.Numbers.{pairs, numbered, lowered, stays, lower, entries}
use Rattle.storage.proofs.RefsLaws.Numbered.{length-numbered, numbered-at}
use Rattle.storage.proofs.RefsLaws.Lowered.{pairs-put}

pairs-take : (r : ℕ) (ls : List ℕ) (rs : List (List ℕ)) → take r (pairs ref ls rs) ≡ pairs ref (take r ls) (take r rs)
unfolding pairs
pairs-take zero ls rs = refl
pairs-take (suc r) [] rs = refl
pairs-take (suc r) (l ∷ ls) [] = refl
pairs-take (suc r) (l ∷ ls) (x ∷ rs) = ap (λ (t : List Ref). ref l x ∷ t) (pairs-take r ls rs)

take-put-in : (n j x : ℕ) (c : List ℕ) → j < n → n ≤ length c → take n (put j (x ∷ []) c) ≡ put j (x ∷ []) (take n c)
unfolding part
take-put-in n j x c h g =
    let z : 0 + j ≡ j = omega arith in
    ap (λ (a : ℕ). take n (put a (x ∷ []) c)) (sym z) ∙ part-inside 0 j n (x ∷ []) c (omega arith) (omega arith)

module _ (o s n : ℕ) (b : List ℕ) (ho : n ≤ o) (room : o + n * s ≤ length b) where
  pub entries-long : length (entries o s n b) ≡ n
  entries-long = length-numbered ref s n b (drop o b) (omega arith)

  pub entry_at : (j : ℕ) (d : Ref) → j < n → get_or (entries o s n b) j d ≡ ref (get_or b j 0) (part (o + j * s) s b)
  unfolding part
  entry_at j d h = numbered-at ref s n b (drop o b) j d h (omega arith) ∙ ap (λ (t : List ℕ). ref (get_or b j 0) (take s t)) (drop-drop (j * s) o b)

  pub entry-put : (j x : ℕ) (row : List ℕ) → j < n → length row ≡ s → entries o s n (put j (x ∷ []) (put (o + j * s) row b)) ≡ put j (ref x row ∷ []) (entries o s n b)
  unfolding numbered
  entry-put j x row h e =
      let w : j * s + s ≤ n * s = row-end s n j h in
      let c : List ℕ = put (o + j * s) row b in
      let lc : length c ≡ length b = length-put (o + j * s) row b (omega arith) in
      let ld : length (drop o b) ≡ length b - o = length-drop o b in
      let p : take n (put j (x ∷ []) c) ≡ put j (x ∷ []) (take n b) = take-put-in n j x c h (omega arith) ∙ ap (put j (x ∷ [])) (take_put n (o + j * s) row b (omega arith) (omega arith)) in
      let q : drop o (put j (x ∷ []) c) ≡ put (j * s) row (drop o b) = drop-put o j (x ∷ []) c (omega arith) (omega arith) ∙ put-drop o (j * s) row b (omega arith) in
      (λ k. pairs ref (p k) (rows s n (q k)))
      ∙ ap (pairs ref (put j (x ∷ []) (take n b))) (rows-put-one s j n row (drop o b) e h (omega arith))
      ∙ pairs-put x row j (take n b) (rows s n (drop o b)) (omega (arith, length-take-le n b (omega arith))) (omega (arith, length-rows s n (drop o b)))

  pub entries-first : (r : ℕ) → r ≤ n → entries o s r b ≡ take r (entries o s n b)
  unfolding numbered
  entries-first r h = sym (pairs-take r (take n b) (rows s n (drop o b)) ∙ (λ k. pairs ref (take-take r n b h k) (take-rows s r n (drop o b) h k)))

-- a turn of the loop that keeps the entries whose number is not i
module _ (o s n i : ℕ) (xs b : List ℕ) (ho : n ≤ o) (room : o + n * s ≤ length b) (long : length b ≡ length xs) (k j : ℕ) (h : j < n)
    (g : Going (stays i) (lower i) (ref 0 []) (entries o s n xs) (entries o s n b) k j) where
  abbrev row : List ℕ
  row = part (o + j * s) s b

  abbrev l : ℕ
  l = get_or b j 0

  was : get_or (entries o s n xs) j (ref 0 []) ≡ ref l row
  was = sym (going-read (stays i) (lower i) (ref 0 []) (entries o s n xs) (entries o s n b) k j g) ∙ entry_at o s n b ho room j (ref 0 []) h

  inside : j < length (entries o s n xs)
  inside = omega (arith, entries-long o s n xs ho (omega arith))

  pub turn-drop : l ≡ i → Going (stays i) (lower i) (ref 0 []) (entries o s n xs) (entries o s n b) k (j + 1)
  turn-drop e =
      going_drop (stays i) (lower i) (ref 0 []) (entries o s n xs) (entries o s n b) k j g inside
      (ap (stays i) was ∙ ap not (eq-eqb l i e))

  pub turn-keep : (l ≡ i → ⊥) → (m : ℕ) → m ≡ lowered i l
      → Going (stays i) (lower i) (ref 0 []) (entries o s n xs) (entries o s n (set (put (o + k * s) row b) k m)) (k + 1) (j + 1)
  turn-keep e m w =
      let lr : length row ≡ s = length_part (o + j * s) s b (omega (arith, row-end s n j h)) in
      let q : k < n = omega (arith, g.behind) in
      let lc : length (put (o + k * s) row b) ≡ length b = length-put (o + k * s) row b (omega (arith, row-end s n k q)) in
      let p : entries o s n (set (put (o + k * s) row b) k m) ≡ put k (lower i (get_or (entries o s n xs) j (ref 0 [])) ∷ []) (entries o s n b) =
      ap (entries o s n) (set-put k m (put (o + k * s) row b) (omega arith))
      ∙ entry-put o s n b ho room k m row q lr
      ∙ ap (λ (x : ℕ). put k (ref x row ∷ []) (entries o s n b)) w
      ∙ ap (λ (r : Ref). put k (lower i r ∷ []) (entries o s n b)) (sym was) in
      subst (λ (es : List Ref). Going (stays i) (lower i) (ref 0 []) (entries o s n xs) es (k + 1) (j + 1)) (sym p)
      (going-keep (stays i) (lower i) (ref 0 []) (entries o s n xs) (entries o s n b) k j g inside (ap (stays i) was ∙ ap not (ne_eqb l i e)))
