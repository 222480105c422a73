-- Bytes put behind bytes.
-- Assumes nothing.
use Rattle.std.proofs.Common.{◌≡◌, ℕ, zero, suc, ◌+◌, ◌-◌, ◌/◌, ◌%◌, ◌^◌, ◌<◌, ◌≤◌, min, List, [], ◌∷◌, ◌++◌, length, take, drop, slice_set, refl, sym, ap, ◌∙◌, append_assoc, append-nil, length-append, length-drop, take_all, drop_of_length-le, inl, inr, arith, length-take, drop-drop, pow-suc}
use Rattle.std.proofs.lemmas.Bool.{cases_lt}
use Rattle.std.specs.Borrow.{GName}
use borrow.Rule.Slice.PartMut.{put_mid}
use Rattle.std.proofs.lemmas.Slice.{take-put_mid, drop-put_mid}
use Rattle.storage.specs.Rows.Part.{put}
use lib.Seq.{take-nil}
use Rattle.postcard.specs.Number.{groups, number_bytes}
use Rattle.postcard.proofs.Writes.{last-group, next-group}
use Rattle.std.proofs.lemmas.List.{take_more_set, drop-set-lt, take-append-drop}
use Rattle.wire.specs.Encode.Intake.{Intake, counted, written, after}

take_both : (n : ℕ) (xs ys : List ℕ) → take n xs ++ take (n - length xs) ys ≡ take n (xs ++ ys)
take_both zero [] ys = refl
take_both zero (x ∷ xs) ys = let e : 0 - suc (length xs) ≡ 0 = omega arith in rw e refl
take_both (suc n) [] ys = let e : suc n - 0 ≡ suc n = omega arith in rw e refl
take_both (suc n) (x ∷ xs) ys =
    let e : suc n - suc (length xs) ≡ n - length xs = omega arith in
    rw e (ap (λ (l : List ℕ). x ∷ l) (take_both n xs ys))

-- two pieces are one
pub after_append : (xs ys : List ℕ) (h : Intake) → after ys (after xs h) ≡ after (xs ++ ys) h
unfolding after
after_append xs ys (counted left) = ap counted (omega (arith, length-append xs ys))
after_append xs ys (written come left name) =
    (λ i. written (one i) (two i) name)
  where
    one : (come ++ take (length left) xs) ++ take (length (drop (length xs) left)) ys ≡ come ++ take (length left) (xs ++ ys)
    one = append_assoc come (take (length left) xs) (take (length (drop (length xs) left)) ys)
        ∙ ap (λ (k : ℕ). come ++ (take (length left) xs ++ take k ys)) (length-drop (length xs) left)
        ∙ ap (λ (l : List ℕ). come ++ l) (take_both (length left) xs ys)

    two : drop (length ys) (drop (length xs) left) ≡ drop (length (xs ++ ys)) left
    two = drop-drop (length ys) (length xs) left ∙ ap (λ (k : ℕ). drop k left) (sym (length-append xs ys))

pub after_nil : (h : Intake) → after [] h ≡ h
unfolding after
after_nil (counted left) = ap counted (omega arith)
after_nil (written come left name) = ap (λ (l : List ℕ). written (come ++ l) left name) (take-nil (length left)) ∙ ap (λ (l : List ℕ). written l left name) (append-nil come)

-- a number under way: the groups of w are left
pub record Left (v w : ℕ) (before now : Intake) : Type 0 where
  pub more : ℕ
  pub same : after (groups more w) now ≡ after (number_bytes v) before
  pub small : w < 128 ^ suc more

pub left_start : (v : ℕ) (h : Intake) → v < 2 ^ 64 → Left v v h h
unfolding number_bytes
left_start v h s = record { more = 9; same = refl; small = omega arith }

module _ {v w : ℕ} {before now : Intake} (l : Left v w before now) where
  pub left-more : (next : Intake) → 128 ≤ w → next ≡ after ((w % 128 + 128) ∷ []) now → Left v (w / 128) before next
  left-more next h e = step l.more l.same l.small
    where
      step : (more : ℕ) → after (groups more w) now ≡ after (number_bytes v) before → w < 128 ^ suc more → Left v (w / 128) before next
      step zero a s = absurd (omega arith)
      step (suc more) a s =
          rw e (record {
            more = more;
            same = after_append ((w % 128 + 128) ∷ []) (groups more (w / 128)) now ∙ ap (λ (x : List ℕ). after x now) (sym (next-group more w h)) ∙ a;
            small = omega (arith, pow-suc 128 (suc more));
          })

  pub left-last : (next : Intake) → w < 128 → next ≡ after (w ∷ []) now → next ≡ after (number_bytes v) before
  left-last next h e = e ∙ ap (λ (x : List ℕ). after x now) (sym (last-group l.more w h)) ∙ l.same

-- a byte set at the place is put there
pub set_after : (at b : ℕ) (out : List ℕ) (name : GName) → at < length out
    → written (take (at + 1) (slice_set out at b)) (drop (at + 1) (slice_set out at b)) name ≡ after (b ∷ []) (written (take at out) (drop at out) name)
unfolding after
set_after at b out name h =
    let one : take (length (drop at out)) (b ∷ []) ≡ b ∷ [] = take_all (length (drop at out)) (b ∷ []) (omega (arith, length-drop at out)) in
    rw (one, take_more_set out at b h, drop-set-lt (at + 1) out at b (omega arith), drop-drop 1 at out) refl

-- where no byte fits, none is put
pub full_after : (at b : ℕ) (out : List ℕ) (name : GName) → length out ≤ at → written (take at out) (drop at out) name ≡ after (b ∷ []) (written (take at out) (drop at out) name)
unfolding after
full_after at b out name h = rw (drop_of_length-le out h) (ap (λ (l : List ℕ). written l [] name) (sym (append-nil (take at out))))

-- and so are bytes copied there, as many as fit
pub copy_after : (at n : ℕ) (bs out : List ℕ) (name : GName) → at ≤ length out → n ≡ min (length bs) (length out - at)
    → written (take (at + n) (put_mid at n out (take n bs))) (drop (at + n) (put_mid at n out (take n bs))) name ≡ after bs (written (take at out) (drop at out) name)
unfolding after
copy_after at n bs out name h e = (λ i. written (one i) (two i) name)
  where
    long : length (take n bs) ≡ n
    long = simp length-take (omega (arith, e))

    room : length (drop at out) ≡ length out - at
    room = length-drop at out

    cut : take n bs ≡ take (length (drop at out)) bs
    cut = elim (cases_lt (length (drop at out)) (length bs)) [
      | inr all ↦ take_all n bs (omega (arith, e, room, all)) ∙ sym (take_all (length (drop at out)) bs all)
      | inl some ↦ let m : n ≡ length (drop at out) = omega (arith, e, room, some) in ap (λ (k : ℕ). take k bs) m
    ]

    one : take (at + n) (put_mid at n out (take n bs)) ≡ take at out ++ take (length (drop at out)) bs
    one = take-put_mid at n out (take n bs) (at + n) (omega (arith, long)) (omega (arith, long, h, e)) ∙ ap (λ (l : List ℕ). take at out ++ l) cut

    two : drop (at + n) (put_mid at n out (take n bs)) ≡ drop (length bs) (drop at out)
    two = drop-put_mid at n out (take n bs) (at + n) (omega (arith, long)) (omega (arith, h, e)) (omega (arith, long))
        ∙ sym (drop-drop n at out)
        ∙ elim (cases_lt (length (drop at out)) (length bs)) [
          | inr all ↦ let m : n ≡ length bs = omega (arith, e, room, all) in ap (λ (k : ℕ). drop k (drop at out)) m
          | inl some ↦ drop_of_length-le (drop at out) (omega (arith, e, room, some)) ∙ sym (drop_of_length-le (drop at out) (omega (arith, some)))
        ]

pub counted_is : (n : ℕ) (bs : List ℕ) → n < 2 ^ 64 → length bs < 2 ^ 64 → counted (2 ^ 64 - 1 - n) ≡ after bs (counted (2 ^ 64 - 1)) → n ≡ length bs
unfolding after
counted_is n bs u h e = omega (arith, k, u, h)
  where
    k : 2 ^ 64 - 1 - n ≡ 2 ^ 64 - 1 - length bs
    k = cc

-- what the output holds once the writer is done with it
module _ (at at' : ℕ) (bs before now : List ℕ) (name name' : GName) (fits : at + length bs ≤ length before)
    (e : written (take at' now) (drop at' now) name' ≡ after bs (written (take at before) (drop at before) name)) where
  whole : take (length (drop at before)) bs ≡ bs
  whole = take_all (length (drop at before)) bs (omega (arith, length-drop at before, fits))

  came : take at' now ≡ take at before ++ bs
  unfolding after
  came = (cc) ∙ ap (λ (l : List ℕ). take at before ++ l) whole

  left : drop at' now ≡ drop (length bs) (drop at before)
  unfolding after
  left = cc

  pub put_is : now ≡ put at bs before
  unfolding put
  put_is = sym (take-append-drop at' now) ∙ (λ k. came k ++ left k) ∙ append_assoc (take at before) bs (drop (length bs) (drop at before))

  pub put_place : at' ≤ length now → at' ≡ at + length bs
  put_place h =
      let a : length (take at' now) ≡ at' = simp length-take (omega arith) in
      let b : length (take at before) ≡ at = simp length-take (omega (arith, fits)) in
      omega (arith, a, b, ap length came, length-append (take at before) bs)

  pub put_name : name ≡ name'
  unfolding after
  put_name = sym k
    where
      k : name' ≡ name
      k = cc
