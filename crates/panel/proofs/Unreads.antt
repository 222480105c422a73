-- Unread bytes in an array: those that are left after some were used, and those that a read left behind them.
use Rattle.std.proofs.Common.{ℕ, ◌≡◌, ◌≤◌, ◌<◌, ◌+◌, ◌-◌, arith, sym, ap, ◌∙◌, List, ◌++◌, length, take, drop, length-drop, length-take}
use Rattle.std.specs.List.{copy_within, slice_range}
use borrow.Rule.Slice.PartMut.{put_mid, mid_of, post_of, mid_len}
use Rattle.std.proofs.lemmas.List.{drop-drop, drop-take, take-append-le, take_at}
use Rattle.std.proofs.lemmas.Slice.{between_from_start}
use Rattle.std.proofs.Math.Seq.{take-append-add}

-- the length of a part that lies inside
pub length-part : (xs : List ℕ) (start end : ℕ) → start ≤ end → end ≤ length xs → length (slice_range xs start end) ≡ end - start
length-part xs start end s e = omega (arith, length-take (end - start) (drop start xs), length-drop start xs)

-- the first n bytes were used
pub part-used : (xs : List ℕ) (start end n : ℕ) → start + n ≤ end → slice_range xs (start + n) end ≡ drop n (slice_range xs start end)
part-used xs start end n h =
    let left : end - start ≡ n + (end - (start + n)) = omega arith in
    ap (λ (ys : List ℕ). take (end - (start + n)) ys) (sym (drop-drop n start xs)) ∙ sym (drop-take n (end - (start + n)) (drop start xs)) ∙ ap (λ (m : ℕ). drop n (take m (drop start xs))) (sym left)

-- the part is moved to the front
pub part-moved : (xs : List ℕ) (start end : ℕ) → start ≤ end → end ≤ length xs → take (end - start) (copy_within xs start end 0) ≡ slice_range xs start end
part-moved xs start end s e = take_at (slice_range xs start end) _ (end - start) (length-part xs start end s e)

-- n bytes were read behind the part at the front
pub part-read : (part moved came : List ℕ) (long k n : ℕ) → take long moved ≡ part → length part ≡ long → n ≤ length came → slice_range (put_mid long k moved came) 0 (long + n) ≡ part ++ take n came
part-read part moved came long k n front many h =
    let behind = came ++ post_of long k moved in
    between_from_start (put_mid long k moved came) (long + n)
    ∙ ap (λ (ys : List ℕ). take (long + n) (ys ++ behind)) front
    ∙ ap (λ (j : ℕ). take (j + n) (part ++ behind)) (sym many)
    ∙ take-append-add part behind n
    ∙ ap (λ (ys : List ℕ). part ++ ys) (take-append-le n came (post_of long k moved) h)

-- there is room behind the part at the front
pub some-room : (long room : ℕ) (moved came : List ℕ) → length came ≡ length (mid_of long (room - long) moved) → room ≤ length moved → long < room → 0 < length came
some-room long room moved came same full fits = omega (arith, same, mid_len long room moved full)
