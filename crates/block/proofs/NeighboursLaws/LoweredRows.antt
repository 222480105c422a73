-- Rows that end with a list of link numbers, after a link went: the list, the row, and one row after the other.
-- Assumes nothing.
use Rattle.block.proofs.Words.{◌≡◌, sym, ap, ◌∙◌, List, [], ◌∷◌, ◌++◌, map, ℕ, ◌+◌, ◌*◌, ◌≤◌, ◌<◌, arith, length, take, drop, get_or, set, drop-drop, filter, filter_map, put, rows, differs, length_part, take_put, get_d_part, drop-take, put-cons, loan-put, put-drop, put_all, row-end, ref, done-read, done_more, numbered, lower_all, entries}
use Rattle.std.proofs.Common.{length-drop, get_or-drop}
use Rattle.storage.specs.Rows.Part.{part}
use Rattle.storage.proofs.RefsLaws.Shifts.{done}
use Rattle.block.specs.View.{byte_at, hops_in}
use Rattle.block.proofs.Tables.{view-at, view-set, length-view}
use Rattle.storage.proofs.RefsLaws.Numbered.{length-numbered}
use Rattle.block.specs.Neighbours.Lowered.{Listed, listed_of, listed, lower_listed, has_announcers}

-- what stands for a row past the last
abbrev pub no_listed : Listed
no_listed = record { head = []; count = 0; hops = [] }

-- the list that a loan of all but its count, and then a count, leave
pub list-after : (r : ℕ) (list zs : List ℕ) → length list ≡ 97 → length zs ≡ 96 → set (take 1 list ++ (zs ++ drop 96 (drop 1 list))) 0 r ≡ r ∷ zs
list-after r list zs e l =
    ap (λ (t : List ℕ). set t 0 r) (loan-put 1 96 zs list l)
    ∙ put-cons 0 1 r zs list (omega arith) (omega arith)
    ∙ put_all (r ∷ zs) list (omega arith)

module _ (i n r : ℕ) (list zs : List ℕ) (e : length list ≡ 97) (c : n ≡ byte_at 0 list) (few : n ≤ 32) (le : r ≤ n) (l : length zs ≡ 96)
    (left : entries 32 2 r zs ≡ lower_all i (entries 32 2 n (drop 1 list))) where
  hops-were : entries 32 2 n (drop 1 list) ≡ hops_in ref list
  unfolding hops_in
  hops-were = λ k. numbered ref 2 (c k) (drop 1 list) (drop-drop 32 1 list k)

  hops-are : entries 32 2 r zs ≡ lower_all i (hops_in ref list)
  hops-are = left ∙ ap (lower_all i) hops-were

  pub list-lowered : listed_of 0 (r ∷ zs) ≡ lower_listed i (listed_of 0 list)
  unfolding listed_of hops_in
  list-lowered =
      let z : r ≡ length (lower_all i (hops_in ref list)) = sym (length-numbered ref 2 r zs (drop 32 zs) (omega arith)) ∙ ap length hops-are in
      λ k. record { head = []; count = z k; hops = hops-are k }

-- a row by its list
listed-list : (o : ℕ) (row : List ℕ) → listed_of o row ≡ record { head = take o row; count = (listed_of 0 (drop o row)).count; hops = (listed_of 0 (drop o row)).hops }
unfolding listed_of
listed-list o row =
    let z : o ≡ o + 0 = omega arith in
    λ k. record { head = take o row; count = (ap (λ (a : ℕ). get_or row a 0) z ∙ sym (get_or-drop o row 0 0)) k; hops = hops_in ref (drop o row) }

pub row-lowered : (i o : ℕ) (row list : List ℕ) → length row ≡ o + 97 → length list ≡ 97 → listed_of 0 list ≡ lower_listed i (listed_of 0 (drop o row))
    → listed_of o (put o list row) ≡ lower_listed i (listed_of o row)
row-lowered i o row list e l h =
    let z : o ≡ o + 0 = omega arith in
    let t : take o (put o list row) ≡ take o row = take_put o o list row (omega arith) (omega arith) in
    let d : drop o (put o list row) ≡ list =
    ap (λ (a : ℕ). drop o (put a list row)) z ∙ put-drop o 0 list row (omega arith) ∙ put_all list (drop o row) (omega (arith, length-drop o row)) in
    let g : listed_of 0 (drop o (put o list row)) ≡ lower_listed i (listed_of 0 (drop o row)) = ap (listed_of 0) d ∙ h in
    listed-list o (put o list row)
    ∙ (λ k. record { head = t k; count = (g k).count; hops = (g k).hops })
    ∙ ap (lower_listed i) (sym (listed-list o row))

-- the list of row k of a table
list-in : (o s k : ℕ) (ys : List ℕ) → o + 97 ≡ s → drop o (part (k * s) s ys) ≡ part (k * s + o) 97 ys
unfolding part
list-in o s k ys e =
    ap (λ (w : ℕ). drop o (take w (drop (k * s) ys))) (sym e) ∙ drop-take o 97 (drop (k * s) ys) ∙ ap (take 97) (drop-drop o (k * s) ys)

count-in : (o s k : ℕ) (ys : List ℕ) → o < s → (listed_of o (part (k * s) s ys)).count ≡ get_or ys (k * s + o) 0
unfolding listed_of
count-in o s k ys h = get_d_part (k * s) s o 0 ys h

pub length-listed : (o s n : ℕ) (xs : List ℕ) → length (listed o s n xs) ≡ n
unfolding listed
length-listed o s n xs = length-view (listed_of o) s n xs

pub listed_at : (o s n j : ℕ) (d : Listed) (xs : List ℕ) → j < n → get_or (listed o s n xs) j d ≡ listed_of o (part (j * s) s xs)
unfolding listed
listed_at o s n j d xs h = view-at (listed_of o) s n j d xs h

-- one row after the other
module _ (i o s n : ℕ) (xs ys : List ℕ) (k : ℕ) (wide : o + 97 ≡ s) (h : k < n) (room : n * s ≤ length xs) (long : length ys ≡ length xs)
    (inv : listed o s n ys ≡ done (lower_listed i) no_listed (listed o s n xs) k) where
  row-was : listed_of o (part (k * s) s ys) ≡ get_or (listed o s n xs) k no_listed
  row-was =
      sym (listed_at o s n k no_listed ys h)
      ∙ ap (λ (rs : List Listed). get_or rs k no_listed) inv
      ∙ done-read (lower_listed i) no_listed (listed o s n xs) k (omega (arith, length-listed o s n xs))

  pub count-was : get_or ys (k * s + o) 0 ≡ get_or xs (k * s + o) 0
  count-was =
      sym (count-in o s k ys (omega arith))
      ∙ ap (λ (r : Listed). r.count) (row-was ∙ listed_at o s n k no_listed xs h)
      ∙ count-in o s k xs (omega arith)

  pub rows_more : (list : List ℕ) → length list ≡ 97 → listed_of 0 list ≡ lower_listed i (listed_of 0 (part (k * s + o) 97 ys))
      → listed o s n (put (k * s + o) list ys) ≡ done (lower_listed i) no_listed (listed o s n xs) (k + 1)
  unfolding listed
  rows_more list l e =
      let lr : length (part (k * s) s ys) ≡ o + 97 = length_part (k * s) s ys (omega (arith, row-end s n k h)) ∙ sym wide in
      let g : listed_of 0 list ≡ lower_listed i (listed_of 0 (drop o (part (k * s) s ys))) = e ∙ ap (λ (t : List ℕ). lower_listed i (listed_of 0 t)) (sym (list-in o s k ys wide)) in
      view-set (listed_of o) s n k o list ys (omega arith) h (omega arith)
      ∙ (λ z. put k ((row-lowered i o (part (k * s) s ys) list lr l g ∙ ap (lower_listed i) row-was) z ∷ []) (inv z))
      ∙ done_more (lower_listed i) no_listed (listed o s n xs) k (omega (arith, length-listed o s n xs))

-- the rows whose count is not 0 are those that are still announced
pub kept-announced : (n r : ℕ) (xs ys : List ℕ) → rows 129 r ys ≡ filter (differs 32 0) (rows 129 n xs) → listed 32 129 r ys ≡ filter has_announcers (listed 32 129 n xs)
unfolding listed listed_of
kept-announced n r xs ys e = ap (map (listed_of 32)) e ∙ sym (filter_map has_announcers (listed_of 32) (rows 129 n xs))
