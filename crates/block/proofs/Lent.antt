-- A table of the block that is lent: the bytes from its start to the next one's.
-- Assumes nothing.
use Rattle.block.proofs.Words.{◌≡◌, sym, ap, ◌∙◌, List, ℕ, ◌+◌, ◌-◌, ◌≤◌, ◌<◌, arith, length, take, drop, get_or, set, Range, put, loan-put, put_all, length-put, Limits}
use borrow.Rule.Slice.PartMut.{put_mid}
use Rattle.storage.specs.Rows.Part.{part}
use Rattle.block.specs.Cut.{total}
use Rattle.block.specs.Layout.{sizes, place, span, tables, table}
use Rattle.block.proofs.Cut.{cut-part, within}
use Rattle.block.proofs.Tables.{frame, length-table}

-- the part of a list that a range names, and the list with another part there
abbrev pub lent_at : Range ℕ → List ℕ → List ℕ
lent_at r xs = take (r.end - r.start) (drop r.start xs)

abbrev pub given_back : Range ℕ → List ℕ → List ℕ → List ℕ
given_back r xs ys = put_mid r.start (r.end - r.start) xs ys

module _ (l : Limits) (t : ℕ) (r : Range ℕ) (xs : List ℕ) (ht : t < 15) (hr : r ≡ span l t) where
  abbrev size : ℕ
  size = get_or (sizes l) t 0

  wide : place l t + size - place l t ≡ size
  wide = omega arith

  pub lent-table : lent_at r xs ≡ table l t xs
  unfolding part
  lent-table = ap (λ (s : Range ℕ). lent_at s xs) hr ∙ ap (λ (n : ℕ). take n (drop (place l t) xs)) wide ∙ sym (cut-part (sizes l) t xs ht)

  pub lent-room : total (sizes l) ≤ length xs → length (lent_at r xs) ≡ size
  lent-room long = ap length lent-table ∙ length-table l t xs ht long

  module _ (ys : List ℕ) (long : total (sizes l) ≤ length xs) (g : length ys ≡ length (lent_at r xs)) where
    pub lent-size : length ys ≡ size
    lent-size = g ∙ lent-room long

    back : given_back r xs ys ≡ put (place l t) ys xs
    back = ap (λ (s : Range ℕ). given_back s xs ys) hr ∙ ap (λ (n : ℕ). put_mid (place l t) n xs ys) wide ∙ loan-put (place l t) size ys xs lent-size

    pub lent-frame : tables l (given_back r xs ys) ≡ set (tables l xs) t ys
    lent-frame =
        let z : place l t ≡ place l t + 0 = omega arith in
        ap (tables l) back
        ∙ ap (λ (n : ℕ). tables l (put n ys xs)) z
        ∙ frame l t 0 ys xs ht (omega (arith, lent-size)) long
        ∙ ap (set (tables l xs) t) (put_all ys (table l t xs) (lent-size ∙ sym (length-table l t xs ht long)))

    pub lent-long : length (given_back r xs ys) ≡ length xs
    lent-long = ap length back ∙ length-put (place l t) ys xs (omega (arith, lent-size, within (sizes l) t 0 size ht (omega arith)))
