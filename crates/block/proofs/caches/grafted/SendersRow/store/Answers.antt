-- `store`: the flags and the values, one behind the other.
use Rattle.block.proofs.Words.{◌≡◌, sym, ap, ◌∙◌, List, [], ◌∷◌, ◌++◌, ℕ, ◌^◌, ◌<◌, arith, length, set, length-append, put, le_bytes, length-le_bytes, le_nat-le_bytes, set-put, put-put-next, put_all, length-put}
use Rattle.block.specs.View.{half_at, flag_of, only_if}
use Rattle.storage.specs.Rows.Rows.{field_of}
use Rattle.storage.specs.Rows.Part.{part}
use Rattle.storage.specs.Rows.Digits.{le_bytes as digits}
use Rattle.block.specs.MissingSteps.{hop}
use Rattle.block.specs.Caches.GraftSteps.{senders_in, first_value}
use Rattle.block.proofs.GraftsLaws.ReadLaws.{first-if}
use Rattle.block.proofs.caches.grafted.SendersRow.store.Goals as goal

-- the bytes that senders are stored as
module _ (f p r g k : ℕ) where
  abbrev numbers : List ℕ
  numbers = le_bytes 8 p ++ le_bytes 2 r

  abbrev bytes : List ℕ
  bytes = f ∷ ((numbers ++ (g ∷ [])) ++ le_bytes 8 k)

  read : p < 256 ^ 8 → r < 256 ^ 2 → k < 256 ^ 8 → senders_in bytes ≡ (only_if (flag_of f) (hop p r), only_if (flag_of g) k)
  unfolding field_of half_at part digits
  read hp hr hk = λ z. (only_if (flag_of f) (hop (le_nat-le_bytes 8 p hp z) (le_nat-le_bytes 2 r hr z)), only_if (flag_of g) (le_nat-le_bytes 8 k hk z))

  stored : (xs : List ℕ) → length xs ≡ 20 → put 12 (le_bytes 8 k) (set (put 9 (le_bytes 2 r) (put 1 (le_bytes 8 p) (set xs 0 f))) 11 g) ≡ bytes
  stored xs e =
      let l8 : length (le_bytes 8 p) ≡ 8 = length-le_bytes 8 p in
      let l10 : length numbers ≡ 10 = omega (arith, length-append (le_bytes 8 p) (le_bytes 2 r), l8, length-le_bytes 2 r) in
      let l11 : length (numbers ++ (g ∷ [])) ≡ 11 = omega (arith, length-append numbers (g ∷ []), l10) in
      let e1 = ap (put 1 (le_bytes 8 p)) (set-put 0 f xs (omega arith)) ∙ put-put-next 0 1 (f ∷ []) (le_bytes 8 p) xs (omega arith) (omega (arith, l8)) in
      let e2 = ap (put 9 (le_bytes 2 r)) e1 ∙ put-put-next 0 9 (f ∷ le_bytes 8 p) (le_bytes 2 r) xs (omega (arith, l8)) (omega (arith, length-le_bytes 2 r)) in
      let e3 =
      ap (λ (z : List ℕ). set z 11 g) e2 ∙ set-put 11 g (put 0 (f ∷ numbers) xs) (omega (arith, length-put 0 (f ∷ numbers) xs (omega (arith, l10)))) ∙ put-put-next 0 11 (f ∷ numbers) (g ∷ []) xs (omega (arith, l10)) (omega arith) in
      ap (put 12 (le_bytes 8 k)) e3 ∙ put-put-next 0 12 (f ∷ (numbers ++ (g ∷ []))) (le_bytes 8 k) xs (omega (arith, l11)) (omega (arith, length-le_bytes 8 k))
      ∙ put_all bytes xs (omega (arith, length-append (numbers ++ (g ∷ [])) (le_bytes 8 k), l11, length-le_bytes 8 k))

pub returns : goal.returns
returns c =
    let a = c.flagged-flag.result in
    let b = c.flagged-flag-2.result in
    let p = a.1.sender in
    let r = a.1.round.0 in
    let one = c.store_le.ensures ∙ ap (put 9 (le_bytes 2 r)) c.store.ensures in
    let all = c.store-2.ensures ∙ ap (λ (z : List ℕ). put 12 (le_bytes 8 b.1) (set z 11 b.0)) one ∙ stored a.0 p r b.0 b.1 c.args.bytes.now c.requires in
    let first = sym (first-if (flag_of a.0) a.1) ∙ ap first_value c.flagged-flag.ensures in
    ap senders_in all ∙ read a.0 p r b.0 b.1 (omega (arith, c.flagged-flag.type_inv)) (omega (arith, c.flagged-flag.type_inv)) (omega (arith, c.flagged-flag-2.type_inv)) ∙ (λ k. (first k, c.flagged-flag-2.ensures k))
