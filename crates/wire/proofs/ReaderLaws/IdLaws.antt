use Rattle.std.proofs.Common.{◌≡◌, ℕ, List, [], ◌∷◌, ◌+◌, ◌*◌, length, refl, arith}
use Rattle.std.proofs.lemmas.List.{take_all}
use Rattle.storage.specs.Rows.Digits.{be_from, be_nat}
use Rattle.storage.specs.Rows.Part.{part}
use Rattle.postcard.specs.Number.{from_big_endian}

same-number : (high : ℕ) (bs : List ℕ) → be_from high bs ≡ from_big_endian high bs
unfolding be_from from_big_endian
same-number high [] = refl
same-number high (b ∷ bs) = same-number (high * 256 + b) bs

-- what `load_id` loads from 32 bytes is the number of them
pub id_of_bytes : (bs : List ℕ) → length bs ≡ 32 → be_nat (part 0 32 bs) ≡ from_big_endian 0 bs
unfolding part
id_of_bytes bs h = rw (take_all 32 bs (omega arith)) (same-number 0 bs)
