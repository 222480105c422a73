-- Passing over the announcements of an IHave.
-- Assumes nothing.
use Rattle.std.proofs.Common.{◌≡◌, ℕ, zero, suc, ◌-◌, ◌<◌, List, ◌∷◌, refl, sym, ap, ◌∙◌, arith}
use Rattle.postcard.specs.Number.{Read, got, fault, ◌then◌}
use Rattle.postcard.specs.Message.{Ihave}
use Rattle.postcard.specs.Decode.{read_ihave, read_ihaves, ihaves_in}

-- where a reading ends, or its fault
abbrev pub ending : Read (List Ihave) → Read ℕ
ending (got hs rest) = got 0 rest
ending (fault n) = fault n

-- where the loop stands: what is left to pass over ends as what was to be passed over
pub record Passing (bytes rest : List ℕ) (count left : ℕ) : Type 0 where
  pub same : ending (read_ihaves left rest) ≡ ending (read_ihaves count bytes)

ending-front : (h : Ihave) (r : Read (List Ihave)) → ending (r then λ hs end. got (h ∷ hs) end) ≡ ending r
ending-front h (got hs rest) = refl
ending-front h (fault n) = refl

pub passing-more : (bytes rest after : List ℕ) (count left next : ℕ) (h : Ihave) → read_ihave rest ≡ got h after → 0 < left → next ≡ left - 1 → Passing bytes rest count left → Passing bytes after count next
unfolding read_ihaves
passing-more bytes rest after count zero next h e l n p = absurd (omega arith)
passing-more bytes rest after count (suc left) next h e l n p =
    let k : next ≡ left = omega arith in
    record { same = rw k (sym (ending-front h (read_ihaves left after)) ∙ ap (λ (x : Read Ihave). ending (x then λ i end. read_ihaves left end then λ hs last. got (i ∷ hs) last)) (sym e) ∙ p.same) }

-- the first fault
fault-of : (n : ℕ) (r : Read (List Ihave)) → fault n ≡ ending r → r ≡ fault n
fault-of n (got hs rest) h = cc
fault-of n (fault m) h = ap (λ (k : ℕ). fault k) (sym e)
  where
    e : n ≡ m
    e = cc

pub passing-fault : (bytes rest : List ℕ) (count left n : ℕ) → read_ihave rest ≡ fault n → 0 < left → Passing bytes rest count left → read_ihaves count bytes ≡ fault n
unfolding read_ihaves
passing-fault bytes rest count zero n e l p = absurd (omega arith)
passing-fault bytes rest count (suc left) n e l p =
    fault-of n (read_ihaves count bytes) (ap (λ (x : Read Ihave). ending (x then λ i end. read_ihaves left end then λ hs last. got (i ∷ hs) last)) (sym e) ∙ p.same)

got-of : (rest : List ℕ) (r : Read (List Ihave)) → got 0 rest ≡ ending r → r ≡ got (ihaves_in r) rest
unfolding ihaves_in
got-of rest (got hs last) h = ap (λ (x : List ℕ). got hs x) (sym e)
  where
    e : rest ≡ last
    e = cc
got-of rest (fault m) h = cc

pub passing-all : (bytes rest : List ℕ) (count left : ℕ) → left ≡ 0 → Passing bytes rest count left → read_ihaves count bytes ≡ got (ihaves_in (read_ihaves count bytes)) rest
unfolding read_ihaves
passing-all bytes rest count left z p = got-of rest (read_ihaves count bytes) (ap (λ (n : ℕ). ending (read_ihaves n rest)) (sym z) ∙ p.same)
