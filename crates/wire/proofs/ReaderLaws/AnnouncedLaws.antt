-- Taking the first of the announcements that stand there.
-- Assumes nothing.
use Rattle.std.proofs.Common.{◌≡◌, ℕ, zero, suc, ◌-◌, ◌≤◌, take, true, false, List, [], ◌∷◌, length, refl, sym, ap, subst, ◌∙◌, arith}
use Rattle.postcard.specs.Number.{Read, got, fault, ◌then◌}
use Rattle.postcard.specs.Message.{Ihave}
use Rattle.postcard.specs.Decode.{read_ihave, read_ihaves, ihaves_in}
use Rattle.postcard.proofs.FieldBack.{joined, got-value}
use Rattle.wire.specs.Reader.Announced.{is_got}

pub announced_none : (count : ℕ) (bytes : List ℕ) → count ≡ 0 → ihaves_in (read_ihaves count bytes) ≡ []
unfolding read_ihaves ihaves_in
announced_none count bytes z = rw z refl

-- the others stand behind the first
pub record Behind (h : Ihave) (bytes rest : List ℕ) (count left : ℕ) : Type 0 where
  pub others : is_got (read_ihaves left rest) ≡ true
  pub list : ihaves_in (read_ihaves count bytes) ≡ h ∷ ihaves_in (read_ihaves left rest)

pred : (n : ℕ) → suc n - 1 ≡ n
pred n = omega arith

behind : (h : Ihave) (r : Read (List Ihave)) → is_got (r then λ hs end. got (h ∷ hs) end) ≡ true → (is_got r ≡ true) × (ihaves_in (r then λ hs end. got (h ∷ hs) end) ≡ h ∷ ihaves_in r)
unfolding ihaves_in
behind h (got hs rest) e = (refl, refl)
behind h (fault n) e = cc

pub announced_first : (h : Ihave) (bytes rest : List ℕ) (count : ℕ) → (count ≡ 0 → ⊥) → read_ihave bytes ≡ got h rest → is_got (read_ihaves count bytes) ≡ true → Behind h bytes rest count (count - 1)
unfolding read_ihaves
announced_first h bytes rest zero z e t = absurd (z refl)
announced_first h bytes rest (suc count) z e t =
    let b = behind h (read_ihaves count rest) (rw e at t) in
    let k : count ≡ suc count - 1 = sym (pred count) in
    subst (λ (n : ℕ). Behind h bytes rest (suc count) n) k (record { others = b.0; list = rw e b.1 })

pub announced_there : (bytes : List ℕ) (count n : ℕ) → (count ≡ 0 → ⊥) → read_ihave bytes ≡ fault n → is_got (read_ihaves count bytes) ≡ true → ⊥
unfolding read_ihaves
announced_there bytes zero n z e t = z refl
announced_there bytes (suc count) n z e t = cc_of (rw e at t)
  where
    cc_of : false ≡ true → ⊥
    cc_of h = cc

-- what was passed over stands there
pub got_there : {A : Type 0} (r : Read A) (a : A) (rest : List ℕ) → r ≡ got a rest → is_got r ≡ true
got_there r a rest e = ap is_got e

long : (h : Ihave) (r : Read (List Ihave)) (n : ℕ) → (is_got r ≡ true → length (ihaves_in r) ≡ n) → is_got (r then λ hs end. got (h ∷ hs) end) ≡ true → length (ihaves_in (r then λ hs end. got (h ∷ hs) end)) ≡ suc n
unfolding ihaves_in
long h (got hs rest) n k e = ap suc (k refl)
long h (fault m) n k e = cc

-- as many as are counted
pub announced_count : (count : ℕ) (bytes : List ℕ) → is_got (read_ihaves count bytes) ≡ true → length (ihaves_in (read_ihaves count bytes)) ≡ count
unfolding read_ihaves ihaves_in
announced_count zero bytes t = refl
announced_count (suc count) bytes t = go (read_ihave bytes) (λ rest. announced_count count rest) t
  where
    go : (r : Read Ihave) → ((rest : List ℕ) → is_got (read_ihaves count rest) ≡ true → length (ihaves_in (read_ihaves count rest)) ≡ count)
        → is_got (r then λ h rest. read_ihaves count rest then λ hs end. got (h ∷ hs) end) ≡ true
        → length (ihaves_in (r then λ h rest. read_ihaves count rest then λ hs end. got (h ∷ hs) end)) ≡ suc count
    go (got h rest) k t = long h (read_ihaves count rest) count (k rest) t
    go (fault n) k t = cc

-- what was read, and the bytes after it
record Got (r : Read (List Ihave)) : Type 0 where
  rest : List ℕ
  reads : r ≡ got (ihaves_in r) rest

got_of : (r : Read (List Ihave)) → is_got r ≡ true → Got r
unfolding ihaves_in
got_of (got hs rest) e = record { rest = rest; reads = refl }
got_of (fault n) e = absurd cc

-- the first of them
record Front (n : ℕ) (bs : List ℕ) (hs : List Ihave) : Type 0 where
  rest : List ℕ
  reads : read_ihaves n bs ≡ got (take n hs) rest

front : (n count : ℕ) (bs : List ℕ) (hs : List Ihave) (rest : List ℕ) → n ≤ count → read_ihaves count bs ≡ got hs rest → Front n bs hs
unfolding read_ihaves
front zero count bs hs rest w e = record { rest = bs; reads = refl }
front (suc n) zero bs hs rest w e = absurd (omega arith)
front (suc n) (suc count) bs hs rest w e =
    let j = joined (read_ihave bs) (λ h mid. read_ihaves count mid then λ ts end. got (h ∷ ts) end) hs rest e in
    let k = joined (read_ihaves count j.middle) (λ ts end. got (j.value ∷ ts) end) hs rest j.after in
    let f = front n count j.middle k.value k.middle (omega arith) k.before in
    record {
      rest = f.rest;
      reads = ap (λ (r : Read Ihave). r then λ h mid. read_ihaves n mid then λ ts end. got (h ∷ ts) end) j.before
          ∙ ap (λ (r : Read (List Ihave)). r then λ ts end. got (j.value ∷ ts) end) f.reads
          ∙ ap (λ (l : List Ihave). got (take (suc n) l) f.rest) (got-value k.after);
    }

module _ (n count : ℕ) (bs : List ℕ) (w : n ≤ count) (there : is_got (read_ihaves count bs) ≡ true) where
  fronted : Front n bs (ihaves_in (read_ihaves count bs))
  fronted = let g = got_of (read_ihaves count bs) there in front n count bs (ihaves_in (read_ihaves count bs)) g.rest w g.reads

  pub front_there : is_got (read_ihaves n bs) ≡ true
  front_there = ap is_got fronted.reads

  pub front_take : ihaves_in (read_ihaves n bs) ≡ take n (ihaves_in (read_ihaves count bs))
  unfolding ihaves_in
  front_take = ap ihaves_in fronted.reads
