-- Lists, compared by their elements.
-- Assumes nothing.
use Rattle.alike.proofs.Words.{◌≡◌, refl, sym, ap, ◌∙◌, ◌⊎◌, inl, inr, Bool, true, false, ◌&&◌, List, [], ◌∷◌, map, ℕ, zero, suc, ◌+◌, ◌-◌, ◌≤◌, ◌<◌, zero-le, suc-le-suc, le_of_suc-le-suc, not-suc-le-zero, arith, eq-eqb, eqb-true, eqb, length, get_or, Map, keys, Expiry, State, Hop, same_mark}
use Rattle.storage.proofs.ListsLaws.MapLaws.{true≢, and_left, and_right, and_intro}
use Rattle.storage.specs.Rows.Part.{part}
use Rattle.storage.specs.Rows.Digits.{le_nat, le_bytes}
use Rattle.storage.proofs.RowsLaws.Digits.{Bytes, le_bytes-le_nat, part_bytes}
use Rattle.storage.proofs.RowsLaws.Parts.{length_part, get_d_part}
use Rattle.storage.proofs.RefsLaws.Shifts.{low_or_high}
use Rattle.protocol.specs.Alike.{same_list, same_map, same_hop, same_expiry}
use Rattle.alike.specs.Elements.{element, same_element, hop_element, graft_element, expiry_element}
use Rattle.alike.specs.Rows.{same_entry, SameUpTo}

-- one of two tests is false
pub and_no : (a b : Bool) → b ≡ false → (a && b) ≡ false
and_no true b h = h
and_no false b h = refl

pub and-no-left : (a b : Bool) → a ≡ false → (a && b) ≡ false
and-no-left a b h = ap (λ (t : Bool). t && b) h

pub and_yes : (a : Bool) → (a && true) ≡ a
and_yes true = refl
and_yes false = refl

-- element by element
module _ {A : Type 0} (p : A → A → Bool) (d : A) where
  pub list-yes : (xs ys : List A) → length xs ≡ length ys → ((i : ℕ) → i < length xs → p (get_or xs i d) (get_or ys i d) ≡ true) → same_list p xs ys ≡ true
  unfolding same_list
  list-yes [] [] e h = refl
  list-yes [] (y ∷ ys) e h = absurd (omega (arith, e))
  list-yes (x ∷ xs) [] e h = absurd (omega (arith, e))
  list-yes (x ∷ xs) (y ∷ ys) e h = and_intro (h 0 (suc-le-suc zero-le)) (list-yes xs ys (omega (arith, e)) (λ i q. h (suc i) (suc-le-suc q)))

  pub list-no : (xs ys : List A) (i : ℕ) → i < length xs → i < length ys → p (get_or xs i d) (get_or ys i d) ≡ false → same_list p xs ys ≡ false
  unfolding same_list
  list-no [] ys i h g e = absurd (not-suc-le-zero h)
  list-no (x ∷ xs) [] i h g e = absurd (not-suc-le-zero g)
  list-no (x ∷ xs) (y ∷ ys) zero h g e = and-no-left (p x y) (same_list p xs ys) e
  list-no (x ∷ xs) (y ∷ ys) (suc i) h g e = and_no (p x y) (same_list p xs ys) (list-no xs ys i (le_of_suc-le-suc h) (le_of_suc-le-suc g) e)

  pub list_length : (xs ys : List A) → (length xs ≡ length ys → ⊥) → same_list p xs ys ≡ false
  unfolding same_list
  list_length [] [] n = absurd (n refl)
  list_length [] (y ∷ ys) n = refl
  list_length (x ∷ xs) [] n = refl
  list_length (x ∷ xs) (y ∷ ys) n = and_no (p x y) (same_list p xs ys) (list_length xs ys (λ e. n (ap suc e)))

-- lists of elements that stand for others
list-map : {A B : Type 0} (s : B → B → Bool) (t : A → A → Bool) (f : A → B) → ((x y : A) → s (f x) (f y) ≡ t x y) → (xs ys : List A) → same_list s (map f xs) (map f ys) ≡ same_list t xs ys
unfolding same_list
list-map s t f e [] [] = refl
list-map s t f e [] (y ∷ ys) = refl
list-map s t f e (x ∷ xs) [] = refl
list-map s t f e (x ∷ xs) (y ∷ ys) = λ k. e x y k && list-map s t f e xs ys k

-- an element without identifier, and one without round
no-id : (p q r u : ℕ) → same_element (element p 0 r) (element q 0 u) ≡ (eqb p q && eqb r u)
unfolding same_element
no-id p q r u = ap (λ (t : Bool). eqb p q && t && eqb r u) (eq-eqb 0 0 refl) ∙ and-mid (eqb p q) (eqb r u)
  where
    and-mid : (a b : Bool) → (a && true && b) ≡ (a && b)
    and-mid true b = refl
    and-mid false b = refl

pub no-round : (t u k l : ℕ) → same_element (element t k 0) (element u l 0) ≡ (eqb t u && eqb k l)
unfolding same_element
no-round t u k l = ap (λ (b : Bool). eqb t u && eqb k l && b) (eq-eqb 0 0 refl) ∙ and_yes (eqb t u && eqb k l)

pub list_hops : (xs ys : List Hop) → same_list same_element (map hop_element xs) (map hop_element ys) ≡ same_list same_hop xs ys
unfolding same_hop
list_hops xs ys = list-map same_element same_hop hop_element (λ x y. no-id x.peer y.peer x.round y.round) xs ys

pub list_grafts : (xs ys : Map ℕ) → same_list same_element (map graft_element xs) (map graft_element ys) ≡ same_map eqb xs ys
unfolding same_map
list_grafts xs ys = list-map same_element (same_entry eqb) graft_element (λ x y. no-id x.key y.key x.value y.value) xs ys

pub list_expiry : (xs ys : List Expiry) → same_list same_element (map expiry_element xs) (map expiry_element ys) ≡ same_list same_expiry xs ys
unfolding same_expiry
list_expiry xs ys = list-map same_element same_expiry expiry_element (λ x y. no-round x.time y.time x.key y.key) xs ys

-- maps that agree have the same keys
pub same_keys : {A : Type 0} (same : A → A → Bool) (m n : Map A) → same_map same m n ≡ true → keys m ≡ keys n
unfolding same_map same_list
same_keys same [] [] h = refl
same_keys same [] (e ∷ n) h = true≢ h
same_keys same (d ∷ m) [] h = true≢ h
same_keys same (d ∷ m) (e ∷ n) h =
    let here : Bool = same_entry same d e in
    let rest : Bool = same_map same m n in
    λ k. eqb-true d.key e.key (and_left (eqb d.key e.key) (same d.value e.value) (and_left here rest h)) k ∷ same_keys same m n (and_right here rest h) k

-- links that are the same have the same peers
pub links_keys : (s t : State) → same_map same_mark s.links t.links ≡ true → keys s.links ≡ keys t.links
links_keys s t = same_keys same_mark s.links t.links

-- words of bytes that agree
module _ (i : ℕ) (xs ys : List ℕ) (bytes : Bytes xs) (bytes' : Bytes ys) (h : i + 8 ≤ length xs) (h' : i + 8 ≤ length ys) (e : le_nat (part i 8 xs) ≡ le_nat (part i 8 ys)) where
  word_same : part i 8 xs ≡ part i 8 ys
  word_same =
      let l : length (part i 8 xs) ≡ length (part i 8 ys) = length_part i 8 xs h ∙ sym (length_part i 8 ys h') in
      sym (le_bytes-le_nat (part i 8 xs) (part_bytes i 8 xs bytes)) ∙ (λ k. le_bytes (l k) (e k)) ∙ le_bytes-le_nat (part i 8 ys) (part_bytes i 8 ys bytes')

  pub same_word : SameUpTo i xs ys → SameUpTo (i + 8) xs ys
  same_word s k m = go (low_or_high i k)
    where
      go : (k < i) ⊎ (i ≤ k) → get_or xs k 0 ≡ get_or ys k 0
      go (inl q) = s k q
      go (inr q) =
          let z : i + (k - i) ≡ k = omega arith in
          ap (λ (n : ℕ). get_or xs n 0) (sym z) ∙ sym (get_d_part i 8 (k - i) 0 xs (omega arith)) ∙ ap (λ (l : List ℕ). get_or l (k - i) 0) word_same ∙ get_d_part i 8 (k - i) 0 ys (omega arith)
          ∙ ap (λ (n : ℕ). get_or ys n 0) z
