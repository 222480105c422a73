-- The bytes of an area and what they keep: what is read from `area_bytes` is what was kept, and bytes whose spare places are 0 are those of what they keep.
-- Assumes nothing.
use Rattle.whole.proofs.Words.{◌≡◌, refl, sym, ap, ◌∙◌, subst, ◌⊎◌, inl, inr, List, [], ◌∷◌, ◌++◌, ℕ, zero, suc, ◌+◌, ◌-◌, ◌*◌, ◌^◌, ◌≤◌, ◌<◌, mul-zero, mul-suc, zero-add, add-zero, eq-or-lt_of_le, arith, length, get_or, take, replicate, length-append, take-suc, ext_get_or, Entry, entry, put, le_nat, length_part, length-put, part-before, part-after, part-part, part-add, part-put-in, get_d_part, get_or-put-in, get_or-put-before, get_or-put-after}
use lib.ListN.{length-replicate, get_or-replicate, get_or-append}
use lib.Seq.{take-length, get_or_at}
use Rattle.storage.specs.Lists.Base.{concat_map}
use Rattle.storage.proofs.ListsLaws.ListLaws.{concat-append, concat-one}
use Rattle.storage.specs.Rows.Part.{part}
use Rattle.storage.specs.Rows.Digits.{le_bytes}
use Rattle.storage.proofs.RowsLaws.Digits.{Bytes, le_nat-le_bytes, le_nat-below, le_bytes-le_nat, part_bytes}
use Rattle.storage.proofs.RefsLaws.Shifts.{low_or_high}
use Rattle.whole.specs.States.Kept.{Kept}
use Rattle.whole.specs.States.Area.{row_bytes, area_bytes, name_at, kept_at, slots, kept, kept_in, InWidth}
use Rattle.whole.specs.States.Calls.{Zeros}
use Rattle.whole.proofs.StatesLaws.Slots.{Sized, length-parts, part-parts, slot-end, slot-start}

-- what stands nowhere
abbrev pub nobody : Entry Kept
nobody = entry 0 (record { counts = record { payload = 0; control = 0; hops = 0 }; block = [] })

-- name and counts in their widths
abbrev pub Wide : Entry Kept → Type 0
Wide k = InWidth k.key k.value.counts

pub length-row : (k : Entry Kept) → length (row_bytes k) ≡ 26
unfolding row_bytes le_bytes
length-row k = refl

-- the fields of a row
name-field : (k : Entry Kept) → part 0 8 (row_bytes k) ≡ le_bytes 8 k.key
unfolding row_bytes le_bytes part
name-field k = refl

payload-field : (k : Entry Kept) → part 8 8 (row_bytes k) ≡ le_bytes 8 k.value.counts.payload
unfolding row_bytes le_bytes part
payload-field k = refl

control-field : (k : Entry Kept) → part 16 8 (row_bytes k) ≡ le_bytes 8 k.value.counts.control
unfolding row_bytes le_bytes part
control-field k = refl

hops-field : (k : Entry Kept) → part 24 2 (row_bytes k) ≡ le_bytes 2 k.value.counts.hops
unfolding row_bytes le_bytes part
hops-field k = refl

-- at most four, each with a block of n bytes
module _ (n long : ℕ) (fits : 256 + n * 4 ≤ long) (ks : List (Entry Kept)) (few : length ks ≤ 4) (sized : Sized nobody (λ k. k.value.block) n ks) where
  abbrev R : List ℕ
  R = concat_map row_bytes ks

  abbrev B : List ℕ
  B = concat_map (λ k. k.value.block) ks

  abbrev pub X : List ℕ
  X = put 0 R (replicate long 0)

  abbrev pub Y : List ℕ
  Y = put 256 B X

  pub lr : length R ≡ 26 * length ks
  lr = length-parts nobody row_bytes 26 ks (λ i l. length-row (get_or ks i nobody))

  pub lb : length B ≡ n * length ks
  lb = length-parts nobody (λ k. k.value.block) n ks sized

  pub lz : length (replicate {A = ℕ} long 0) ≡ long
  lz = length-replicate long 0

  pub lx : length X ≡ long
  lx = length-put 0 R (replicate long 0) (omega (arith, lr, lz)) ∙ lz

  up : n * length ks ≤ n * 4
  up = slot-start n (length ks) 4 few

  pub ly : length Y ≡ long
  ly = length-put 256 B X (omega (arith, lb, lx, up)) ∙ lx

  pub area-long : length (area_bytes long ks) ≡ long
  unfolding area_bytes
  area-long = length-put 255 (length ks ∷ []) Y (omega (arith, ly)) ∙ ly

  pub area-count : kept (area_bytes long ks) ≡ length ks
  unfolding area_bytes kept
  area-count = get_or-put-in 255 0 0 (length ks ∷ []) Y (omega arith) (omega (arith, ly))

  pub area-row : (i : ℕ) → i < length ks → part (26 * i) 26 (area_bytes long ks) ≡ row_bytes (get_or ks i nobody)
  unfolding area_bytes
  area-row i h =
      part-before (26 * i) 26 255 (length ks ∷ []) Y (omega arith) (omega (arith, ly))
      ∙ part-before (26 * i) 26 256 B X (omega arith) (omega (arith, lx))
      ∙ ap (λ (m : ℕ). part m 26 X) (sym (zero-add (26 * i)))
      ∙ part-put-in 0 (26 * i) 26 R (replicate long 0) (omega (arith, lr)) (omega (arith, lr, lz))
      ∙ part-parts nobody row_bytes 26 ks (λ i l. length-row (get_or ks i nobody)) i h

  pub area-block : (i : ℕ) → i < length ks → part (256 + n * i) n (area_bytes long ks) ≡ (get_or ks i nobody).value.block
  unfolding area_bytes
  area-block i h =
      part-after (256 + n * i) n 255 (length ks ∷ []) Y (omega arith) (omega (arith, ly))
      ∙ part-put-in 256 (n * i) n B X (omega (arith, lb, slot-end n i (length ks) h)) (omega (arith, lb, lx, up))
      ∙ part-parts nobody (λ k. k.value.block) n ks sized i h

  -- the spare places
  pub area-spare : Zeros (26 * length ks) 255 (area_bytes long ks)
  unfolding area_bytes
  area-spare j h l =
      get_or-put-before 255 j 0 (length ks ∷ []) Y l (omega (arith, ly))
      ∙ get_or-put-before 256 j 0 B X (omega arith) (omega (arith, lx))
      ∙ get_or-put-after 0 j 0 R (replicate long 0) (omega (arith, lr)) (omega arith)
      ∙ get_or-replicate long j 0 0 (omega arith)

  pub area-rest : Zeros (256 + n * length ks) long (area_bytes long ks)
  unfolding area_bytes
  area-rest j h l =
      get_or-put-after 255 j 0 (length ks ∷ []) Y (omega arith) (omega (arith, ly))
      ∙ get_or-put-after 256 j 0 B X (omega (arith, lb)) (omega (arith, lx))
      ∙ get_or-put-after 0 j 0 R (replicate long 0) (omega (arith, lr)) (omega arith)
      ∙ get_or-replicate long j 0 0 l

  -- a number of row i
  field-bytes : (i o w v : ℕ) → i < length ks → o + w ≤ 26 → part o w (row_bytes (get_or ks i nobody)) ≡ le_bytes w v → part (26 * i + o) w (area_bytes long ks) ≡ le_bytes w v
  field-bytes i o w v h l e = sym (part-part o w (26 * i) 26 (area_bytes long ks) l) ∙ ap (part o w) (area-row i h) ∙ e

  -- numbers that are read from their own bytes are in their widths
  narrow : (i o w v : ℕ) → i < length ks → o + w ≤ 26 → part o w (row_bytes (get_or ks i nobody)) ≡ le_bytes w v → v ≡ le_nat (part (26 * i + o) w (area_bytes long ks)) → v < 256 ^ w
  narrow i o w v h l e r =
      subst (λ (m : ℕ). m < 256 ^ w) (sym (r ∙ ap le_nat (field-bytes i o w v h l e))) (le_nat-below w v)

  pub area-wide : (i : ℕ) → i < length ks → get_or ks i nobody ≡ kept_at n (area_bytes long ks) i → Wide (get_or ks i nobody)
  unfolding kept_at name_at
  area-wide i h e =
      let k : Entry Kept = get_or ks i nobody in
      let z : 26 * i + 0 ≡ 26 * i = add-zero (26 * i) in record {
        name = narrow i 0 8 k.key h (omega arith) (name-field k) (ap (λ (x : Entry Kept). x.key) e ∙ ap (λ (m : ℕ). le_nat (part m 8 (area_bytes long ks))) (sym z));
        payload = narrow i 8 8 k.value.counts.payload h (omega arith) (payload-field k) (ap (λ (x : Entry Kept). x.value.counts.payload) e);
        control = narrow i 16 8 k.value.counts.control h (omega arith) (control-field k) (ap (λ (x : Entry Kept). x.value.counts.control) e);
        hops = narrow i 24 2 k.value.counts.hops h (omega arith) (hops-field k) (ap (λ (x : Entry Kept). x.value.counts.hops) e);
      }

  module _ (wide : (i : ℕ) → i < length ks → Wide (get_or ks i nobody)) where
    field : (i o w v : ℕ) → i < length ks → o + w ≤ 26 → part o w (row_bytes (get_or ks i nobody)) ≡ le_bytes w v → v < 256 ^ w → le_nat (part (26 * i + o) w (area_bytes long ks)) ≡ v
    field i o w v h l e b = ap le_nat (field-bytes i o w v h l e) ∙ le_nat-le_bytes w v b

    area-at : (i : ℕ) → i < length ks → kept_at n (area_bytes long ks) i ≡ get_or ks i nobody
    unfolding kept_at name_at
    area-at i h =
        let k : Entry Kept = get_or ks i nobody in
        let w : Wide k = wide i h in
        let a : le_nat (part (26 * i) 8 (area_bytes long ks)) ≡ k.key =
        ap (λ (m : ℕ). le_nat (part m 8 (area_bytes long ks))) (sym (add-zero (26 * i))) ∙ field i 0 8 k.key h (omega arith) (name-field k) w.name in
        let p = field i 8 8 k.value.counts.payload h (omega arith) (payload-field k) w.payload in
        let c = field i 16 8 k.value.counts.control h (omega arith) (control-field k) w.control in
        let o = field i 24 2 k.value.counts.hops h (omega arith) (hops-field k) w.hops in
        (λ t. entry (a t) (record { counts = record { payload = p t; control = c t; hops = o t }; block = area-block i h t }))

    area-slots : (m : ℕ) → m ≤ length ks → slots n (area_bytes long ks) m ≡ take m ks
    unfolding slots
    area-slots zero h = refl
    area-slots (suc m) h =
        (λ t. area-slots m (omega arith) t ++ (area-at m h t ∷ [])) ∙ sym (take-suc ks m nobody h)

    -- what is read from the bytes is what was kept
    pub area-back : kept_in n (area_bytes long ks) ≡ ks
    unfolding kept_in
    area-back = ap (slots n (area_bytes long ks)) area-count ∙ area-slots (length ks) (omega arith) ∙ take-length ks

module _ (n : ℕ) (area : List ℕ) where
  pub length-slots : (k : ℕ) → length (slots n area k) ≡ k
  unfolding slots
  length-slots zero = refl
  length-slots (suc k) = omega (arith, length-append (slots n area k) (kept_at n area k ∷ []), length-slots k)

  pub get_or-slots : (k i : ℕ) → i < k → get_or (slots n area k) i nobody ≡ kept_at n area i
  unfolding slots
  get_or-slots zero i h = absurd (omega arith)
  get_or-slots (suc k) i h = go (λ l. get_or-slots k i l) (eq-or-lt_of_le (let m : i ≤ k = omega arith in m))
    where
      go : (i < k → get_or (slots n area k) i nobody ≡ kept_at n area i) → (i ≡ k) ⊎ (i < k) → get_or (slots n area k ++ (kept_at n area k ∷ [])) i nobody ≡ kept_at n area i
      go f (inl e) = get_or_at (slots n area k) (kept_at n area k) [] nobody i (length-slots k ∙ sym e) ∙ ap (kept_at n area) (sym e)
      go f (inr l) = get_or-append (slots n area k) (kept_at n area k ∷ []) nobody i (omega (arith, length-slots k)) ∙ f l

  pub slots-sized : (k : ℕ) → k ≤ 4 → 256 + n * 4 ≤ length area → Sized nobody (λ k. k.value.block) n (slots n area k)
  unfolding kept_at
  slots-sized k f h i l =
      let m : i < k = omega (arith, length-slots k) in
      ap (λ (x : Entry Kept). length x.value.block) (get_or-slots k i m) ∙ length_part (256 + n * i) n area (omega (arith, slot-end n i 4 (omega arith)))

  module _ (bytes : Bytes area) where
    word_same : (a w : ℕ) → a + w ≤ length area → le_bytes w (le_nat (part a w area)) ≡ part a w area
    word_same a w h =
        ap (λ (m : ℕ). le_bytes m (le_nat (part a w area))) (sym (length_part a w area h)) ∙ le_bytes-le_nat (part a w area) (part_bytes a w area bytes)

    row_same : (i : ℕ) → 26 * i + 26 ≤ length area → row_bytes (kept_at n area i) ≡ part (26 * i) 26 area
    unfolding row_bytes kept_at name_at
    row_same i h =
        let a : ℕ = 26 * i in
        let e : a + 8 + 8 ≡ a + 16 = omega arith in
        let f : a + 16 + 8 ≡ a + 24 = omega arith in
        (λ t. word_same a 8 (omega arith) t ++ (word_same (a + 8) 8 (omega arith) t ++ (word_same (a + 16) 8 (omega arith) t ++ word_same (a + 24) 2 (omega arith) t)))
        ∙ sym (part-add a 8 18 area
        ∙ ap (λ (t : List ℕ). part a 8 area ++ t) (part-add (a + 8) 8 10 area
        ∙ ap (λ (t : List ℕ). part (a + 8) 8 area ++ t) (ap (λ (m : ℕ). part m 10 area) e ∙ part-add (a + 16) 8 2 area
        ∙ ap (λ (m : ℕ). part (a + 16) 8 area ++ part m 2 area) f)))

    rows_same : (k : ℕ) → 26 * k ≤ length area → concat_map row_bytes (slots n area k) ≡ part 0 (26 * k) area
    unfolding slots concat_map part
    rows_same zero h = refl
    rows_same (suc k) h =
        let e : 26 * suc k ≡ 26 * k + 26 = mul-suc 26 k in
        concat-append row_bytes (slots n area k) (kept_at n area k ∷ [])
        ∙ (λ t. rows_same k (omega arith) t ++ (concat-one row_bytes (kept_at n area k) ∙ row_same k (omega arith) ∙ ap (λ (m : ℕ). part m 26 area) (sym (zero-add (26 * k)))) t)
        ∙ sym (part-add 0 (26 * k) 26 area) ∙ ap (λ (m : ℕ). part 0 m area) (sym e)

    blocks-same : (k : ℕ) → concat_map (λ x. x.value.block) (slots n area k) ≡ part 256 (n * k) area
    unfolding slots concat_map part kept_at
    blocks-same zero = ap (λ (m : ℕ). part 256 m area) (sym (mul-zero n))
    blocks-same (suc k) =
        concat-append (λ x. x.value.block) (slots n area k) (kept_at n area k ∷ [])
        ∙ (λ t. blocks-same k t ++ concat-one (λ x. x.value.block) (kept_at n area k) t)
        ∙ sym (part-add 256 (n * k) n area) ∙ ap (λ (m : ℕ). part 256 m area) (sym (mul-suc n k))

    -- bytes whose spare places are 0 are those of what they keep
    module _ (fits : 256 + n * 4 ≤ length area) (few : kept area ≤ 4) (spare : Zeros (26 * kept area) 255 area) (rest : Zeros (256 + n * kept area) (length area) area) where
      abbrev k : ℕ
      k = kept area

      abbrev ks : List (Entry Kept)
      ks = slots n area k

      abbrev long : ℕ
      long = length area

      few' : length ks ≤ 4
      few' = omega (arith, length-slots k)

      abbrev sized : Sized nobody (λ x. x.value.block) n ks
      sized = slots-sized k few fits

      end : n * k ≤ n * 4
      end = slot-start n k 4 few

      at : (j : ℕ) → j < long → get_or area j 0 ≡ get_or (area_bytes long ks) j 0
      unfolding area_bytes kept
      at j l = in_rows (low_or_high (26 * k) j)
        where
          Rw : List ℕ
          Rw = concat_map row_bytes ks

          Bw : List ℕ
          Bw = concat_map (λ x. x.value.block) ks

          beyond : (j < 256 + n * k) ⊎ (256 + n * k ≤ j) → 256 ≤ j → get_or area j 0 ≡ get_or (area_bytes long ks) j 0
          beyond (inl h) g =
              let e : 256 + (j - 256) ≡ j = omega arith in
              sym (get_or-put-after 255 j 0 (length ks ∷ []) (Y n long fits ks few' sized) (omega arith) (omega (arith, ly n long fits ks few' sized))
              ∙ ap (λ (m : ℕ). get_or (Y n long fits ks few' sized) m 0) (sym e)
              ∙ get_or-put-in 256 (j - 256) 0 Bw (X n long fits ks few' sized) (omega (arith, lb n long fits ks few' sized, length-slots k, ap (λ (m : ℕ). n * m) (length-slots k))) (omega (arith, lb n long fits ks few' sized, lx n long fits ks few' sized, ap (λ (m : ℕ). n * m) (length-slots k), end, fits))
              ∙ ap (λ (t : List ℕ). get_or t (j - 256) 0) (blocks-same k)
              ∙ get_d_part 256 (n * k) (j - 256) 0 area (omega arith)
              ∙ ap (λ (m : ℕ). get_or area m 0) e)
          beyond (inr h) g = rest j h l ∙ sym (area-rest n long fits ks few' sized j (omega (arith, ap (λ (m : ℕ). n * m) (length-slots k))) l)

          at_count : (255 ≡ j) ⊎ (255 < j) → get_or area j 0 ≡ get_or (area_bytes long ks) j 0
          at_count (inl e) =
              ap (λ (m : ℕ). get_or area m 0) (sym e) ∙ sym (length-slots k) ∙ sym (area-count n long fits ks few' sized) ∙ ap (λ (m : ℕ). get_or (area_bytes long ks) m 0) e
          at_count (inr h) = beyond (low_or_high (256 + n * k) j) h

          in-spare : (j < 255) ⊎ (255 ≤ j) → 26 * k ≤ j → get_or area j 0 ≡ get_or (area_bytes long ks) j 0
          in-spare (inl h) g = spare j g h ∙ sym (area-spare n long fits ks few' sized j (omega (arith, length-slots k)) h)
          in-spare (inr h) g = at_count (eq-or-lt_of_le h)

          in_rows : (j < 26 * k) ⊎ (26 * k ≤ j) → get_or area j 0 ≡ get_or (area_bytes long ks) j 0
          in_rows (inl h) =
              sym (get_or-put-before 255 j 0 (length ks ∷ []) (Y n long fits ks few' sized) (omega arith) (omega (arith, ly n long fits ks few' sized))
              ∙ get_or-put-before 256 j 0 Bw (X n long fits ks few' sized) (omega arith) (omega (arith, lx n long fits ks few' sized))
              ∙ ap (λ (m : ℕ). get_or (X n long fits ks few' sized) m 0) (sym (zero-add j))
              ∙ get_or-put-in 0 j 0 Rw (replicate long 0) (omega (arith, lr n long fits ks few' sized, length-slots k)) (omega (arith, lr n long fits ks few' sized, lz n long fits ks few' sized, length-slots k))
              ∙ ap (λ (t : List ℕ). get_or t j 0) (rows_same k (omega arith))
              ∙ get_d_part 0 (26 * k) j 0 area h
              ∙ ap (λ (m : ℕ). get_or area m 0) (zero-add j))
          in_rows (inr h) = in-spare (low_or_high 255 j) h

      pub area_same : area ≡ area_bytes (length area) (kept_in n area)
      unfolding kept_in
      area_same = ext_get_or 0 area (area_bytes long ks) (sym (area-long n long fits ks few' sized)) at
