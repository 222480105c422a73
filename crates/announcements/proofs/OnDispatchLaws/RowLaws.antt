-- Rows of the queue or of the record, one after the other.
-- Assumes nothing.
use Rattle.announcements.proofs.Words.{◌≡◌, ℕ, ◌+◌, ◌-◌, length-drop, ◌<◌, ◌≤◌, length, length-append, sym, ◌∙◌, ap, refl, arith, Bool, true, false, List, [], ◌∷◌, ◌++◌, get_or, take, drop, add-one, append-nil, ltb, min, leb-true, leb-false, leb, drop-cons, drop_all, nil_from_length, take-map, All-same, All-take, All-drop, take-suc, take-append_seam, drop-append_seam, concat_map, any_append, Ihave, IHave, ihave_bytes, message_bytes, Intake, after_append, Note, note_at}
use Rattle.std.proofs.lemmas.List.{take-append-drop, map-append}
use Rattle.std.specs.List.{drop-map}
use Rattle.std.proofs.Math.Seq.{take_all}
use Rattle.storage.specs.Lists.Base.{any}
use Rattle.postcard.specs.Output.{ihave_head}
use Rattle.postcard.proofs.Listed.{ihave-listed}
use Rattle.wire.specs.Encode.Intake.{after}
use Rattle.announcements.specs.QueuedRows.{ihave_of, ihaves_at, RowsOf}

module _ (ns : List Note) (rows : List ℕ) where
  module _ (i : ℕ) (q : i < length rows) where
    abbrev x : Ihave
    x = ihave_of (note_at ns (get_or rows i 0))

    pub at-next : ihaves_at ns (take (i + 1) rows) ≡ ihaves_at ns (take i rows) ++ (x ∷ [])
    at-next =
        ap (λ (n : ℕ). ihaves_at ns (take n rows)) (add-one i) ∙ ap (ihaves_at ns) (take-suc rows i 0 q)
        ∙ map-append (λ (j : ℕ). ihave_of (note_at ns j)) (take i rows) (get_or rows i 0 ∷ [])

    rest : drop i rows ≡ get_or rows i 0 ∷ drop (i + 1) rows
    rest = drop-cons rows i 0 q ∙ ap (λ (n : ℕ). get_or rows i 0 ∷ drop n rows) (sym (add-one i))

    pub at-rest : ihaves_at ns (drop i rows) ≡ x ∷ ihaves_at ns (drop (i + 1) rows)
    at-rest = ap (ihaves_at ns) rest

    pub at-split : ihaves_at ns rows ≡ ihaves_at ns (take i rows) ++ (x ∷ ihaves_at ns (drop (i + 1) rows))
    at-split =
        ap (ihaves_at ns) (sym (take-append-drop i rows) ∙ ap (λ (l : List ℕ). take i rows ++ l) rest)
        ∙ map-append (λ (j : ℕ). ihave_of (note_at ns j)) (take i rows) (get_or rows i 0 ∷ drop (i + 1) rows)

    -- a test that none before passed
    module _ (test : Ihave → Bool) (none : any test (ihaves_at ns (take i rows)) ≡ false) where
      pub any-found : test x ≡ true → true ≡ any test (ihaves_at ns rows)
      unfolding any
      any-found e = sym (ap (any test) at-split ∙ any_append test (ihaves_at ns (take i rows)) (x ∷ ihaves_at ns (drop (i + 1) rows)) ∙ rw (none, e) refl)

      pub any-not : test x ≡ false → any test (ihaves_at ns (take (i + 1) rows)) ≡ false
      unfolding any
      any-not e = ap (any test) at-next ∙ any_append test (ihaves_at ns (take i rows)) (x ∷ []) ∙ rw (none, e) refl

  pub any-start : (test : Ihave → Bool) → any test (ihaves_at ns (take 0 rows)) ≡ false
  unfolding any
  any-start test = refl

  pub rest-end : (i : ℕ) → length rows ≤ i → ihaves_at ns (drop i rows) ≡ []
  rest-end i q = ap (ihaves_at ns) (drop_all i rows q)

-- an IHave by its beginning and its entries
module _ (hs : List Ihave) (count : ℕ) (counted : length hs ≡ count) (x : Intake) where
  whole : message_bytes (IHave hs) ≡ ihave_head count ++ concat_map ihave_bytes hs
  whole = ihave-listed hs count counted

  pub ihave-after : (y z : Intake) → y ≡ after (ihave_head count) x → z ≡ after (concat_map ihave_bytes hs) y → z ≡ after (message_bytes (IHave hs)) x
  ihave-after y z e k =
      k
      ∙ ap (after (concat_map ihave_bytes hs)) e
      ∙ after_append (ihave_head count) (concat_map ihave_bytes hs) x
      ∙ ap (λ (l : List ℕ). after l x) (sym whole)

-- a chunk of the rows, and those behind it
module _ (ns : List Note) (k : ℕ) (rows piece rest : List ℕ) (e : rows ≡ piece ++ rest) (long : length piece ≡ min k (length rows)) where
  parts : (b : Bool) → leb k (length rows) ≡ b → (take k rows ≡ piece) × (drop k rows ≡ rest)
  parts true t =
      let f : length piece ≡ k = omega (arith, long, leb-true k (length rows) t) in (
        ap (take k) e ∙ ap (λ (n : ℕ). take n (piece ++ rest)) (sym f) ∙ take-append_seam piece rest,
        ap (drop k) e ∙ ap (λ (n : ℕ). drop n (piece ++ rest)) (sym f) ∙ drop-append_seam piece rest,
      )
  parts false t =
      let w : length rows ≤ k = omega (arith, leb-false k (length rows) t) in
      let none : rest ≡ [] = nil_from_length rest (omega (arith, ap length e, length-append piece rest, long, w)) in
      (take_all k rows w ∙ e ∙ ap (λ (l : List ℕ). piece ++ l) none ∙ append-nil piece, drop_all k rows w ∙ sym none)

  pub piece-first : ihaves_at ns piece ≡ take k (ihaves_at ns rows)
  piece-first = ap (ihaves_at ns) (sym (parts (leb k (length rows)) refl).0) ∙ sym (take-map (λ (j : ℕ). ihave_of (note_at ns j)) k rows)

  pub piece-rest : ihaves_at ns rest ≡ drop k (ihaves_at ns rows)
  piece-rest = ap (ihaves_at ns) (sym (parts (leb k (length rows)) refl).1) ∙ sym (drop-map (λ (j : ℕ). ihave_of (note_at ns j)) k rows)

  pub piece-rows : RowsOf ns rows → RowsOf ns piece
  piece-rows r = All-same (λ i. i < length ns) piece (take k rows) (sym (parts (leb k (length rows)) refl).0) (All-take (λ i. i < length ns) k rows r)

  pub rest-rows : RowsOf ns rows → RowsOf ns rest
  rest-rows r = All-same (λ i. i < length ns) rest (drop k rows) (sym (parts (leb k (length rows)) refl).1) (All-drop (λ i. i < length ns) k rows r)

-- the send with this number is taken
pub later-than : (a b : ℕ) → ltb a b ≡ leb (a + 1) b
later-than a b = ap (λ (n : ℕ). leb n b) (sym (add-one a))

-- the rest, up to the end
pub to-end : (n : ℕ) (xs : List ℕ) → take (length xs - n) (drop n xs) ≡ drop n xs
to-end n xs = let w : length (drop n xs) ≤ length xs - n = omega (arith, length-drop n xs) in take_all (length xs - n) (drop n xs) w
