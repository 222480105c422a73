-- What one link hands back is noted, row by row.
-- Assumes nothing.
use Rattle.announcements.proofs.Words.{◌≡◌, ℕ, ◌+◌, ◌-◌, ◌<◌, ◌≤◌, length, sym, ◌∙◌, ap, refl, arith, Bool, true, false, not, ◌&&◌, ◌||◌, List, [], ◌∷◌, ◌++◌, get_or, set, take, drop, append_assoc, All, if◌then◌else◌, ◌⊎◌, inl, inr, length-append, leb, eqb, eqb-true, eq-eqb, ne_eqb, drop_all, All-push, All-weaker, All-head, All-tail, cases, any_append, any-one, or_cases, count-append, length-filter, Ihave, Note, for_peer, notes, note_at}
use Rattle.std.proofs.lemmas.List.{length-map, map-append, take-append-drop}
use Rattle.storage.specs.Lists.Base.{any, count, filter}
use Rattle.protocol.specs.Push.{record_full}
use Rattle.protocol.specs.Ticks.{queued_for}
use Rattle.decide.specs.RecordGrowth.{add_note, add_notes}
use Rattle.announcements.specs.Marks.{place_of, Covers}
use Rattle.announcements.specs.QueuedRows.{ihave_of, ihaves_at, notes_at, among, RowsOf}
use Rattle.announcements.proofs.OnDispatchLaws.MarkLaws.{covers_more}
use Rattle.announcements.proofs.OnDispatchLaws.QueueLaws.{notes-append, notes-one, notes-none, drop-late}
use Rattle.announcements.proofs.OnDispatchLaws.RowLaws.{at-next}

-- one identifier
module _ (held : ℕ → Bool) (p : ℕ) (h : Ihave) (ds : List Note) where
  abbrev one : Note
  one = record { peer = p; id = h.id; round = h.round }

  note-full : record_full p ds ≡ true → add_note held p h ds ≡ ds
  unfolding add_note
  note-full e = rw e refl

  pub note-there : any (notes p h.id) ds ≡ true → add_note held p h ds ≡ ds
  unfolding add_note
  note-there e = ap (λ (b : Bool). if not (record_full p ds) && held h.id && not b then ds ++ (one ∷ []) else ds) e ∙ by (record_full p ds) (held h.id)
    where
      by : (a b : Bool) → (if not a && b && not true then ds ++ (one ∷ []) else ds) ≡ ds
      by true b = refl
      by false true = refl
      by false false = refl

  pub note-not-held : held h.id ≡ false → add_note held p h ds ≡ ds
  unfolding add_note
  note-not-held e = ap (λ (b : Bool). if not (record_full p ds) && b && not (any (notes p h.id) ds) then ds ++ (one ∷ []) else ds) e ∙ by (record_full p ds)
    where
      by : (a : Bool) → (if not a && false && not (any (notes p h.id) ds) then ds ++ (one ∷ []) else ds) ≡ ds
      by true = refl
      by false = refl

  pub note-new : record_full p ds ≡ false → held h.id ≡ true → any (notes p h.id) ds ≡ false → add_note held p h ds ≡ ds ++ (one ∷ [])
  unfolding add_note
  note-new e f g = rw (e, f, g) refl

-- a full record stays
pub all-full : (held : ℕ → Bool) (p : ℕ) (hs : List Ihave) (ds : List Note) → record_full p ds ≡ true → add_notes held p hs ds ≡ ds
unfolding add_notes
all-full held p [] ds e = refl
all-full held p (h ∷ hs) ds e = ap (add_notes held p hs) (note-full held p h ds e) ∙ all-full held p hs ds e

pub full-is : (p own all : ℕ) (ds : List Note) → own ≡ count (for_peer p) ds → all ≡ length ds → (leb 256 own || leb 4096 all) ≡ record_full p ds
unfolding record_full
full-is p own all ds e f = λ i. leb 256 (e i) || leb 4096 (f i)

-- of the record's notes for a peer
pub recorded-among : (p id : ℕ) (ns : List Note) → any (notes p id) ns ≡ among id (queued_for p ns)
unfolding any queued_for filter
recorded-among p id [] = refl
recorded-among p id (n ∷ ns) =
    cases (eqb n.peer p)
    (λ t. rw t (ap (λ (b : Bool). if eqb n.id id then true else b) (recorded-among p id ns)))
    (λ t. rw t (recorded-among p id ns))

pub recorded-count : (p : ℕ) (ns : List Note) → count (for_peer p) ns ≡ length (queued_for p ns)
unfolding queued_for
recorded-count p ns = sym (length-map (filter (for_peer p) ns) ihave_of ∙ length-filter (for_peer p) ns)

-- notes for peers below
pub others-count : (p : ℕ) (ns : List Note) (rows : List ℕ) → All (λ i. (note_at ns i).peer < p) rows → count (for_peer p) (notes_at ns rows) ≡ 0
unfolding count
others-count p ns [] a = refl
others-count p ns (r ∷ rows) a =
    let q : (note_at ns r).peer < p = All-head (λ i. (note_at ns i).peer < p) r rows a in
    rw (ne_eqb (note_at ns r).peer p (λ e. omega (arith, e, q))) (others-count p ns rows (All-tail (λ i. (note_at ns i).peer < p) r rows a))

pub others-known : (p id : ℕ) (ns : List Note) (rows : List ℕ) → All (λ i. (note_at ns i).peer < p) rows → any (notes p id) (notes_at ns rows) ≡ false
unfolding any
others-known p id ns [] a = refl
others-known p id ns (r ∷ rows) a =
    let q : (note_at ns r).peer < p = All-head (λ i. (note_at ns i).peer < p) r rows a in
    rw (ne_eqb (note_at ns r).peer p (λ e. omega (arith, e, q))) (others-known p id ns rows (All-tail (λ i. (note_at ns i).peer < p) r rows a))

or-assoc : (a b c : Bool) → ((a || b) || c) ≡ (a || (b || c))
or-assoc true b c = refl
or-assoc false b c = refl

or-none : (a : Bool) → (a || false) ≡ a
or-none true = refl
or-none false = refl

-- what the record and the rows that are noted hold for a peer: `before` of these rows are for other peers
module _ (p : ℕ) (ds ns : List Note) (recorded : List ℕ) (before : ℕ) where
  abbrev pub known : List ℕ → ℕ → Bool
  known rows id = among id (ihaves_at ds recorded) || among id (ihaves_at ns (drop before rows))

  abbrev pub grown : List ℕ → List Note
  grown rows = ds ++ notes_at ns rows

  pub known-start : (rows : List ℕ) → before ≡ length rows → (id : ℕ) → known rows id ≡ true → among id (ihaves_at ds recorded) ≡ true
  unfolding any
  known-start rows e id k = sym (ap (λ (l : List ℕ). among id (ihaves_at ds recorded) || among id (ihaves_at ns l)) (drop_all before rows (omega (arith, e))) ∙ or-none (among id (ihaves_at ds recorded))) ∙ k

  pub record Holding (rows : List ℕ) : Type 0 where
    pub count : count (for_peer p) (grown rows) ≡ length recorded + (length rows - before)
    pub longer : before ≤ length rows
    pub known : (id : ℕ) → any (notes p id) (grown rows) ≡ known rows id
    pub among : RowsOf ns rows
    pub upto : All (λ i. (note_at ns i).peer ≤ p) rows

  module _ (rows : List ℕ) (e : before ≡ length rows) (mine : ihaves_at ds recorded ≡ queued_for p ds) (there : RowsOf ns rows) (below : All (λ i. (note_at ns i).peer < p) rows) where
    pub holding-start : Holding rows
    unfolding any
    holding-start = record {
      count = count-append (for_peer p) ds (notes_at ns rows)
          ∙ omega (arith, recorded-count p ds, ap length mine, length-map recorded (λ (i : ℕ). ihave_of (note_at ds i)), others-count p ns rows below, e);
      longer = omega (arith, e);
      known = λ id.
          any_append (notes p id) ds (notes_at ns rows)
          ∙ (λ i. recorded-among p id ds i || others-known p id ns rows below i)
          ∙ (λ i. among id (sym mine i) || among id (ihaves_at ns (sym (drop_all before rows (omega (arith, e))) i)));
      among = there;
      upto = All-weaker (λ i. (note_at ns i).peer < p) (λ i. (note_at ns i).peer ≤ p) (λ i q. omega (arith, q)) rows below;
    }

  module _ (rows : List ℕ) (h : Holding rows) (r : ℕ) (q : r < length ns) (own : (note_at ns r).peer ≡ p) where
    abbrev x : Note
    x = note_at ns r

    grown-next : grown (rows ++ (r ∷ [])) ≡ grown rows ++ (x ∷ [])
    grown-next = ap (λ (l : List Note). ds ++ l) (map-append (note_at ns) rows (r ∷ [])) ∙ sym (append_assoc ds (notes_at ns rows) (x ∷ []))

    count-one : count (for_peer p) (x ∷ []) ≡ 1
    unfolding count
    count-one = rw (eq-eqb x.peer p own) refl

    known-one : (id : ℕ) → any (notes p id) (x ∷ []) ≡ among id (ihave_of x ∷ [])
    unfolding any
    known-one id = rw (eq-eqb x.peer p own) refl

    rest-next : ihaves_at ns (drop before (rows ++ (r ∷ []))) ≡ ihaves_at ns (drop before rows) ++ (ihave_of x ∷ [])
    rest-next = ap (ihaves_at ns) (drop-late before rows r h.longer) ∙ map-append (λ (j : ℕ). ihave_of (note_at ns j)) (drop before rows) (r ∷ [])

    pub known-next : (id : ℕ) → known (rows ++ (r ∷ [])) id ≡ (known rows id || among id (ihave_of x ∷ []))
    known-next id =
        ap (λ (hs : List Ihave). among id (ihaves_at ds recorded) || among id hs) rest-next
        ∙ ap (λ (b : Bool). among id (ihaves_at ds recorded) || b) (any_append (λ (y : Ihave). eqb y.id id) (ihaves_at ns (drop before rows)) (ihave_of x ∷ []))
        ∙ sym (or-assoc (among id (ihaves_at ds recorded)) (among id (ihaves_at ns (drop before rows))) (among id (ihave_of x ∷ [])))

    pub holding-next : Holding (rows ++ (r ∷ []))
    holding-next = record {
      count = ap (count (for_peer p)) grown-next ∙ count-append (for_peer p) (grown rows) (x ∷ []) ∙ omega (arith, h.count, count-one, h.longer, length-append rows (r ∷ []));
      longer = omega (arith, h.longer, length-append rows (r ∷ []));
      known = λ id. ap (any (notes p id)) grown-next ∙ any_append (notes p id) (grown rows) (x ∷ []) ∙ (λ i. h.known id i || known-one id i) ∙ sym (known-next id);
      among = All-push (λ i. i < length ns) rows r h.among q;
      upto = All-push (λ i. (note_at ns i).peer ≤ p) rows r h.upto (omega (arith, own));
    }

    -- and its mark
    pub marked-next : {m mark : ℕ} {marks : List ℕ} → Covers m (known rows) mark marks → Covers m (known (rows ++ (r ∷ []))) mark (set marks (place_of m x.id) mark)
    marked-next c = covers_more c x.id (known (rows ++ (r ∷ []))) (λ j k. by (or_cases (known rows j) (among j (ihave_of x ∷ [])) (sym (known-next j) ∙ k)))
      where
        by : {j : ℕ} → (known rows j ≡ true) ⊎ (among j (ihave_of x ∷ []) ≡ true) → (known rows j ≡ true) ⊎ (j ≡ x.id)
        by (inl a) = inl a
        by {j} (inr b) = inr (sym (eqb-true x.id j (sym (any-one (λ (y : Ihave). eqb y.id j) (ihave_of x)) ∙ b)))

    -- noted
    module _ (held : ℕ → Bool) where
      pub grown-noted : record_full p (grown rows) ≡ false → held x.id ≡ true → known rows x.id ≡ false → add_note held p (ihave_of x) (grown rows) ≡ grown (rows ++ (r ∷ []))
      grown-noted f e k =
          note-new held p (ihave_of x) (grown rows) f e (h.known x.id ∙ k)
          ∙ ap (λ (n : ℕ). grown rows ++ (record { peer = n; id = x.id; round = x.round } ∷ [])) (sym own)
          ∙ sym grown-next

      pub grown-there : known rows x.id ≡ true → add_note held p (ihave_of x) (grown rows) ≡ grown rows
      grown-there k = note-there held p (ihave_of x) (grown rows) (h.known x.id ∙ k)

  -- row by row
  module _ (held : ℕ → Bool) (back : List ℕ) (start : List Note) where
    abbrev pub Sofar : ℕ → List ℕ → Type 0
    Sofar i rows = add_notes held p (ihaves_at ns (take i back)) start ≡ grown rows

    pub sofar-start : (rows : List ℕ) → start ≡ grown rows → Sofar 0 rows
    sofar-start rows e = notes-none held p start ∙ e

    pub sofar-next : (i : ℕ) (rows rows' : List ℕ) → i < length back → Sofar i rows → add_note held p (ihave_of (note_at ns (get_or back i 0))) (grown rows) ≡ grown rows' → Sofar (i + 1) rows'
    sofar-next i rows rows' q so e =
        ap (λ (hs : List Ihave). add_notes held p hs start) (at-next ns back i q)
        ∙ notes-append held p (ihaves_at ns (take i back)) (ihave_of (note_at ns (get_or back i 0)) ∷ []) start
        ∙ notes-one held p (ihave_of (note_at ns (get_or back i 0))) (add_notes held p (ihaves_at ns (take i back)) start)
        ∙ ap (add_note held p (ihave_of (note_at ns (get_or back i 0)))) so
        ∙ e

    pub sofar-full : (i : ℕ) (rows : List ℕ) → Sofar i rows → record_full p (grown rows) ≡ true → add_notes held p (ihaves_at ns back) start ≡ grown rows
    sofar-full i rows so f =
        ap (λ (l : List ℕ). add_notes held p (ihaves_at ns l) start) (sym (take-append-drop i back))
        ∙ ap (λ (hs : List Ihave). add_notes held p hs start) (map-append (λ (j : ℕ). ihave_of (note_at ns j)) (take i back) (drop i back))
        ∙ notes-append held p (ihaves_at ns (take i back)) (ihaves_at ns (drop i back)) start
        ∙ ap (add_notes held p (ihaves_at ns (drop i back))) so
        ∙ all-full held p (ihaves_at ns (drop i back)) (grown rows) f
