-- The record: how often a link number stands is how many notes its peer has, and numbers and identifiers that stand once are notes that do.
-- Assumes nothing.
use Rattle.whole.proofs.Words.{◌≡◌, refl, sym, ap, ◌∙◌, subst, ◌⊎◌, inl, inr, Bool, true, false, not, ◌&&◌, List, [], ◌∷◌, map, ℕ, zero, suc, ◌+◌, ◌*◌, ◌≤◌, ◌<◌, zero-le, suc-le-suc, le_of_suc-le-suc, not-suc-le-zero, add-zero, add-one, arith, ltb-true, le-leb, eqb-true, eq-eqb, ne_eqb, leb, ltb, eqb, lit<, length, take, drop, get_or, set, replicate, length-set, take-append-drop, take-suc, take_all, length-take-le, get_or-set_same, get_or-set_other, lt-leb, not-true, ascending, cases, true≢, and_left, and_right, and_intro, all_head, all_tail, at_all, part, be_nat, rows, part-part, length-rows, get_d_rows, below_of, Note, limits_of, peer_of, Fit, Head, count-peers, length-table}
use Rattle.storage.specs.Lists.Base.{all, any, count}
use Rattle.storage.specs.Lists.Map.{keys}
use Rattle.storage.proofs.ListsLaws.ListLaws.{all_map, count-append, count-length}
use Rattle.storage.proofs.RowsLaws.Ids.{tri}
use Rattle.storage.specs.Buckets.{Once, TellsOnce, id_at as note_id}
use Rattle.time_cache.proofs.CacheLaws.{eqb-sym}
use Rattle.protocol.specs.Links.{Links}
use Rattle.protocol.specs.Push.{for_peer, notes}
use Rattle.protocol.specs.Whole.{noted_once, record_within}
use Rattle.block.specs.View.{id_at, note_of, notes_in, state_of}
use Rattle.storage.specs.Refs.Numbers.{pairs, numbered}
use Rattle.block.specs.LinkSteps.{LinksAscend}
use Rattle.block.specs.NoteSteps.{note}
use Rattle.storage.proofs.RefsLaws.Numbered.{length-numbered, pairs-at}
use Rattle.whole.specs.Held.{all_below}
use Rattle.whole.specs.Parts.{table_of, few, record_whole}
use Rattle.whole.proofs.AllLaws.{and-true, all-not, cons-all}
use Rattle.whole.proofs.NumberLaws.{same-peer}
use Rattle.whole.proofs.HopLaws.{pairs-map}

-- how often a number stands among the first i
unfoldable pub times : ℕ → List ℕ → ℕ → ℕ
times k b i = count (eqb k) (take i b)

module _ (k : ℕ) (b : List ℕ) (i : ℕ) (h : i < length b) where
  next : times k b (i + 1) ≡ times k b i + count (eqb k) (get_or b i 0 ∷ [])
  unfolding times
  next =
      ap (λ (n : ℕ). count (eqb k) (take n b)) (add-one i)
      ∙ ap (count (eqb k)) (take-suc b i 0 h)
      ∙ count-append (eqb k) (take i b) (get_or b i 0 ∷ [])

  times-same : k ≡ get_or b i 0 → times k b (i + 1) ≡ times k b i + 1
  unfolding count
  times-same e =
      let one : count (eqb k) (get_or b i 0 ∷ []) ≡ 1 = rw (eq-eqb k (get_or b i 0) e) in
      next ∙ ap (λ (n : ℕ). times k b i + n) one

  times-other : (k ≡ get_or b i 0 → ⊥) → times k b (i + 1) ≡ times k b i
  unfolding count
  times-other e =
      let none : count (eqb k) (get_or b i 0 ∷ []) ≡ 0 = rw (ne_eqb k (get_or b i 0) e) in
      next ∙ ap (λ (n : ℕ). times k b i + n) none ∙ add-zero (times k b i)

times-within : (k : ℕ) (b : List ℕ) (i : ℕ) → times k b i ≤ count (eqb k) b
unfolding times
times-within k b i =
    let e : count (eqb k) b ≡ count (eqb k) (take i b) + count (eqb k) (drop i b) = ap (count (eqb k)) (sym (take-append-drop i b)) ∙ count-append (eqb k) (take i b) (drop i b) in
    omega arith

-- the counts of the first i numbers
pub record Counted (b counts : List ℕ) (i : ℕ) : Type 0 where
  pub each : (k : ℕ) → k < 32 → get_or counts k 0 ≡ times k b i
  pub most : (k : ℕ) → times k b i ≤ 256
  pub long : length counts ≡ 32

zeros : (n k : ℕ) → ◌≡◌ {A = ℕ} (get_or (replicate {A = ℕ} n 0) k 0) 0
zeros zero k = refl
zeros (suc n) zero = refl
zeros (suc n) (suc k) = zeros n k

pub counted_start : (b counts : List ℕ) → counts ≡ replicate {A = ℕ} 32 0 → Counted b counts 0
unfolding times count
counted_start b counts e = record {
  each = λ k h. ap (λ (l : List ℕ). get_or l k 0) e ∙ zeros 32 k;
  most = λ k. zero-le;
  long = ap length e;
}

module _ (b counts : List ℕ) (i k : ℕ) (c : Counted b counts i) (h : i < length b) (e : k ≡ get_or b i 0) (r : k < 32) where
  pub counted-more : get_or counts k 0 < 256 → Counted b (set counts k (get_or counts k 0 + 1)) (i + 1)
  counted-more g = record {
    each = λ j q. by-each j q (tri j k);
    most = λ j. by_most j (tri j k);
    long = length-set counts k (get_or counts k 0 + 1) ∙ c.long;
  }
    where
      other : (j : ℕ) → j < 32 → (j ≡ k → ⊥) → get_or (set counts k (get_or counts k 0 + 1)) j 0 ≡ times j b (i + 1)
      other j q n = get_or-set_other counts k j (get_or counts k 0 + 1) 0 n ∙ c.each j q ∙ sym (times-other j b i h (λ s. n (s ∙ sym e)))

      by-each : (j : ℕ) → j < 32 → (j < k) ⊎ ((j ≡ k) ⊎ (k < j)) → get_or (set counts k (get_or counts k 0 + 1)) j 0 ≡ times j b (i + 1)
      by-each j q (inl s) = other j q (λ t. omega arith)
      by-each j q (inr (inl s)) =
          ap (λ (n : ℕ). get_or (set counts k (get_or counts k 0 + 1)) n 0) s
          ∙ get_or-set_same counts k (get_or counts k 0 + 1) 0 (omega (arith, c.long))
          ∙ ap (λ (n : ℕ). n + 1) (c.each k r)
          ∙ sym (times-same k b i h e)
          ∙ ap (λ (n : ℕ). times n b (i + 1)) (sym s)
      by-each j q (inr (inr s)) = other j q (λ t. omega arith)

      by_most : (j : ℕ) → (j < k) ⊎ ((j ≡ k) ⊎ (k < j)) → times j b (i + 1) ≤ 256
      by_most j (inl s) = omega (arith, c.most j, times-other j b i h (λ t. omega arith))
      by_most j (inr (inl s)) = omega (arith, times-same k b i h e, c.each k r, ap (λ (n : ℕ). times n b (i + 1)) s)
      by_most j (inr (inr s)) = omega (arith, c.most j, times-other j b i h (λ t. omega arith))

  -- a number that stands once too often
  pub counted-over : 256 ≤ get_or counts k 0 → false ≡ few b
  unfolding few
  counted-over g =
      all-not (λ j. leb (count (eqb j) b) 256) b i 0 h
      (subst (λ (n : ℕ). leb (count (eqb n) b) 256 ≡ false) e
      (lt-leb (count (eqb k) b) 256 (omega (arith, times-within k b (i + 1), times-same k b i h e, c.each k r))))

pub counted-done : (b counts : List ℕ) (i : ℕ) → Counted b counts i → length b ≤ i → true ≡ few b
unfolding few times
counted-done b counts i c h =
    sym (at_all (λ k. leb (count (eqb k) b) 256) 0 b
    (λ j l. le-leb (count (eqb (get_or b j 0)) b) 256 (omega (arith, c.most (get_or b j 0), ap (count (eqb (get_or b j 0))) (take_all i b h)))))

-- a short list needs no counts
pub few-short : (b : List ℕ) → length b ≤ 256 → true ≡ few b
unfolding few
few-short b h = sym (at_all (λ k. leb (count (eqb k) b) 256) 0 b (λ j l. le-leb (count (eqb (get_or b j 0)) b) 256 (omega (arith, count-length (eqb (get_or b j 0)) b))))

-- a test of every element by another that agrees with it there
all_same : {A : Type 0} (f g : A → Bool) (d : A) (l : List A) → ((i : ℕ) → i < length l → f (get_or l i d) ≡ g (get_or l i d)) → all f l ≡ all g l
unfolding all
all_same f g d [] e = refl
all_same f g d (x ∷ l) e = cons-all f x l ∙ (λ k. e 0 (suc-le-suc zero-le) k && all_same f g d l (λ i q. e (suc i) (suc-le-suc q)) k) ∙ sym (cons-all g x l)

count_map : {A B : Type 0} (f : B → Bool) (g : A → B) (l : List A) → count f (map g l) ≡ count (λ x. f (g x)) l
unfolding count
count_map f g [] = refl
count_map f g (x ∷ l) = cases (f (g x)) (λ p. rw p (ap suc (count_map f g l))) (λ p. rw p (count_map f g l))

-- no peer has more than 256 notes
at_most : List ℕ → Bool
at_most qs = all (λ p. leb (count (λ q. eqb q p) qs) 256) qs

notes-at-most : (ds : List Note) → all (λ d. leb (count (for_peer d.peer) ds) 256) ds ≡ at_most (map (λ d. d.peer) ds)
unfolding at_most
notes-at-most ds =
    all_same (λ d. leb (count (for_peer d.peer) ds) 256) (λ d. leb (count (λ q. eqb q d.peer) (map (λ e. e.peer) ds)) 256) (note 0 0 0) ds
    (λ i h. ap (λ (n : ℕ). leb n 256) (sym (count_map (λ q. eqb q (get_or ds i (note 0 0 0)).peer) (λ (e : Note). e.peer) ds)))
    ∙ sym (all_map (λ p. leb (count (λ q. eqb q p) (map (λ (e : Note). e.peer) ds)) 256) (λ (e : Note). e.peer) ds)

module _ (l : Links) (up : ascending (keys l) ≡ true) where
  abbrev ps : List ℕ
  ps = keys l

  count_same : (k : ℕ) (ns : List ℕ) → k < length ps → all_below (length ps) ns ≡ true → count (λ q. eqb q (peer_of ps k)) (map (peer_of ps) ns) ≡ count (eqb k) ns
  unfolding count
  count_same k [] h b = refl
  count_same k (n ∷ ns) h b =
      let low : n < length ps = ltb-true n (length ps) (all_head (λ j. ltb j (length ps)) n ns b) in
      let rest : count (λ q. eqb q (peer_of ps k)) (map (peer_of ps) ns) ≡ count (eqb k) ns = count_same k ns h (all_tail (λ j. ltb j (length ps)) n ns b) in
      rw (same-peer l up n k low h ∙ eqb-sym n k) (cases (eqb k n) (λ p. rw p (ap suc rest)) (λ p. rw p rest))

  peers-at-most : (ns : List ℕ) → all_below (length ps) ns ≡ true → at_most (map (peer_of ps) ns) ≡ few ns
  unfolding at_most few
  peers-at-most ns b =
      all_map (λ p. leb (count (λ q. eqb q p) (map (peer_of ps) ns)) 256) (peer_of ps) ns
      ∙ all_same (λ k. leb (count (λ q. eqb q (peer_of ps k)) (map (peer_of ps) ns)) 256) (λ k. leb (count (eqb k) ns) 256) 0 ns
      (λ i h. ap (λ (n : ℕ). leb n 256) (count_same (get_or ns i 0) ns ((below_of (length ps) ns b).below i h) b))

-- no two notes have the same peer and identifier, by the places
pub record Apart (ds : List Note) : Type 0 where
  pub apart : (p q : ℕ) → p < q → q < length ds
      → (get_or ds p (note 0 0 0)).peer ≡ (get_or ds q (note 0 0 0)).peer → (get_or ds p (note 0 0 0)).id ≡ (get_or ds q (note 0 0 0)).id → ⊥

any-not : {A : Type 0} (f : A → Bool) (d : A) (l : List A) → ((i : ℕ) → i < length l → f (get_or l i d) ≡ false) → any f l ≡ false
unfolding any
any-not f d [] e = refl
any-not f d (x ∷ l) e = rw (e 0 (suc-le-suc zero-le)) (any-not f d l (λ i q. e (suc i) (suc-le-suc q)))

not-any : {A : Type 0} (f : A → Bool) (d : A) (l : List A) → any f l ≡ false → (i : ℕ) → i < length l → f (get_or l i d) ≡ false
unfolding any
not-any f d [] e i h = absurd (not-suc-le-zero h)
not-any f d (x ∷ l) e zero h = cases (f x) (λ p. true≢ (sym (rw p at e))) (λ p. p)
not-any f d (x ∷ l) e (suc i) h = cases (f x) (λ p. true≢ (sym (rw p at e))) (λ p. not-any f d l (rw p at e) i (le_of_suc-le-suc h))

apart-one : (d e : Note) → (d.peer ≡ e.peer → d.id ≡ e.id → ⊥) → notes d.peer d.id e ≡ false
apart-one d e n =
    cases (notes d.peer d.id e)
    (λ p. absurd (n (sym (eqb-true e.peer d.peer (and_left (eqb e.peer d.peer) (eqb e.id d.id) p)))
    (sym (eqb-true e.id d.id (and_right (eqb e.peer d.peer) (eqb e.id d.id) p)))))
    (λ p. p)

one_apart : (d e : Note) → notes d.peer d.id e ≡ false → d.peer ≡ e.peer → d.id ≡ e.id → ⊥
one_apart d e n p i = true≢ (sym n ∙ and_intro (eq-eqb e.peer d.peer (sym p)) (eq-eqb e.id d.id (sym i)))

noted_of : (ds : List Note) → Apart ds → noted_once ds ≡ true
unfolding noted_once
noted_of [] a = refl
noted_of (d ∷ ds) a =
    and_intro
    (ap not (any-not (notes d.peer d.id) (note 0 0 0) ds (λ i h. apart-one d (get_or ds i (note 0 0 0)) (a.apart 0 (suc i) (suc-le-suc zero-le) (suc-le-suc h)))))
    (noted_of ds (record { apart = λ p q h l. a.apart (suc p) (suc q) (suc-le-suc h) (suc-le-suc l) }))

of-noted : (ds : List Note) → noted_once ds ≡ true → Apart ds
unfolding noted_once
of-noted [] n = record { apart = λ p q h l e g. not-suc-le-zero l }
of-noted (d ∷ ds) n = record { apart = go (of-noted ds (and_right (not (any (notes d.peer d.id) ds)) (noted_once ds) n)) }
  where
    none : any (notes d.peer d.id) ds ≡ false
    none = not-true (any (notes d.peer d.id) ds) (and_left (not (any (notes d.peer d.id) ds)) (noted_once ds) n)

    go : Apart ds → (p q : ℕ) → p < q → q < suc (length ds)
        → (get_or (d ∷ ds) p (note 0 0 0)).peer ≡ (get_or (d ∷ ds) q (note 0 0 0)).peer → (get_or (d ∷ ds) p (note 0 0 0)).id ≡ (get_or (d ∷ ds) q (note 0 0 0)).id → ⊥
    go rest p zero l m e g = not-suc-le-zero l
    go rest zero (suc q) l m e g = one_apart d (get_or ds q (note 0 0 0)) (not-any (notes d.peer d.id) (note 0 0 0) ds none q (le_of_suc-le-suc m)) e g
    go rest (suc p) (suc q) l m e g = rest.apart p q (le_of_suc-le-suc l) (le_of_suc-le-suc m) e g

-- the identifier of row i
note-id : (n i : ℕ) (b : List ℕ) → i < n → note_id b i ≡ id_at 0 (get_or (rows 34 n b) i [])
unfolding note_id id_at
note-id n i b h =
    let z : i * 34 + 0 ≡ i * 34 = add-zero (i * 34) in
    ap be_nat (ap (λ (a : ℕ). part a 32 b) (sym z) ∙ sym (part-part 0 32 (i * 34) 34 b (omega arith)) ∙ ap (part 0 32) (sym (get_d_rows 34 n i [] b h)))

module _ (h : Head) (xs : List ℕ) (fit : Fit h xs) (up : LinksAscend h xs) where
  abbrev ls : Links
  ls = (state_of h xs).links

  abbrev n : ℕ
  n = h.live.dropped

  abbrev ns : List ℕ
  ns = take n (table_of h 13 xs)

  abbrev rs : List (List ℕ)
  rs = rows 34 n (table_of h 14 xs)

  abbrev ds : List Note
  ds = (state_of h xs).dropped

  numbers-length : length ns ≡ n
  numbers-length = length-take-le n (table_of h 13 xs) (omega (arith, fit.within.dropped, length-table (limits_of h.limits) 13 xs (lit< tt) fit.long))

  record-count : length ds ≡ n
  unfolding state_of notes_in
  record-count =
      length-numbered (note_of (keys ls)) 34 n (table_of h 13 xs) (table_of h 14 xs) (omega (arith, fit.within.dropped, length-table (limits_of h.limits) 13 xs (lit< tt) fit.long))

  record-peers : map (λ d. d.peer) ds ≡ map (peer_of (keys ls)) ns
  unfolding state_of notes_in numbered note_of
  record-peers =
      pairs-map (note_of (keys ls)) (λ (d : Note). d.peer) (peer_of (keys ls)) (λ k r. refl) ns rs (omega (arith, numbers-length, length-rows 34 n (table_of h 14 xs)))

  module _ (b : all_below h.live.links ns ≡ true) where
    low : all_below (length (keys ls)) ns ≡ true
    low = subst (λ (m : ℕ). all_below m ns ≡ true) (sym (count-peers h xs)) b

    -- "records within 256 and 4,096"
    pub record-few : few ns ≡ record_within ds
    unfolding record_within
    record-few =
        let long : leb (length ds) 4096 ≡ true = le-leb (length ds) 4096 (omega (arith, record-count, fit.within.dropped, fit.ceilings.D)) in
        sym ((λ k. notes-at-most ds k && long k)
        ∙ and-true (at_most (map (λ d. d.peer) ds))
        ∙ ap at_most record-peers
        ∙ peers-at-most ls up ns low)

    -- note i
    note-at : (i : ℕ) → i < n → get_or ds i (note 0 0 0) ≡ note_of (keys ls) (get_or ns i 0) (get_or rs i [])
    unfolding state_of notes_in numbered
    note-at i q = pairs-at (note_of (keys ls)) ns rs i (note 0 0 0) (omega (arith, numbers-length)) (omega (arith, length-rows 34 n (table_of h 14 xs)))

    peer-at : (i : ℕ) → i < n → (get_or ds i (note 0 0 0)).peer ≡ peer_of (keys ls) (get_or ns i 0)
    unfolding note_of
    peer-at i q = ap (λ (d : Note). d.peer) (note-at i q)

    id-at : (i : ℕ) → i < n → (get_or ds i (note 0 0 0)).id ≡ id_at 0 (get_or rs i [])
    unfolding note_of
    id-at i q = ap (λ (d : Note). d.id) (note-at i q)

    number-low : (i : ℕ) → i < n → get_or ns i 0 < length (keys ls)
    number-low i q = (below_of (length (keys ls)) ns low).below i (omega (arith, numbers-length))

    module _ (bytes : List ℕ) (e : rows 34 n bytes ≡ rs) where
      same_id : (i : ℕ) → i < n → note_id bytes i ≡ (get_or ds i (note 0 0 0)).id
      same_id i q = note-id n i bytes q ∙ ap (λ (t : List (List ℕ)). id_at 0 (get_or t i [])) e ∙ sym (id-at i q)

      once-apart : Once ns bytes n → Apart ds
      once-apart o = record { apart = go }
        where
          go : (p q : ℕ) → p < q → q < length ds → (get_or ds p (note 0 0 0)).peer ≡ (get_or ds q (note 0 0 0)).peer → (get_or ds p (note 0 0 0)).id ≡ (get_or ds q (note 0 0 0)).id → ⊥
          go p q l m a d =
              let hq : q < n = omega (arith, record-count) in
              let hp : p < n = omega arith in
              let peers : peer_of (keys ls) (get_or ns p 0) ≡ peer_of (keys ls) (get_or ns q 0) = sym (peer-at p hp) ∙ a ∙ peer-at q hq in
              let number : get_or ns p 0 ≡ get_or ns q 0 = eqb-true (get_or ns p 0) (get_or ns q 0)
              (sym (same-peer ls up (get_or ns p 0) (get_or ns q 0) (number-low p hp) (number-low q hq)) ∙ eq-eqb (peer_of (keys ls) (get_or ns p 0)) (peer_of (keys ls) (get_or ns q 0)) peers) in
              o.once p q l hq number (same_id p hp ∙ d ∙ sym (same_id q hq))

      apart-once : Apart ds → Once ns bytes n
      apart-once a = record { once = go }
        where
          go : (p q : ℕ) → p < q → q < n → get_or ns p 0 ≡ get_or ns q 0 → note_id bytes p ≡ note_id bytes q → ⊥
          go p q l m d i =
              let hp : p < n = omega arith in
              a.apart p q l (omega (arith, record-count)) (peer-at p hp ∙ ap (peer_of (keys ls)) d ∙ sym (peer-at q m)) (sym (same_id p hp) ∙ i ∙ same_id q m)

      -- "once per identifier among .. dropped"
      pub record-once : (r : Bool) → TellsOnce ns bytes n r → r ≡ noted_once ds
      record-once true o = sym (noted_of ds (once-apart o))
      record-once false o = cases (noted_once ds) (λ p. absurd (o (apart-once (of-noted ds p)))) (λ p. sym p)

-- an empty record
empty : (m : ℕ) (ps c b : List ℕ) → true ≡ (all_below m (take 0 c) && record_within (notes_in ps 0 c b) && noted_once (notes_in ps 0 c b))
unfolding notes_in numbered pairs record_within noted_once all
empty m ps c b = refl

pub record-none : (h : Head) (xs : List ℕ) → h.live.dropped ≡ 0 → true ≡ record_whole h xs
unfolding record_whole state_of
record-none h xs e =
    subst (λ (d : ℕ). true ≡ (all_below h.live.links (take d (table_of h 13 xs)) && record_within (notes_in (keys (state_of h xs).links) d (table_of h 13 xs) (table_of h 14 xs))
    && noted_once (notes_in (keys (state_of h xs).links) d (table_of h 13 xs) (table_of h 14 xs)))) (sym e)
    (empty h.live.links (keys (state_of h xs).links) (table_of h 13 xs) (table_of h 14 xs))
