-- Lists of link numbers and rounds: the tests of the numbers are those of the announcers and of the grafted peers.
-- Assumes nothing.
use Rattle.whole.proofs.Words.{◌≡◌, refl, sym, ap, ◌∙◌, subst, Bool, true, not, ◌&&◌, List, [], ◌∷◌, map, ℕ, zero, suc, ◌*◌, ◌≤◌, ◌<◌, zero-le, suc-le-suc, le_of_suc-le-suc, not-suc-le-zero, arith, leb-true, lt-ltb, le-ltb, leb, ltb, lit<, length, take, drop, get_or, length-drop, drop-drop, is_empty, all, ascending, once, Entry, and_left, and_right, rows, length_part, length-rows, get_d_rows, row-end, ExpiryRow, expiry_rows, entry_of, Hop, neighbours, limits_of, byte_at, peer_of, Fit, Head, count-peers, length-table}
use Rattle.storage.specs.Lists.Map.{keys}
use Rattle.storage.proofs.ListsLaws.ListLaws.{all_map}
use Rattle.storage.specs.Refs.Refs.{ref_of, refs}
use Rattle.time_cache.specs.Tables.{cache_of}
use Rattle.protocol.specs.Links.{Links}
use Rattle.protocol.specs.Whole.{announcers_whole, grafts_whole}
use Rattle.block.specs.View.{hops_in, hop_of, hops_of, missed_of, missing_in, round_of, grafts_of, grafted_in, state_of}
use Rattle.storage.specs.Refs.Numbers.{pairs, numbered}
use Rattle.block.specs.LinkSteps.{LinksAscend}
use Rattle.storage.proofs.RefsLaws.Numbered.{length-numbered}
use Rattle.whole.specs.Held.{all_below, numbers_name, all_lists}
use Rattle.whole.specs.Parts.{table_of, graft_list, missed_list}
use Rattle.whole.proofs.AllLaws.{and-true, all_both, both-same}
use Rattle.whole.proofs.NumberLaws.{peers-neighbours, peers-ascend, peers-once}

-- what is read off a number and a row beside it, and comes from the number alone
pub pairs-map : {A B : Type 0} (f : ℕ → List ℕ → A) (g : A → B) (p : ℕ → B) → ((n : ℕ) (row : List ℕ) → g (f n row) ≡ p n)
    → (ns : List ℕ) (rs : List (List ℕ)) → length ns ≤ length rs → map g (pairs f ns rs) ≡ map p ns
unfolding pairs
pairs-map f g p e [] rs h = refl
pairs-map f g p e (n ∷ ns) [] h = absurd (not-suc-le-zero h)
pairs-map f g p e (n ∷ ns) (r ∷ rs) h = λ k. e n r k ∷ pairs-map f g p e ns rs (le_of_suc-le-suc h) k

pub take-few : (n : ℕ) (xs : List ℕ) → length (take n xs) ≤ n
take-few zero xs = zero-le
take-few (suc n) [] = zero-le
take-few (suc n) (x ∷ xs) = suc-le-suc (take-few n xs)

-- the numbers of a list that are in use
abbrev pub numbers_of : List ℕ → List ℕ
numbers_of list = take (byte_at 0 list) (drop 1 list)

hops-map : {A B : Type 0} (f : ℕ → List ℕ → A) (g : A → B) (p : ℕ → B) → ((n : ℕ) (row : List ℕ) → g (f n row) ≡ p n)
    → (list : List ℕ) → map g (hops_in f list) ≡ map p (numbers_of list)
unfolding hops_in numbered
hops-map f g p e list =
    pairs-map f g p e (numbers_of list) (rows 2 (byte_at 0 list) (drop 33 list))
    (omega (arith, take-few (byte_at 0 list) (drop 1 list), length-rows 2 (byte_at 0 list) (drop 33 list)))

-- there are as many as the count says
empty-length : {A : Type 0} (xs : List A) → not (is_empty xs) ≡ ltb 0 (length xs)
empty-length [] = sym (le-ltb 0 0 (omega arith))
empty-length (x ∷ xs) = sym (lt-ltb 0 (suc (length xs)) (omega arith))

hops-some : {A : Type 0} (f : ℕ → List ℕ → A) (list : List ℕ) → length list ≡ 97 → byte_at 0 list ≤ 32 → not (is_empty (hops_in f list)) ≡ ltb 0 (byte_at 0 list)
unfolding hops_in
hops-some f list e h =
    empty-length (numbered f 2 (byte_at 0 list) (drop 1 list) (drop 33 list))
    ∙ ap (ltb 0) (length-numbered f 2 (byte_at 0 list) (drop 1 list) (drop 33 list) (omega (arith, length-drop 1 list)))

few-of : (m : ℕ) (list : List ℕ) → numbers_name m list ≡ true → byte_at 0 list ≤ 32
unfolding numbers_name
few-of m list h = leb-true (byte_at 0 list) 32 (and_left (leb (byte_at 0 list) 32) (all_below m (numbers_of list)) h)

low_of : (m : ℕ) (list : List ℕ) → numbers_name m list ≡ true → all_below m (numbers_of list) ≡ true
unfolding numbers_name
low_of m list h = and_right (leb (byte_at 0 list) 32) (all_below m (numbers_of list)) h

module _ (l : Links) (up : ascending (keys l) ≡ true) where
  abbrev ps : List ℕ
  ps = keys l

  -- a grafted entry
  module _ (rs : List ExpiryRow) (row : List ℕ) where
    grafted-keys : keys (entry_of (grafts_of ps) rs (ref_of row)).value.value.peers ≡ map (peer_of ps) (numbers_of (drop 22 row))
    unfolding grafts_of ref_of round_of
    grafted-keys =
        ap (λ (list : List ℕ). keys (hops_in (round_of ps) list)) (drop-drop 20 2 row)
        ∙ hops-map (round_of ps) (λ (e : Entry ℕ). e.key) (peer_of ps) (λ n r. refl) (drop 22 row)

    graft-told : numbers_name (length ps) (drop 22 row) ≡ true → ascending (numbers_of (drop 22 row)) ≡ grafts_whole l (entry_of (grafts_of ps) rs (ref_of row))
    unfolding grafts_whole
    graft-told h =
        let ns : List ℕ = numbers_of (drop 22 row) in
        let low : all_below (length ps) ns ≡ true = low_of (length ps) (drop 22 row) h in
        sym ((λ k. ascending (grafted-keys k) && neighbours l (grafted-keys k))
        ∙ (λ k. peers-ascend l up ns low k && peers-neighbours l up ns low k)
        ∙ and-true (ascending ns))

    graft-row : graft_list (length ps) (drop 22 row) ≡ (numbers_name (length ps) (drop 22 row) && grafts_whole l (entry_of (grafts_of ps) rs (ref_of row)))
    unfolding graft_list
    graft-row =
        both-same (numbers_name (length ps) (drop 22 row)) (ascending (numbers_of (drop 22 row))) (grafts_whole l (entry_of (grafts_of ps) rs (ref_of row)))
        (graft_list (length ps) (drop 22 row)) refl graft-told

  -- an entry of the missing messages
  module _ (row : List ℕ) (w : length row ≡ 129) where
    announcers : map (λ h. h.peer) (missed_of ps row).value ≡ map (peer_of ps) (numbers_of (drop 32 row))
    unfolding missed_of hops_of hop_of
    announcers = hops-map (hop_of ps) (λ (h : Hop). h.peer) (peer_of ps) (λ n r. refl) (drop 32 row)

    missed-told : numbers_name (length ps) (drop 32 row) ≡ true → (ltb 0 (byte_at 0 (drop 32 row)) && once (numbers_of (drop 32 row))) ≡ announcers_whole l (missed_of ps row)
    unfolding announcers_whole missed_of hops_of
    missed-told h =
        let list : List ℕ = drop 32 row in
        let ns : List ℕ = numbers_of list in
        let low : all_below (length ps) ns ≡ true = low_of (length ps) list h in
        let some : not (is_empty (hops_in (hop_of ps) list)) ≡ ltb 0 (byte_at 0 list) = hops-some (hop_of ps) list (omega (arith, length-drop 32 row)) (few-of (length ps) list h) in
        sym ((λ k. some k && once (announcers k) && neighbours l (announcers k))
        ∙ (λ k. ltb 0 (byte_at 0 list) && peers-once l up ns low k && peers-neighbours l up ns low k)
        ∙ and-true (ltb 0 (byte_at 0 list) && once ns))

    missed-row : missed_list (length ps) (drop 32 row) ≡ (numbers_name (length ps) (drop 32 row) && announcers_whole l (missed_of ps row))
    unfolding missed_list
    missed-row =
        both-same (numbers_name (length ps) (drop 32 row)) (ltb 0 (byte_at 0 (drop 32 row)) && once (numbers_of (drop 32 row))) (announcers_whole l (missed_of ps row))
        (missed_list (length ps) (drop 32 row)) refl missed-told

module _ (h : Head) (xs : List ℕ) (fit : Fit h xs) (up : LinksAscend h xs) where
  abbrev ls : Links
  ls = (state_of h xs).links

  abbrev n : ℕ
  n = h.live.links

  -- the tests of all grafted lists
  pub grafted-lists : all_lists (graft_list n) 22 119 h.live.grafted (table_of h 7 xs)
      ≡ (all_lists (numbers_name n) 22 119 h.live.grafted (table_of h 7 xs) && all (grafts_whole ls) (state_of h xs).grafted.entries)
  unfolding all_lists state_of grafted_in cache_of refs
  grafted-lists =
      let t : List (List ℕ) = rows 119 h.live.grafted (table_of h 7 xs) in
      let es : List ExpiryRow = expiry_rows 40 h.live.grafted_rows (table_of h 8 xs) in
      subst (λ (m : ℕ). all (λ row. graft_list m (drop 22 row)) t ≡ (all (λ row. numbers_name m (drop 22 row)) t && all (grafts_whole ls) (map (entry_of (grafts_of (keys ls)) es) (map ref_of t)))) (count-peers h xs)
      (all_both (λ row. numbers_name (length (keys ls)) (drop 22 row)) (λ row. grafts_whole ls (entry_of (grafts_of (keys ls)) es (ref_of row))) (λ row. graft_list (length (keys ls)) (drop 22 row)) [] t
      (λ i q. graft-row ls up es (get_or t i []))
      ∙ ap (λ (b : Bool). all (λ row. numbers_name (length (keys ls)) (drop 22 row)) t && b)
      (sym (all_map (grafts_whole ls) (entry_of (grafts_of (keys ls)) es) (map ref_of t) ∙ all_map (λ r. grafts_whole ls (entry_of (grafts_of (keys ls)) es r)) ref_of t)))

  -- the tests of all lists of announcers
  pub missing-lists : all_lists (missed_list n) 32 129 h.live.missing (table_of h 9 xs)
      ≡ (all_lists (numbers_name n) 32 129 h.live.missing (table_of h 9 xs) && all (announcers_whole ls) (state_of h xs).missing)
  unfolding all_lists state_of missing_in
  missing-lists =
      let t : List (List ℕ) = rows 129 h.live.missing (table_of h 9 xs) in
      subst (λ (m : ℕ). all (λ row. missed_list m (drop 32 row)) t ≡ (all (λ row. numbers_name m (drop 32 row)) t && all (announcers_whole ls) (map (missed_of (keys ls)) t))) (count-peers h xs)
      (all_both (λ row. numbers_name (length (keys ls)) (drop 32 row)) (λ row. announcers_whole ls (missed_of (keys ls) row)) (λ row. missed_list (length (keys ls)) (drop 32 row)) [] t
      (λ i q. missed-row ls up (get_or t i []) (long i q))
      ∙ ap (λ (b : Bool). all (λ row. numbers_name (length (keys ls)) (drop 32 row)) t && b) (sym (all_map (announcers_whole ls) (missed_of (keys ls)) t)))
    where
      long : (i : ℕ) → i < length (rows 129 h.live.missing (table_of h 9 xs)) → length (get_or (rows 129 h.live.missing (table_of h 9 xs)) i []) ≡ 129
      long i q =
          let l : i < h.live.missing = omega (arith, length-rows 129 h.live.missing (table_of h 9 xs)) in
          ap length (get_d_rows 129 h.live.missing i [] (table_of h 9 xs) l)
          ∙ length_part (i * 129) 129 (table_of h 9 xs) (omega (arith, row-end 129 h.live.missing i l, fit.within.missing, length-table (limits_of h.limits) 9 xs (lit< tt) fit.long))
