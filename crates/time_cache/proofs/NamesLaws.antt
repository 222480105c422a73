-- The entries that name rows (`NamesRows`): each takes its row's key out.
-- Assumes nothing.
use Rattle.std.proofs.Common.{ℕ, ◌+◌, ◌-◌, ◌<◌, ◌≡◌, refl, sym, ap, ◌∙◌, List, [], arith, eqb-true, eqb, length, get_or, set, replicate, get_or-set_same, get_or-set_other}
use borrow.Author.Tests.{eqb-false}
use lib.ListN.{length-map}
use Rattle.storage.specs.Rows.Sorted.{Here}
use Rattle.storage.specs.Refs.Refs.{Ref, ref}
use Rattle.storage.proofs.ListsLaws.MapLaws.{cases}
use Rattle.storage.proofs.RefsLaws.Places.{get_or-map-in}
use Rattle.time_cache.specs.Tables.{row_at, named, refs_at, rows_at, Sound}
use Rattle.time_cache.specs.Steps.{ref_at}
use Rattle.time_cache.specs.Gone.{key_of_row, TakesAt, NamesRows}
use Rattle.time_cache.specs.declared.cache.TimeBoundCache.{TimeBoundCache}
use Rattle.time_cache.proofs.PassedLaws.{zeros, takes-at}
use Rattle.time_cache.proofs.ReadLaws.{length-es, got-at}

-- no row is named yet
pub names-none : (n : ℕ) (c : TimeBoundCache) (xs names : List ℕ) → names ≡ replicate {A = ℕ} n 0 → NamesRows c xs names
names-none n c xs names e = λ j h. absurd (none j h)
  where
    none : (j : ℕ) → 0 < get_or names j 0 → ⊥
    none j h = omega (arith, h, ap (λ (l : List ℕ). get_or l j 0) e ∙ zeros n j)

-- one entry more
pub names-more : (c : TimeBoundCache) (xs names : List ℕ) (i r : ℕ) → i < c.entries.len → (ref_at (refs_at c xs) i).place ≡ r → r < length names → NamesRows c xs names → NamesRows c xs (set names r (i + 1))
names-more c xs names i r h e l g = λ j z.
    cases (eqb j r)
    (λ p. let q : j ≡ r = eqb-true j r p in
    let v : get_or (set names r (i + 1)) j 0 ≡ i + 1 = ap (λ (k : ℕ). get_or (set names r (i + 1)) k 0) q ∙ get_or-set_same names r (i + 1) 0 l in
    let w : get_or (set names r (i + 1)) j 0 - 1 ≡ i = omega (arith, v) in
    (omega (arith, v, h), ap (λ (k : ℕ). (ref_at (refs_at c xs) k).place) w ∙ e ∙ sym q))
    (λ p. let v : get_or (set names r (i + 1)) j 0 ≡ get_or names j 0 = get_or-set_other names r j (i + 1) 0 (eqb-false j r p) in
    let o = g j (omega (arith, z, v)) in
    (omega (arith, v, o.0), ap (λ (k : ℕ). (ref_at (refs_at c xs) (k - 1)).place) v ∙ o.1))

-- the entry that names a row has its key and its time
pub takes-named : (c : TimeBoundCache) (xs names : List ℕ) (j : ℕ) → Sound c xs → NamesRows c xs names → 0 < get_or names j 0 → TakesAt c xs j (get_or names j 0 - 1)
unfolding named
takes-named c xs names j s g z =
    let o = g j z in
    let i : ℕ = get_or names j 0 - 1 in
    let h : i < c.entries.len = omega (arith, o.0, z) in
    let here : Here (named (rows_at c xs) (refs_at c xs)) (key_of_row c xs j) i = record {
      within = omega (arith, h, length-map (refs_at c xs) (λ (r : Ref). (row_at (rows_at c xs) r.place).key), length-es c xs);
      same = get_or-map-in (λ (r : Ref). (row_at (rows_at c xs) r.place).key) (refs_at c xs) i 0 (ref 0 []) (omega (arith, h, length-es c xs)) ∙ ap (key_of_row c xs) o.1;
    } in
    takes-at c xs j (got-at c xs s (key_of_row c xs j) i j here (sym o.1)) refl refl
