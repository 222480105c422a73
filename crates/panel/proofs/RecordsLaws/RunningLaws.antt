-- The definition's output, record by record: what `panelrun` writes for the first record, then for the rest of the input.
-- Assumes nothing.
use Rattle.std.proofs.Common.{ℕ, zero, suc, ◌≤◌, ◌<◌, ◌≡◌, refl, ap, List, [], ◌∷◌, ◌++◌, arith, length}
use Rattle.postcard.specs.Number.{Read, got, fault}
use Rattle.protocol.specs.State.{State, Counts, fresh, zero_counts}
use Rattle.protocol.specs.Answer.{Call, ask_whole}
use Rattle.protocol.specs.Calls.{state_after, counts_after}
use Rattle.protocol.specs.Panel.{Records, cut, record1, read_record, or_cut, read_records, run_records, written, panel_settings, panel_limits, panelrun}
use Rattle.panel.specs.Records.Reading.{Never, Bad}
use Rattle.panel.specs.Records.Running.{writes, end_bytes, closing}
use Rattle.panel.proofs.RecordsLaws.Pieces.{record-takes, bad-none}

-- the records that are left do not depend on how many are allowed, once that is enough
or-cut : (r : Read Call) (f g : List ℕ → Records) → ((k : Call) (rest : List ℕ) → r ≡ got k rest → f rest ≡ g rest) → or_cut r f ≡ or_cut r g
unfolding or_cut
or-cut (fault n) f g h = refl
or-cut (got k rest) f g h = ap (record1 k) (h k rest refl)

enough : (m n : ℕ) (input : List ℕ) → length input ≤ m → length input ≤ n → read_records m input ≡ read_records n input
unfolding read_records
enough zero zero [] h k = refl
enough zero (suc n) [] h k = refl
enough (suc m) zero [] h k = refl
enough (suc m) (suc n) [] h k = refl
enough zero n (b ∷ bytes) h k = absurd (omega arith)
enough (suc m) zero (b ∷ bytes) h k = absurd (omega arith)
enough (suc m) (suc n) (b ∷ bytes) h k =
    or-cut (read_record (b ∷ bytes)) (λ rest. read_records m rest) (λ rest. read_records n rest)
    (λ c rest e. let t : length rest < length (b ∷ bytes) = record-takes (b ∷ bytes) c rest e in
    enough m n rest (omega arith) (omega arith))

-- no record: the end
never-cut : (r : Read Call) (next : List ℕ → Records) → ((k : Call) (rest : List ℕ) → r ≡ got k rest → ⊥) → or_cut r next ≡ cut
unfolding or_cut
never-cut (fault n) next h = refl
never-cut (got k rest) next h = absurd (h k rest refl)

first-cut : (b : ℕ) (bytes : List ℕ) → Never (b ∷ bytes) → read_records (length (b ∷ bytes)) (b ∷ bytes) ≡ cut
unfolding read_records
first-cut b bytes h = never-cut (read_record (b ∷ bytes)) (λ rest. read_records (length bytes) rest) h.never

first-record : (input : List ℕ) (k : Call) (rest : List ℕ) → read_record input ≡ got k rest → read_records (length input) input ≡ record1 k (read_records (length rest) rest)
unfolding read_records or_cut
first-record [] k rest e = absurd (omega (arith, record-takes [] k rest e))
first-record (b ∷ bytes) k rest e =
    let t : length rest < length (b ∷ bytes) = record-takes (b ∷ bytes) k rest e in
    rw e (ap (record1 k) (enough (length bytes) (length rest) rest (omega arith) (omega arith)))

module _ (hash : List ℕ → ℕ) (s : State) (c : Counts) where
  -- a record: its answer, then the rest
  pub writes-record : (input : List ℕ) (k : Call) (rest : List ℕ) → read_record input ≡ got k rest
      → writes hash s c input ≡ written (ask_whole hash s c k) ++ writes hash (state_after s (ask_whole hash s c k)) (counts_after c (ask_whole hash s c k)) rest
  unfolding writes run_records
  writes-record input k rest e = ap (run_records hash s c) (first-record input k rest e)

  -- no record, and the input goes on or not: "it writes 07 00 and ends"
  pub writes-never : (input : List ℕ) → Never input → writes hash s c input ≡ closing input
  unfolding writes run_records read_records closing end_bytes
  writes-never [] h = refl
  writes-never (b ∷ bytes) h = ap (run_records hash s c) (first-cut b bytes h)

  -- bad bytes: 07 00, whatever follows
  pub writes-bad : (bytes more : List ℕ) → Bad bytes → writes hash s c (bytes ++ more) ≡ end_bytes
  unfolding closing
  writes-bad [] more h = absurd (bad-none h)
  writes-bad (b ∷ bytes) more h = writes-never (b ∷ bytes ++ more) (h.always more)

-- the whole output
pub panelrun-writes : (hash : List ℕ → ℕ) (input : List ℕ) → panelrun hash input ≡ writes hash (fresh panel_settings panel_limits) zero_counts input
unfolding panelrun writes
panelrun-writes hash input = refl
