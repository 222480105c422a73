-- The list of docs/GUARANTEE.md, computed, for any calls: one, a saving under the name 1, a second, a return, a third.
-- Assumes nothing.
use Rattle.plumtree.proofs.Words.{ℕ, ◌≡◌, refl, List, [], ◌∷◌, Counts, Call, Settings, Limits}
use Rattle.storage.specs.Lists.Map.{Entry, lookup}
use Rattle.whole.specs.States.Kept.{keep}
use Rattle.plumtree.specs.Chain.{Seen}
use Rattle.plumtree.specs.CallList.{fresh_list, with_call}
use Rattle.plumtree.specs.Histories.History.{Panel, Saved, saved_as, list_returned}

module _ (c : Settings) (l : Limits) (block : List ℕ) (counts : Counts) (first second third : Call) (seen : Seen) where
  -- the panel after the first call, as it is saved
  abbrev early : Panel
  early = record { block = block; counts = counts; list = with_call first seen (fresh_list c l) }

  -- and after the second
  abbrev later : Panel
  later = record { block = block; counts = counts; list = with_call second seen early.list }

  abbrev saved : List (Entry Saved)
  saved = keep (saved_as 1 early) []

  -- the list after a return to this name with this answer, and the third call
  abbrev since : ℕ → ℕ → List (Entry Saved) → List Call
  since answer name ss = (with_call third seen (list_returned answer name ss later.list)).calls

  pub record HistoryExamples : Type 0 where
    -- "the one up to the saving, followed by the calls since the return"
    pub returned : since 0 1 saved ≡ first ∷ third ∷ []
    -- a return that is refused goes on with the list
    pub refused : since 15 2 saved ≡ first ∷ second ∷ third ∷ []
    -- saved again under the name after the second call
    pub replaced : since 0 1 (keep (saved_as 1 later) saved) ≡ first ∷ second ∷ third ∷ []
    -- saved then under another name
    pub another : since 0 1 (keep (saved_as 2 later) saved) ≡ first ∷ third ∷ []

  pub history-examples : HistoryExamples
  unfolding keep lookup
  history-examples = record { returned = refl; refused = refl; replaced = refl; another = refl }
