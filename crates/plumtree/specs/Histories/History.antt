-- "Named states", over time: panels with blocks of one length, and the areas that they share.
-- "From a return on, the list of calls that the guarantees speak about is the one up to the saving, followed by the calls since the return."
-- Assumes nothing.
use Rattle.std.specs.Prelude.{ℕ, ◌+◌, ◌*◌, ◌≤◌, ◌≡◌, Bool, true, List, [], ◌∷◌, ◌++◌, map, eqb, length, take, replicate, if◌then◌else◌, Option, Some, None}
use Rattle.storage.specs.Lists.Map.{Entry, entry, lookup}
use Rattle.protocol.specs.State.{Counts}
use Rattle.protocol.specs.Answer.{Call}
use Rattle.block.specs.declared.head.Settings.{Settings}
use Rattle.block.specs.declared.head.Limits.{Limits}
use Rattle.whole.specs.Held.{whole_block}
use Rattle.whole.specs.States.Kept.{Kept, keep}
use Rattle.whole.specs.States.Area.{kept_in, area_holds, InWidth}
use Rattle.whole.specs.States.Calls.{Saves, Returns}
use Rattle.machine.specs.Called.{Lent, Called}
use Rattle.output_size.specs.OutputSize.{AllBytes}
use Rattle.plumtree.specs.Calls.{Made}
use Rattle.plumtree.specs.Chain.{Guaranteed}
use Rattle.plumtree.specs.OutputSize.{size_of, EachEnough}
use Rattle.plumtree.specs.CallList.{CallList, fresh_list, with_call}

-- a panel at a moment: its block and counts, and the list that the guarantees speak about
pub record Panel : Type 0 where
  pub block : List ℕ
  pub counts : Counts
  pub list : CallList

-- a state that the area keeps, with the list up to the saving
pub record Saved : Type 0 where
  pub kept : Kept
  pub list : CallList

-- the area at a moment: its bytes, and the states that they keep, in the order in which the names were first saved
pub record Area : Type 0 where
  pub bytes : List ℕ
  pub saved : List (Entry Saved)

-- what the bytes have of a state
abbrev pub kept_of : Entry Saved → Entry Kept
kept_of s = entry s.key s.value.kept

-- "Answer 0 is yes to all"
abbrev pub was_accepted : ℕ → Bool
was_accepted answer = eqb answer 0

-- the panel as it is saved under a name
abbrev pub saved_as : ℕ → Panel → Entry Saved
saved_as name p = entry name (record { kept = record { counts = p.counts; block = p.block }; list = p.list })

-- "the one up to the saving": the list that was saved under the name
abbrev pub list_saved : Option Saved → CallList → CallList
list_saved None now = now
list_saved (Some s) now = s.list

-- the list after a return to this name with this answer, of a panel whose list is `now`
abbrev pub list_returned : ℕ → ℕ → List (Entry Saved) → CallList → CallList
list_returned answer name saved now = if was_accepted answer then list_saved (lookup name saved) now else now

-- what a call makes of a panel and an area; each call as its contract says
pub data Step : Panel → Area → Panel → Area → Type 0 where
  -- a creation in the panel's block begins a new list
  creates : (p : Panel) (a : Area) (c : Settings) (l : Limits) (block' : List ℕ) (counts' : Counts) (answer long : ℕ) → Made c l p.block p.counts block' counts' answer long →
      Step p a (record { block = block'; counts = counts'; list = if was_accepted answer then fresh_list c l else p.list }) a
  -- an event call is one more of the list
  calls : (p : Panel) (a : Area) (k : Call) (output : List ℕ) (after : Lent) (answer long : ℕ) → Called k (record { block = p.block; counts = p.counts; output = output }) after answer long →
      Step p a (record { block = after.block; counts = after.counts; list = with_call k (record { number = answer; bytes = take long after.output }) p.list }) a
  -- a saving leaves the panel, and its list is kept under the name
  saves : (p : Panel) (a : Area) (name : ℕ) (area' : List ℕ) (answer long : ℕ) → InWidth name p.counts → Saves p.block p.counts a.bytes name area' answer long →
      Step p a p (record { bytes = area'; saved = if was_accepted answer then keep (saved_as name p) a.saved else a.saved })
  -- a return leaves the area, and the panel's list is the one kept under the name
  returns : (p : Panel) (a : Area) (name : ℕ) (block' : List ℕ) (counts' : Counts) (answer long : ℕ) → Returns p.block p.counts a.bytes name block' counts' answer long →
      Step p a (record { block = block'; counts = counts'; list = list_returned answer name a.saved p.list }) a

-- a history of panels with blocks of n bytes, and of areas
pub data History (n : ℕ) : List Panel → List Area → Type 0 where
  -- none so far
  begins : History n [] []
  -- an area is lent first as zeros, of any length
  opens : (ps : List Panel) (areas : List Area) → History n ps areas → (long : ℕ) → History n ps (record { bytes = replicate long 0; saved = [] } ∷ areas)
  -- a with_call panel is created
  joins : (ps : List Panel) (areas : List Area) → History n ps areas →
      (c : Settings) (l : Limits) (before : List ℕ) (old : Counts) (block : List ℕ) (counts : Counts) (long : ℕ) → Made c l before old block counts 0 long → length block ≡ n →
      History n (record { block = block; counts = counts; list = fresh_list c l } ∷ ps) areas
  -- one of the panels makes a call, with one of the areas where it takes one; "for that list only savings write it"
  goes : (front : List Panel) (p : Panel) (behind : List Panel) (left : List Area) (a : Area) (right : List Area) → History n (front ++ (p ∷ behind)) (left ++ (a ∷ right)) →
      (p' : Panel) (a' : Area) → Step p a p' a' → History n (front ++ (p' ∷ behind)) (left ++ (a' ∷ right))

-- after every history, of every panel and every area
pub record Histories : Type 0 where
  -- the guarantees hold of the panel's list
  pub always : (n : ℕ) (front : List Panel) (p : Panel) (behind : List Panel) (areas : List Area) → History n (front ++ (p ∷ behind)) areas →
      Guaranteed p.list.settings p.list.limits p.list.calls p.list.seen p.block p.counts
  -- an output of `size_of` bytes was enough for each of its calls, whose events are of bytes
  pub enough : (n : ℕ) (front : List Panel) (p : Panel) (behind : List Panel) (areas : List Area) → History n (front ++ (p ∷ behind)) areas → AllBytes p.list.calls →
      EachEnough (size_of p.list.settings p.list.limits) p.list.calls p.list.seen
  -- its block is whole, so that no call upon it is answered 5
  pub whole : (n : ℕ) (front : List Panel) (p : Panel) (behind : List Panel) (areas : List Area) → History n (front ++ (p ∷ behind)) areas → whole_block p.block ≡ true
  -- the area's bytes keep the states whose lists are kept, under their names and in their order
  pub kept : (n : ℕ) (ps : List Panel) (left : List Area) (a : Area) (right : List Area) → History n ps (left ++ (a ∷ right)) → kept_in n a.bytes ≡ map kept_of a.saved
  -- if it is long enough no call upon it is answered 17
  pub holds : (n : ℕ) (ps : List Panel) (left : List Area) (a : Area) (right : List Area) → History n ps (left ++ (a ∷ right)) → 256 + n * 4 ≤ length a.bytes → area_holds n a.bytes ≡ true
  -- a return that is accepted finds a list under its name, and brings back block and counts as they were saved with it
  pub found : (n : ℕ) (front : List Panel) (p : Panel) (behind : List Panel) (left : List Area) (a : Area) (right : List Area) → History n (front ++ (p ∷ behind)) (left ++ (a ∷ right)) →
      (name : ℕ) (block' : List ℕ) (counts' : Counts) (long : ℕ) → Returns p.block p.counts a.bytes name block' counts' 0 long →
      (s : Saved) × (lookup name a.saved ≡ Some s) × (block' ≡ s.kept.block) × (counts' ≡ s.kept.counts)
  -- and to a name under which a list is kept, in an area long enough, it is accepted
  pub taken : (n : ℕ) (front : List Panel) (p : Panel) (behind : List Panel) (left : List Area) (a : Area) (right : List Area) → History n (front ++ (p ∷ behind)) (left ++ (a ∷ right)) →
      256 + n * 4 ≤ length a.bytes → (name : ℕ) (s : Saved) → lookup name a.saved ≡ Some s →
      (block' : List ℕ) (counts' : Counts) (answer long : ℕ) → Returns p.block p.counts a.bytes name block' counts' answer long → answer ≡ 0
