-- What is queued for a peer, entry by entry, and the record that grows by it.
-- Assumes nothing.
use Rattle.announcements.proofs.Words.{◌≡◌, refl, ap, ◌∙◌, Bool, true, false, List, [], ◌∷◌, ◌++◌, map, append-nil, ℕ, ◌+◌, ◌≤◌, ◌<◌, arith, length, take, drop, get_or, if◌then◌else◌, length-filter, count-length, Ihave, Note, for_peer, add_note, note}
use mathlib.Core.List.{map-append}
use lib.ListN.{length-map}
use lib.Seq.{drop-append-le}
use Rattle.storage.specs.Lists.Base.{filter}
use Rattle.storage.proofs.ListsLaws.Firsts.{filter_more}
use Rattle.protocol.specs.Ticks.{queued_for}
use Rattle.decide.specs.RecordGrowth.{add_notes}

-- a note without its peer
abbrev pub ihave_of : Note → Ihave
ihave_of n = record { id = n.id; round = n.round }

-- one entry more
module _ (p : ℕ) (ns : List Note) (i : ℕ) (h : i < length ns) where
  abbrev entry_at : Note
  entry_at = get_or ns i (note 0 0 0)

  more : (t : Bool) → for_peer p entry_at ≡ t → queued_for p (take (i + 1) ns) ≡ queued_for p (take i ns) ++ map ihave_of (if t then entry_at ∷ [] else [])
  unfolding queued_for
  more t e =
      ap (map ihave_of) (filter_more (for_peer p) i (note 0 0 0) ns h ∙ ap (λ (t : Bool). filter (for_peer p) (take i ns) ++ (if t then entry_at ∷ [] else [])) e)
      ∙ map-append ihave_of (filter (for_peer p) (take i ns)) (if t then entry_at ∷ [] else [])

  pub queued-more : for_peer p entry_at ≡ true → queued_for p (take (i + 1) ns) ≡ queued_for p (take i ns) ++ (ihave_of entry_at ∷ [])
  queued-more e = more true e

  pub queued-same : for_peer p entry_at ≡ false → queued_for p (take (i + 1) ns) ≡ queued_for p (take i ns)
  queued-same e = more false e ∙ append-nil (queued_for p (take i ns))

pub queued-none : (p : ℕ) → queued_for p [] ≡ []
unfolding queued_for filter
queued-none p = refl

pub queued-few : (p : ℕ) (ns : List Note) → length (queued_for p ns) ≤ length ns
unfolding queued_for
queued-few p ns = omega (arith, length-map (filter (for_peer p) ns) ihave_of, length-filter (for_peer p) ns, count-length (for_peer p) ns)

-- behind the first `skip`
pub drop-late : {A : Type 0} (skip : ℕ) (hs : List A) (x : A) → skip ≤ length hs → drop skip (hs ++ (x ∷ [])) ≡ drop skip hs ++ (x ∷ [])
drop-late skip hs x h = drop-append-le skip hs (x ∷ []) h

-- the record grows
module _ (c : ℕ → Bool) (p : ℕ) where
  pub notes-append : (xs ys : List Ihave) (ds : List Note) → add_notes c p (xs ++ ys) ds ≡ add_notes c p ys (add_notes c p xs ds)
  unfolding add_notes
  notes-append [] ys ds = refl
  notes-append (x ∷ xs) ys ds = notes-append xs ys (add_note c p x ds)

  pub notes-one : (x : Ihave) (ds : List Note) → add_notes c p (x ∷ []) ds ≡ add_note c p x ds
  unfolding add_notes
  notes-one x ds = refl

  pub notes-none : (ds : List Note) → add_notes c p [] ds ≡ ds
  unfolding add_notes
  notes-none ds = refl
