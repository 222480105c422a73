-- What a saving and a return mean for what the area keeps: the steps of a history.
-- Assumes nothing.
use Rattle.whole.proofs.Words.{Option, Some, None, ◌≡◌, refl, sym, ap, ◌∙◌, subst, true, List, [], ◌∷◌, ℕ, arith, length, Entry, entry, lookup, cases, put, Counts}
use Rattle.whole.specs.Held.{whole_block}
use Rattle.whole.specs.States.Kept.{Kept, keep}
use Rattle.whole.specs.States.Area.{area_bytes, kept_in, area_holds, no_room, SaveAnswer, not_saved, saved_to, save, ReturnAnswer, not_returned, brought_back, or_unknown, go_back, InWidth, LeftBy, saved}
use Rattle.whole.specs.States.Calls.{Saves, save_number, area_left, Returns, return_number, block_left, counts_left}
use Rattle.whole.proofs.StatesLaws.HoldsLaws.{holds_of}
use Rattle.whole.proofs.StatesLaws.KeepLaws.{At, keep-put}
use Rattle.whole.proofs.StatesLaws.LeftBy.{Proper, back, holds-proper, proper-put, place, at_place, has_room, SavedBy, save-is, area-exact}

-- accepted: whole, held, with room
accepted : (block : List ℕ) (counts : Counts) (area : List ℕ) (name : ℕ) (area' : List ℕ) (long : ℕ) → Saves block counts area name area' 0 long → SavedBy block counts area name area'
unfolding save save_number area_left
accepted block counts area name area' long s =
    cases (whole_block block)
    (λ w. cases (area_holds (length block) area)
    (λ h. cases (no_room name (kept_in (length block) area))
    (λ r. let z : ◌≡◌ {A = ℕ} 0 16 = rw (w, h, r) at s.number in absurd (omega arith))
    (λ r. record { whole = w; holds = h; room = r; after = rw (w, h, r) at s.left }))
    (λ h. let z : ◌≡◌ {A = ℕ} 0 17 = rw (w, h) at s.number in absurd (omega arith)))
    (λ w. let z : ◌≡◌ {A = ℕ} 0 5 = rw w at s.number in absurd (omega arith))

-- after an accepted saving the area keeps what it kept, with the state saved
pub kept-after : (block : List ℕ) (counts : Counts) (area : List ℕ) (name : ℕ) (area' : List ℕ) (long : ℕ) → InWidth name counts → Saves block counts area name area' 0 long
    → kept_in (length block) area' ≡ keep (entry name (record { counts = counts; block = block })) (kept_in (length block) area)
kept-after block counts area name area' long w s =
    let n : ℕ = length block in
    let x : Entry Kept = entry name (record { counts = counts; block = block }) in
    let ks : List (Entry Kept) = kept_in n area in
    let y : SavedBy block counts area name area' = accepted block counts area name area' long s in
    let p : Proper n ks = holds-proper n area y.holds in
    let a : At name ks (place name ks) = at_place name ks in
    let q : Proper n (put (place name ks) (x ∷ []) ks) = proper-put n ks p x refl w y.whole (place name ks) a (has_room name ks p.few y.room) in
    let e : keep x ks ≡ put (place name ks) (x ∷ []) ks = keep-put name x refl ks (place name ks) a in
    ap (kept_in n) (y.after ∙ ap (area_bytes (length area)) e) ∙ back n (length area) (holds_of n area y.holds).long (put (place name ks) (x ∷ []) ks) q ∙ sym e

-- and is one that savings left
pub left_after : (block : List ℕ) (counts : Counts) (area : List ℕ) (name : ℕ) (area' : List ℕ) (long : ℕ) → InWidth name counts → Saves block counts area name area' 0 long → LeftBy (length block) area'
left_after block counts area name area' long w s =
    let y : SavedBy block counts area name area' = accepted block counts area name area' long s in
    saved area ((area-exact.exactly (length block) area).when y.holds) block counts name refl w area' (save-is block counts area name y.whole y.holds y.room ∙ ap saved_to (sym y.after))

-- a saving that is refused leaves the area
pub saved-not : (block : List ℕ) (counts : Counts) (area : List ℕ) (name : ℕ) (area' : List ℕ) (number long : ℕ) → (number ≡ 0 → ⊥) → Saves block counts area name area' number long → area' ≡ area
unfolding save_number area_left
saved-not block counts area name area' number long ne s = by (save block counts area name) s.number s.left
  where
    by : (a : SaveAnswer) → number ≡ save_number a → area' ≡ area_left a area → area' ≡ area
    by (not_saved n) e l = l
    by (saved_to bs) e l = absurd (ne e)

-- what an accepted return brought back stands in the area under the name
pub record Found (block area : List ℕ) (name : ℕ) (block' : List ℕ) (counts' : Counts) : Type 0 where
  pub it : Kept
  pub there : lookup name (kept_in (length block) area) ≡ Some it
  pub block-is : block' ≡ it.block
  pub counts-is : counts' ≡ it.counts

by_name : (o : Option Kept) (block : List ℕ) (counts : Counts) (block' : List ℕ) (counts' : Counts) (area : List ℕ) (name : ℕ) → lookup name (kept_in (length block) area) ≡ o
    → 0 ≡ return_number (or_unknown o) → block' ≡ block_left (or_unknown o) block → counts' ≡ counts_left (or_unknown o) counts → Found block area name block' counts'
unfolding return_number block_left counts_left or_unknown
by_name None block counts block' counts' area name e t b c = absurd (omega (arith, t))
by_name (Some k) block counts block' counts' area name e t b c = record { it = k; there = e; block-is = b; counts-is = c }

pub brought : (block : List ℕ) (counts : Counts) (area : List ℕ) (name : ℕ) (block' : List ℕ) (counts' : Counts) (long : ℕ) → Returns block counts area name block' counts' 0 long → Found block area name block' counts'
unfolding go_back return_number block_left counts_left
brought block counts area name block' counts' long s =
    cases (whole_block block)
    (λ w. cases (area_holds (length block) area)
    (λ h. by_name (lookup name (kept_in (length block) area)) block counts block' counts' area name refl (rw (w, h) at s.number) (rw (w, h) at s.back) (rw (w, h) at s.left))
    (λ h. let z : ◌≡◌ {A = ℕ} 0 17 = rw (w, h) at s.number in absurd (omega arith)))
    (λ w. let z : ◌≡◌ {A = ℕ} 0 5 = rw w at s.number in absurd (omega arith))

-- from a whole block, a return to a name that an area keeps is accepted
pub returned-there : (block : List ℕ) (counts : Counts) (area : List ℕ) (name : ℕ) (block' : List ℕ) (counts' : Counts) (number long : ℕ) (k : Kept) → whole_block block ≡ true → area_holds (length block) area ≡ true →
    lookup name (kept_in (length block) area) ≡ Some k → Returns block counts area name block' counts' number long → number ≡ 0
unfolding go_back return_number or_unknown
returned-there block counts area name block' counts' number long k w h e s = rw (w, h, e) at s.number

-- a return that is refused leaves block and counts
pub returned-not : (block : List ℕ) (counts : Counts) (area : List ℕ) (name : ℕ) (block' : List ℕ) (counts' : Counts) (number long : ℕ) → (number ≡ 0 → ⊥) →
    Returns block counts area name block' counts' number long → (block' ≡ block) × (counts' ≡ counts)
unfolding return_number block_left counts_left
returned-not block counts area name block' counts' number long ne s = by (go_back block area name) s.number s.back s.left
  where
    by : (a : ReturnAnswer) → number ≡ return_number a → block' ≡ block_left a block → counts' ≡ counts_left a counts → (block' ≡ block) × (counts' ≡ counts)
    by (not_returned n) e b c = (b, c)
    by (brought_back k) e b c = absurd (ne e)

-- so its promise holds of the counts as they were
pub returned-kept : (block : List ℕ) (old : Counts) (area : List ℕ) (name : ℕ) (block' : List ℕ) (new : Counts) (number long : ℕ) → (number ≡ 0 → ⊥) →
    Returns block old area name block' new number long → Returns block old area name block' old number long
returned-kept block old area name block' new number long ne s =
    subst (λ (c : Counts). Returns block old area name block' c number long) (returned-not block old area name block' new number long ne s).1 s
