-- What the bytes of a grafted message say: its senders.
-- Assumes nothing.
use Rattle.block.proofs.Words.{◌≡◌, refl, sym, ap, ◌∙◌, Bool, true, false, List, [], ℕ, ◌+◌, ◌*◌, ◌<◌, arith, lit<, length, take, drop, Entry, Ref, ref, refs, ref-at, Timed, ref_at, Limits, Grafts}
use Rattle.storage.specs.Rows.Part.{part}
use Rattle.storage.specs.Refs.Refs.{ref_of}
use Rattle.block.specs.Layout.{place, table}
use Rattle.block.specs.View.{state_of, limits_of, only_if, grafts_of}
use Rattle.block.specs.Sound.{Sound}
use Rattle.block.specs.MissingSteps.{hop}
use Rattle.block.specs.declared.head.Head.{Head}
use Rattle.block.specs.declared.caches.grafted.FirstCopy.{FirstCopy}
use Rattle.block.proofs.Tables.{field_in}
use Rattle.block.specs.Caches.GraftSteps.{grafts_at, senders_in, first_value}
use Rattle.block.proofs.CachesLaws.GraftLaws.{entry-below, grafted-entry}
use Rattle.block.proofs.CachesLaws.GraftWrites.{senders-front}

-- a first copy behind a flag
pub first-if : (b : Bool) (f : FirstCopy) → first_value (only_if b f) ≡ only_if b (hop f.sender f.round.0)
first-if true f = refl
first-if false f = refl

pub senders_read : (h : Head) (xs : List ℕ) → Sound h xs → (i : ℕ) → i < length (state_of h xs).grafted.entries → (a k : ℕ) → a ≡ place (limits_of h.limits) 7 + 119 * i + 2 → k ≡ 20
    → senders_in (take k (drop a xs)) ≡ ((grafts_at (state_of h xs) i).first, (grafts_at (state_of h xs) i).kept)
unfolding grafts_of ref_of part
senders_read h xs sound i there a k ea ek =
    let l : Limits = limits_of h.limits in
    let tab : List ℕ = table l 7 xs in
    let q : i < h.live.grafted = entry-below h xs sound i there in
    let at : a ≡ place l 7 + (i * 119 + 2) = omega (arith, ea) in
    let own : List ℕ = (ref_at (refs 119 h.live.grafted tab) i).own in
    let row : own ≡ drop 2 (part (i * 119) 119 tab) = ap (λ (r : Ref). r.own) (ref-at 119 h.live.grafted i (ref 0 []) tab q) in
    let bytes : part 0 20 own ≡ take k (drop a xs) =
    ap (part 0 20) row ∙ field_in l 7 119 i 2 20 xs (lit< tt) (omega arith) (omega (arith, q, sound.fit.within.grafted)) ∙ (λ j. take (sym ek j) (drop (sym at j) xs)) in
    sym (ap senders_in bytes) ∙ senders-front own ∙ sym (ap (λ (e : Entry (Timed Grafts)). (e.value.value.first, e.value.value.kept)) (grafted-entry h xs sound i there))
