-- The columns of link numbers of the queue and the record.
-- Assumes nothing.
use Rattle.block.proofs.Words.{zero, suc, ◌≡◌, ℕ, ◌+◌, ◌-◌, ◌<◌, ◌≤◌, length, sym, arith, List, ◌∙◌, ap, map, get_or, take, drop, [], ◌∷◌, refl, get_or-map, Note}
use Rattle.std.proofs.lemmas.List.{ext_get_or, length-map, get_or-take, get_or-drop, length-take-le, length-drop}
use Rattle.std.proofs.lemmas.List.Elements.{All-from_get_or}
use Rattle.block.specs.Layout.{place}
use Rattle.block.specs.LinkSteps.{peer_at}
use Rattle.block.specs.NoteSteps.{note, notes_of, count_of, numbers_of, LinkIs, Column}
use Rattle.block.specs.View.{state_of, limits_of}
use Rattle.block.specs.Sound.{Sound}
use Rattle.block.specs.declared.head.Head.{Head}
use Rattle.block.specs.declared.note.NoteTable.{NoteTable}
use Rattle.block.proofs.NoteLaws.{count-queue, count-dropped, count-notes, number-there, note-link}

pub map-at : (f : ℕ → ℕ) (xs : List ℕ) (i : ℕ) → i < length xs → get_or (map f xs) i 0 ≡ f (get_or xs i 0)
map-at f [] i q = absurd (omega (arith, q))
map-at f (x ∷ xs) zero q = refl
map-at f (x ∷ xs) (suc i) q = map-at f xs i (omega (arith, q))

module _ (h : Head) (xs : List ℕ) where
  pub queue-few : Sound h xs → length (state_of h xs).queue ≤ 8192
  queue-few sound = omega (arith, count-queue h xs sound, sound.fit.within.queued, sound.fit.ceilings.Q)

  pub record-few : Sound h xs → length (state_of h xs).dropped ≤ 4096
  record-few sound = omega (arith, count-dropped h xs sound, sound.fit.within.dropped, sound.fit.ceilings.D)

  -- a column of link numbers
  column_is : (ns : List Note) (a n : ℕ) (numbers : List ℕ) → length numbers ≡ n → length ns ≡ n → ((i : ℕ) → i < n → get_or numbers i 0 ≡ get_or xs (a + i) 0)
      → ((i : ℕ) → i < n → LinkIs (state_of h xs) ns i (get_or xs (a + i) 0)) → Column (state_of h xs) ns numbers
  column_is ns a n numbers e f g is = record {
    below = All-from_get_or (λ (l : ℕ). l < length (state_of h xs).links) numbers 0 (λ i q. omega (arith, g i (omega (arith, q, e)), (is i (omega (arith, q, e))).below));
    peers = ext_get_or 0 (map (λ (n : Note). n.peer) ns) (map (peer_at (state_of h xs)) numbers) (length-map ns (λ (n : Note). n.peer) ∙ f ∙ sym e ∙ sym (length-map numbers (peer_at (state_of h xs))))
        (λ i q. let b : i < n = omega (arith, q, length-map ns (λ (n : Note). n.peer), f) in get_or-map (λ (n : Note). n.peer) ns i (note 0 0 0) ∙ (is i b).peer ∙ ap (peer_at (state_of h xs)) (sym (g i b)) ∙ sym (map-at (peer_at (state_of h xs)) numbers i (omega (arith, b, e))));
  }

  pub note-column : (sound : Sound h xs) (of : NoteTable) (a : ℕ) → a ≡ place (limits_of h.limits) (numbers_of of) → Column (state_of h xs) (notes_of of (state_of h xs)) (take (a + count_of of h.live - a) (drop a xs))
  note-column sound of a e =
      let n = count_of of h.live in
      let f : a + n ≤ length xs = omega (arith, number-there h xs sound of n (omega arith), e) in
      let l : length (take (a + n - a) (drop a xs)) ≡ n = length-take-le (a + n - a) (drop a xs) (omega (arith, length-drop a xs, f)) ∙ omega arith in
      column_is (notes_of of (state_of h xs)) a n (take (a + n - a) (drop a xs)) l (count-notes h xs sound of)
      (λ i q. get_or-take (a + n - a) (drop a xs) i 0 (omega (arith, q)) ∙ get_or-drop a xs i 0)
      (λ i q. rw e (note-link h xs sound of i (omega (arith, q, count-notes h xs sound of))))
