-- The notes of one peer, passed by a cursor in each of two lists, and the notes of all links.
-- Assumes nothing.
use Rattle.alike.proofs.Words.{◌≡◌, sym, ap, ◌∙◌, Bool, true, false, ◌&&◌, List, [], ◌∷◌, ℕ, ◌+◌, ◌≤◌, ◌<◌, add-one, eqb-true, eq-eqb, leb-true, leb-false, eqb, leb, length, drop, get_or, drop_of_length-le, drop-cons, Note, peer_at, note, notes_of, shown}
use Rattle.storage.specs.Lists.Base.{filter}
use Rattle.storage.proofs.ListsLaws.MapLaws.{cases, true≢}
use Rattle.storage.proofs.ListsLaws.ListLaws.{all_append}
use Rattle.storage.proofs.ListsLaws.Places.{at_all}
use Rattle.storage.specs.Rows.Ident.{id_of}
use Rattle.protocol.specs.Push.{for_peer}
use Rattle.protocol.specs.Alike.{same_list, same_note, same_notes}
use Rattle.protocol.proofs.AlikeCallsLaws.Reflect.{tells-notes}
use Rattle.protocol.proofs.AlikeCallsLaws.Stay.{list-refl, note-refl}
use Rattle.block.specs.declared.panel.View.{View}
use Rattle.block.specs.declared.note.Note.{Note as LinkNote}
use Rattle.block.specs.declared.note.NoteTable.{NoteTable}
use Rattle.block.proofs.NoteLaws.{note-link}
use Rattle.alike.specs.NoteTable.{same_inside, same_for, NextOf}

-- a note for another peer is passed, one for the peer is the first of those that are left
module _ (p : ℕ) (ns : List Note) (i : ℕ) (h : i < length ns) where
  pub other-first : for_peer p (get_or ns i (note 0 0 0)) ≡ false → filter (for_peer p) (drop i ns) ≡ filter (for_peer p) (drop (i + 1) ns)
  unfolding filter
  other-first e = ap (filter (for_peer p)) (drop-cons ns i (note 0 0 0) h) ∙ rw (e, add-one)

  own_first : for_peer p (get_or ns i (note 0 0 0)) ≡ true → filter (for_peer p) (drop i ns) ≡ get_or ns i (note 0 0 0) ∷ filter (for_peer p) (drop (i + 1) ns)
  unfolding filter
  own_first e = ap (filter (for_peer p)) (drop-cons ns i (note 0 0 0) h) ∙ rw (e, add-one)

none_left : (p : ℕ) (ns : List Note) (i : ℕ) → length ns ≤ i → filter (for_peer p) (drop i ns) ≡ []
unfolding filter
none_left p ns i h = ap (filter (for_peer p)) (drop_of_length-le ns h)

-- a cursor in each list, at a note for the peer or at the end; the notes from there on are still to be compared
pub record Cursors (p : ℕ) (xs ys : List Note) (i j : ℕ) : Type 0 where
  pub first : i ≤ length xs
  pub second : j ≤ length ys
  pub at_first : i < length xs → for_peer p (get_or xs i (note 0 0 0)) ≡ true
  pub at_second : j < length ys → for_peer p (get_or ys j (note 0 0 0)) ≡ true
  pub left : same_for p xs ys ≡ same_list same_note (filter (for_peer p) (drop i xs)) (filter (for_peer p) (drop j ys))

module _ (p : ℕ) (xs ys : List Note) where
  abbrev Xs : ℕ → List Note
  Xs i = filter (for_peer p) (drop i xs)

  abbrev Ys : ℕ → List Note
  Ys j = filter (for_peer p) (drop j ys)

  module _ (i j : ℕ) (c : Cursors p xs ys i j) where
    -- the first list has one more
    module _ (h : i < length xs) where
      opened : Xs i ≡ get_or xs i (note 0 0 0) ∷ Xs (i + 1)
      opened = own_first p xs i h (c.at_first h)

      pub cursors-short : length ys ≤ j → false ≡ same_for p xs ys
      unfolding same_list
      cursors-short g = sym (c.left ∙ (λ k. same_list same_note (opened k) (none_left p ys j g k)))

      -- and the second too
      module _ (g : j < length ys) where
        here : same_for p xs ys ≡ (same_note (get_or xs i (note 0 0 0)) (get_or ys j (note 0 0 0)) && same_list same_note (Xs (i + 1)) (Ys (j + 1)))
        unfolding same_list
        here = c.left ∙ (λ k. same_list same_note (opened k) (own_first p ys j g (c.at_second g) k))

        pub cursors-differ : same_note (get_or xs i (note 0 0 0)) (get_or ys j (note 0 0 0)) ≡ false → false ≡ same_for p xs ys
        cursors-differ e = sym (here ∙ ap (λ (t : Bool). t && same_list same_note (Xs (i + 1)) (Ys (j + 1))) e)

        pub cursors-more : same_note (get_or xs i (note 0 0 0)) (get_or ys j (note 0 0 0)) ≡ true → (i' j' : ℕ) → NextOf p (i + 1) xs i' → NextOf p (j + 1) ys j' → Cursors p xs ys i' j'
        cursors-more e i' j' a b = record {
          first = a.within;
          second = b.within;
          at_first = a.found;
          at_second = b.found;
          left = here ∙ ap (λ (t : Bool). t && same_list same_note (Xs (i + 1)) (Ys (j + 1))) e ∙ (λ k. same_list same_note (a.passed k) (b.passed k));
        }

    -- the first list has no more
    pub cursors-end : length xs ≤ i → leb (length ys) j ≡ same_for p xs ys
    unfolding same_list
    cursors-end h =
        cases (leb (length ys) j)
        (λ t. t ∙ sym (c.left ∙ (λ k. same_list same_note (none_left p xs i h k) (none_left p ys j (leb-true (length ys) j t) k))))
        (λ t. let g : j < length ys = leb-false (length ys) j t in t ∙ sym (c.left ∙ (λ k. same_list same_note (none_left p xs i h k) (own_first p ys j g (c.at_second g) k))))

-- two notes for one peer
pub same-inside : (p : ℕ) (m n : Note) (x y : LinkNote) → for_peer p m ≡ true → for_peer p n ≡ true → m.id ≡ id_of x.id → m.round ≡ x.round.0 → n.id ≡ id_of y.id → n.round ≡ y.round.0 →
    same_note m n ≡ same_inside x y
unfolding same_note
same-inside p m n x y a b e f g h =
    let z : eqb m.peer n.peer ≡ true = eq-eqb m.peer n.peer (eqb-true m.peer p a ∙ sym (eqb-true n.peer p b)) in
    λ k. z k && eqb (e k) (g k) && eqb (f k) (h k)

-- the notes of one peer differ
pub notes-no : (p : ℕ) (xs ys : List Note) → same_for p xs ys ≡ false → same_notes xs ys ≡ false
notes-no p xs ys e =
    cases (same_notes xs ys)
    (λ t. true≢ (sym e ∙ (λ k. same_list same_note ((tells-notes xs ys t).same p k) (filter (for_peer p) ys)) ∙ list-refl same_note note-refl (filter (for_peer p) ys)))
    (λ t. t)

-- the notes of every link agree
module _ (of : NoteTable) (v w : View) where
  abbrev xs : List Note
  xs = notes_of of (shown v)

  abbrev ys : List Note
  ys = notes_of of (shown w)

  pub notes-yes : ((l : ℕ) → l < length (shown v).links → same_for (peer_at (shown v) l) xs ys ≡ true) → ((l : ℕ) → l < length (shown w).links → same_for (peer_at (shown w) l) xs ys ≡ true) → same_notes xs ys ≡ true
  unfolding same_notes
  notes-yes f g =
      all_append (λ n. same_for n.peer xs ys) xs ys
      (at_all (λ n. same_for n.peer xs ys) (note 0 0 0) xs (λ i h. let k = note-link v.head.now v.block.now v.sound of i h in ap (λ (q : ℕ). same_for q xs ys) k.peer ∙ f _ k.below))
      (at_all (λ n. same_for n.peer xs ys) (note 0 0 0) ys (λ i h. let k = note-link w.head.now w.block.now w.sound of i h in ap (λ (q : ℕ). same_for q xs ys) k.peer ∙ g _ k.below))
