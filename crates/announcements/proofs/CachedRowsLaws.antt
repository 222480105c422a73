-- Rows of the record told as cached or not, one after the other.
-- Assumes nothing.
use Rattle.announcements.proofs.Words.{◌≡◌, sym, ap, ◌∙◌, Bool, false, List, ℕ, ◌+◌, ◌<◌, arith, length, get_or, set, get_or-set_same, get_or-set_other, cases, eqb, eqb-true, eqb-false, holds, State, Note, note_at, NoteOf, id_of, settled, same_dropped}
use Rattle.block.specs.declared.note.Note.{Note as LinkNote}
use Rattle.announcements.specs.CachedRows.{CachedTold, CachedRows}

module _ (s : State) where
  abbrev pub held : ℕ → Bool
  held id = holds id s.cache

  pub told-none : (cached : List Bool) → CachedTold s 0 cached
  told-none cached = record { each = λ r h. absurd (omega arith) }

  module _ (i : ℕ) (cached : List Bool) (t : CachedTold s i cached) where
    pub told-next : (v : Bool) → i < length cached → v ≡ held (note_at s.dropped i).id → CachedTold s (i + 1) (set cached i v)
    told-next v within e = record {
      each = λ r h.
          cases (eqb r i)
          (λ same. let q : r ≡ i = eqb-true r i same in
          ap (λ (n : ℕ). get_or (set cached i v) n false) q ∙ get_or-set_same cached i v false within ∙ e ∙ ap (λ (n : ℕ). held (note_at s.dropped n).id) (sym q))
          (λ other. get_or-set_other cached i r v false (eqb-false r i other) ∙ t.each r (let d : (r ≡ i → ⊥) = eqb-false r i other in omega arith));
    }

    -- a row before that has the same identifier
    pub told-again : (row : ℕ) → row < i → (note_at s.dropped row).id ≡ (note_at s.dropped i).id → get_or cached row false ≡ held (note_at s.dropped i).id
    told-again row h e = t.each row h ∙ ap held e

-- a row that was read, told as it is
pub told-as : (s : State) (cached : List Bool) → CachedRows s cached → (i : ℕ) → i < length s.dropped → (id : ℕ) → (note_at s.dropped i).id ≡ id → (b : Bool) → get_or cached i false ≡ b → holds id s.cache ≡ b
told-as s cached c i h id is b e = ap (λ (x : ℕ). holds x s.cache) (sym is) ∙ sym (c.told.each i h) ∙ e

pub row-id : (s : State) (i : ℕ) (r : LinkNote) → NoteOf s (note_at s.dropped i) r → (note_at s.dropped i).id ≡ id_of r.id
row-id s i r is = ap (λ n. n.id) is.same

-- a first event leaves the record
pub row-then : (now : ℕ) (s : State) (i : ℕ) (r : LinkNote) → NoteOf s (note_at s.dropped i) r → (note_at (settled now s).dropped i).id ≡ id_of r.id
row-then now s i r is = ap (λ (ns : List Note). (note_at ns i).id) (same_dropped now s) ∙ row-id s i r is

pub rows-then : (now : ℕ) (s : State) → length (settled now s).dropped ≡ length s.dropped
rows-then now s = ap length (same_dropped now s)
