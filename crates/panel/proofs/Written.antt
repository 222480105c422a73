-- Bytes written in several writes: the front that stands there, and what is left of them.
use Rattle.std.proofs.Common.{ℕ, ◌≡◌, refl, sym, ap, ◌∙◌, Option, List, [], ◌++◌, append_assoc, take-append-drop, take, drop}
use Rattle.std.specs.Io.KnownBytes.{Appends, Keeps}
use Rattle.std.proofs.KnownBytes.{Appends-nil, Appends-trans, Appends-kept}
use Rattle.panel.specs.Writing.{AppendsFront}

-- a front is written, and the rest is left
abbrev pub Fronts : Option (List ℕ) → Option (List ℕ) → List ℕ → List ℕ → Type 0
Fronts held held' bytes rest = (f : AppendsFront held held' bytes) × (f.left_out ≡ rest)

pub fronts-none : (held : Option (List ℕ)) (bytes : List ℕ) → Fronts held held bytes bytes
fronts-none held bytes = (record { front = []; left_out = bytes; whole = refl; added = Appends-nil held }, refl)

-- one write more
pub fronts-write : {held held' held'' : Option (List ℕ)} {bytes rest rest' : List ℕ} (n : ℕ) → Fronts held held' bytes rest → Appends held' held'' (take n rest) → rest' ≡ drop n rest → Fronts held held'' bytes rest'
fronts-write {held} {held'} {held''} {bytes} {rest} {rest'} n f a r =
    let joined : rest ≡ take n rest ++ rest' = sym (take-append-drop n rest) ∙ ap (λ (x : List ℕ). take n rest ++ x) (sym r) in (
      record {
        front = f.0.front ++ take n rest;
        left_out = rest';
        whole = f.0.whole ∙ ap (λ (x : List ℕ). f.0.front ++ x) (f.1 ∙ joined) ∙ sym (append_assoc f.0.front (take n rest) rest');
        added = Appends-trans held held' held'' _ _ f.0.added a;
      },
      refl,
    )

-- a write that wrote nothing
pub fronts-kept : {held held' held'' : Option (List ℕ)} {bytes rest : List ℕ} → Fronts held held' bytes rest → Keeps held' held'' → Fronts held held'' bytes rest
fronts-kept {held} {held'} {held''} f k = (record { front = f.0.front; left_out = f.0.left_out; whole = f.0.whole; added = Appends-kept held held' held'' _ f.0.added k }, f.1)
