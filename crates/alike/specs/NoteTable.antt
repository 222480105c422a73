-- Queue and record, of which the notes of each link are compared.
-- Assumes nothing.
use Rattle.std.specs.Prelude.{ℕ, ◌≤◌, ◌<◌, ◌≡◌, Bool, true, ◌&&◌, List, eqb, length, drop, get_or}
use Rattle.storage.specs.Lists.Base.{filter}
use Rattle.storage.specs.Rows.Ident.{id_of}
use Rattle.protocol.specs.State.{Note}
use Rattle.protocol.specs.Push.{for_peer}
use Rattle.protocol.specs.Alike.{same_list, same_note}
use Rattle.block.specs.NoteSteps.{note}
use Rattle.block.specs.declared.note.Note.{Note as LinkNote}

-- two notes for one peer have the same identifier and round
abbrev pub same_inside : LinkNote → LinkNote → Bool
same_inside x y = eqb (id_of x.id) (id_of y.id) && eqb x.round.0 y.round.0

-- a peer has the same notes in the same order
abbrev pub same_for : ℕ → List Note → List Note → Bool
same_for p xs ys = same_list same_note (filter (for_peer p) xs) (filter (for_peer p) ys)

-- r is the place of the first note for the peer from a place on; where there is none, the end
pub record NextOf (p from : ℕ) (ns : List Note) (r : ℕ) : Type 0 where
  pub after : from ≤ r
  pub within : r ≤ length ns
  pub passed : filter (for_peer p) (drop from ns) ≡ filter (for_peer p) (drop r ns)
  pub found : r < length ns → for_peer p (get_or ns r (note 0 0 0)) ≡ true
