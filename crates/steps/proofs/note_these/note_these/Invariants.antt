use Rattle.steps.proofs.Words.{id_of, Goes}
use Rattle.steps.specs.LinkSets.{links_below}
use Rattle.steps.proofs.NoteTheseLaws.{noting}
use Rattle.steps.proofs.note_these.note_these.Given as goal

-- the links before this one have their note
abbrev pub invariant-loop-link : goal.invariant-loop-link
invariant-loop-link l = Goes (noting (links_below l.noted l.link) (id_of l.fn.id) l.fn.round.0) l.fn.panel l.panel
