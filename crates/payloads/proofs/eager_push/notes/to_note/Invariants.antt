use Rattle.payloads.proofs.Words.{◌≡◌, ◌+◌, length, id_of, shown, links_of, AllBelow}
use Rattle.payloads.proofs.EagerPushLaws.NoteLaws.{Noted}
use Rattle.payloads.proofs.eager_push.notes.to_note.Given as goal

-- of the links before this one, these get a note
abbrev pub invariant-loop-link : goal.invariant-loop-link
invariant-loop-link l = record {
  below : AllBelow l.noted l.link;
  recorded : l.recorded ≡ length (shown l.view).dropped + length (links_of l.noted);
  noted : Noted l.call l.fn.to (id_of l.fn.id) (shown l.view) l.link (links_of l.noted);
}
