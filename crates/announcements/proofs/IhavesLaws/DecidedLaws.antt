-- What is decided of an IHave does what the IHave does.
-- Assumes nothing.
use Rattle.announcements.proofs.Words.{◌≡◌, sym, ap, ◌∙◌, true, ℕ, ◌≤◌, arith, not, List, [], map, length, keys, member, ascending, Ihave, Scheduled, SendGraft, State}
use lib.ListN.{length-map}
use Rattle.storage.specs.Lists.Base.{filter}
use Rattle.decide.specs.NewIds.{new_ids, known_timer}
use Rattle.decide.specs.StateAfter.{ihave_state}
use Rattle.decide.specs.ActionsAfter.{ihave_actions}
use Rattle.announcements.specs.Ihaves.Entries.{new_entries}
use Rattle.announcements.specs.declared.on_ihave.Unreceived.{Unreceived}
use Rattle.announcements.specs.OnIhave.{entry_value, entries_value, received, IhaveDecided}
use Rattle.announcements.proofs.IhavesLaws.Entries.{entries-again, entries-few, ids-new}
use Rattle.announcements.proofs.IhavesLaws.Merged.{entries-state}

module _ (s : State) (hs : List Ihave) (es : List Unreceived) (ns : List ℕ) (d : IhaveDecided s hs es ns) where
  -- of the entries themselves the same is decided
  pub decided-each : IhaveDecided s (entries_value es) es ns
  decided-each = record {
    count = d.count ∙ sym (entries-again (received s) [] hs) ∙ ap (new_entries (received s) []) (sym d.count);
    adds = d.adds;
    all = d.all;
    there = d.there;
    ascend = d.ascend;
    same = d.same;
  }

  pub decided-few : length es ≤ length hs
  decided-few = omega (arith, length-map es entry_value, ap (λ (l : List Ihave). length l) d.count, entries-few (received s) hs)

  pub decided-state : (p : ℕ) → ascending (keys s.missing) ≡ true → ascending s.timers.graft ≡ true → ihave_state p hs s ≡ ihave_state p (entries_value es) s
  decided-state p u v = sym (ap (λ (l : List Ihave). ihave_state p l s) d.count ∙ entries-state p hs s u v)

  further : List Ihave → List ℕ
  further l = map (λ h. h.id) (filter (λ h. not (member h.id s.timers.graft)) l)

  timers : (l : List Ihave) → new_ids (known_timer s) [] l ≡ further (new_entries (received s) [] l)
  unfolding known_timer further
  timers l = ids-new (received s) (λ i. member i s.timers.graft) l

  pub decided-actions : ihave_actions hs s ≡ ihave_actions (entries_value es) s
  unfolding ihave_actions
  decided-actions =
      ap (map (λ i. Scheduled s.settings.graft_timeout_1 (SendGraft i)))
      (timers hs ∙ ap further (sym (entries-again (received s) [] hs) ∙ ap (new_entries (received s) []) (sym d.count)) ∙ sym (timers (entries_value es)))
