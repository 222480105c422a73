-- `new_entry`: by the tests of the code.
use Rattle.announcements.proofs.Words.{◌≡◌, refl, sym, ap, ◌∙◌, subst, Bool, true, false, not, ◌||◌, ℕ, id_of, settled, shown, member}
use Rattle.std.specs.Prelude.{Result}
use Rattle.storage.specs.Rows.Sorted.{FoundIs}
use Rattle.block.proofs.KeyMembers.{member-here}
use Rattle.announcements.specs.OnIhave.{entries_value, entries_at, ids, received}
use Rattle.announcements.proofs.OnIhaveLaws.{same-missing, same-marks}
use Rattle.announcements.proofs.on_ihave.new_entry.Goals as goal

first : (a b : Bool) → a ≡ true → (a || b) ≡ true
first a b e = ap (λ (c : Bool). c || b) e

second : (a b : Bool) → b ≡ true → (a || b) ≡ true
second true b e = refl
second false b e = e

pub returns-then-is_received_then : goal.returns-then-is_received_then
returns-then-is_received_then c =
    let s = settled c.args.call.now.instant.0 (shown c.args.view.now) in
    first (received s (id_of c.args.ihave.id)) (member (id_of c.args.ihave.id) (ids (entries_at (entries_value c.args.entries.now) c.args.order.now))) (sym c.is_received_then.ensures ∙ c.if-is_received_then.true)

pub returns-in_default : goal.returns-in_default
returns-in_default c =
    let a = c.args in
    let s = settled a.call.now.instant.0 (shown a.view.now) in
    let ks = ids (entries_at (entries_value a.entries.now) a.order.now) in
    let found = subst (λ (r : Result ℕ ℕ). FoundIs ks (id_of a.ihave.id) r) c.in_default.is c.find_entry.ensures in
    second (received s (id_of a.ihave.id)) (member (id_of a.ihave.id) ks) (member-here (id_of a.ihave.id) c.in_default.field-0 ks found)

pub returns : goal.returns
returns c =
    let a = c.args in
    let now = a.call.now.instant.0 in
    let i = id_of a.ihave.id in
    record {
      unreceived = sym c.is_received_then.ensures ∙ c.if-is_received_then.false;
      place = subst (λ (r : Result ℕ ℕ). FoundIs (ids (entries_at (entries_value a.entries.now) a.order.now)) i r) c.in-Err.is c.find_entry.ensures;
      announces = refl;
      adds = record {
        missing = ap not (c.is_missing.ensures ∙ sym (same-missing now (shown a.view.now) i));
        timer = ap not (c.has_timer.ensures ∙ sym (same-marks now (shown a.view.now) i));
      };
    }
