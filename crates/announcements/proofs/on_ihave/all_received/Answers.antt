-- `all_received`: the entries that are left decide.
use Rattle.announcements.proofs.Words.{◌+◌, rules, not, sym, ap, ◌∙◌, not-true, not-false, ihave_value, ihaves_value, settled, shown}
use Rattle.announcements.specs.Ihaves.Entries.{is_received}
use Rattle.announcements.proofs.IhavesLaws.ReceivedLaws.{rest-start, rest_end, rest-next, rest-fails}
use Rattle.announcements.proofs.IhavesLaws.WalkLaws.{after_none, after-end, after-here, after-next}
use Rattle.announcements.proofs.on_ihave.all_received.Goals as goal

pub loop-ihave-init : goal.loop-ihave-init
loop-ihave-init c =
    let a = c.args in
    record { index = 0; after = after_none (search rules); so = rest-start (is_received (settled a.call.now.instant.0 (shown a.view.now))) (ihaves_value a.ihaves) }

pub returns-then-not-is_received_then : goal.returns-then-not-is_received_then
returns-then-not-is_received_then c =
    let a = c.args in
    let w = c.loop-ihave.invariant in
    rest-fails (is_received (settled a.call.now.instant.0 (shown a.view.now))) (ihaves_value a.ihaves) w.index w.so (ihave_value c.in-Some.ihave) (after-here w.after c.in-Some.ensures.steps)
    (sym c.is_received_then.ensures ∙ not-true c.is_received_then.result (ap not c.if-not-is_received_then.true))

pub loop-ihave-preserved : goal.loop-ihave-preserved
loop-ihave-preserved c =
    let a = c.args in
    let w = c.loop-ihave.invariant in
    record {
      index = w.index + 1;
      after = after-next w.after c.in-Some.ensures.steps;
      so = rest-next (is_received (settled a.call.now.instant.0 (shown a.view.now))) (ihaves_value a.ihaves) w.index w.so (ihave_value c.in-Some.ihave) (after-here w.after c.in-Some.ensures.steps)
          (sym c.is_received_then.ensures ∙ not-false c.is_received_then.result (ap not c.if-not-is_received_then.false));
    }

pub returns : goal.returns
returns c =
    let a = c.args in
    let w = c.loop-ihave.invariant in
    rest_end (is_received (settled a.call.now.instant.0 (shown a.view.now))) (ihaves_value a.ihaves) w.index w.so (after-end w.after c.in-None.ensures.steps.0)
