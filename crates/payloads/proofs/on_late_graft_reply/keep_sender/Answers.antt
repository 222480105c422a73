-- `keep_sender` meets its contract: by the entry that is found, if there is one.
use Rattle.payloads.proofs.Words.{None, ◌≡◌, ◌∙◌, refl, id_of, get, State, settled, state, HeldAt, grafted-order, same-state}
use Rattle.std.proofs.Common.{subst}
use Rattle.steps.specs.Settled.Then.{no_grafted}
use Rattle.payloads.proofs.OnLateGraftReplyLaws.{kept-none, kept-some}
use Rattle.payloads.proofs.on_late_graft_reply.keep_sender.Goals as goal
use Rattle.payloads.proofs.on_late_graft_reply.keep_sender.Goals.{In-Some}

-- the entry, of the panel
found : (c : In-Some) → HeldAt no_grafted (state c.args.panel.now).grafted.entries (id_of c.args.copy.id) (get (id_of c.args.copy.id) (settled c.args.call.now.instant.0 (state c.args.panel.now)).grafted) c.in-Some.entry
found c =
    subst (λ (s : State). HeldAt no_grafted s.grafted.entries (id_of c.args.copy.id) (get (id_of c.args.copy.id) (settled c.args.call.now.instant.0 s).grafted) c.in-Some.entry)
    (same-state c.args.panel.now c.view.result c.view.ensures.head c.view.ensures.block) c.in-Some.ensures

pub keep_sender-requires : goal.keep_sender-requires
keep_sender-requires c = (grafted-order (state c.args.panel.now) c.requires.0, (found (goal.at.keep_sender-requires c).In-Some).below)

pub returns-in-Some : goal.returns-in-Some
returns-in-Some c =
    let a = c.args in
    record {
      state = c.keep_sender.ensures.state ∙ kept-some a.call.now.instant.0 a.copy (state a.panel.now) c.requires.1 c.in-Some.entry (found (goal.at.returns-in-Some c).In-Some);
      loan = c.keep_sender.ensures.loan;
    }

pub returns-in_default : goal.returns-in_default
returns-in_default c =
    let a = c.args in
    let none-there = subst (λ (s : State). get (id_of a.copy.id) (settled a.call.now.instant.0 s).grafted ≡ None) (same-state a.panel.now c.view.result c.view.ensures.head c.view.ensures.block) c.in_default.ensures in
    record { state = kept-none a.call.now.instant.0 a.copy (state a.panel.now) c.requires.1 none-there; loan = refl }
