-- `ihave_actions`: after i entries the timers of the first i are written.
use Rattle.announcements.proofs.Words.{ℕ, sym, ap, ◌∙◌, List, take, get_or, Scheduled, SendGraft, action_bytes, settled, shown, id_of}
use Rattle.std.proofs.Common.{take_all}
use Rattle.wire.specs.Encode.Intake.{after}
use Rattle.announcements.specs.declared.on_ihave.Unreceived.{Unreceived}
use Rattle.announcements.specs.OnIhave.{entry_value, entries_value}
use Rattle.announcements.proofs.OnIhaveLaws.{scheduled, scheduled-start, scheduled-skip, scheduled-next, scheduled-end, then-delay}
use Rattle.announcements.proofs.IhavesLaws.Ordered.{nothing, value-more}
use Rattle.announcements.proofs.on_ihave.ihave_actions.Goals as goal
use Rattle.announcements.proofs.on_ihave.ihave_actions.Goals.{then-entry, else-entry}

pub loop-entry-init : goal.loop-entry-init
loop-entry-init g c = scheduled-start (settled c.args.call.now.instant.0 (shown c.args.view.now)) (g.S.Sink.intake c.args.out.now)

pub loop-entry-preserved : goal.loop-entry-preserved
loop-entry-preserved g c =
    let v = c.args.view.now in
    let t = settled c.args.call.now.instant.0 (shown v) in
    let es = c.args.decision.now.entries.now in
    let l = c.loop-entry in
    let e = get_or es l.entry-index nothing in
    let xs = entries_value (take l.entry-index es) in
    let h = g.S.Sink.intake c.args.out.now in
    let adds = c.requires.adds l.entry-index nothing c.loop-entry-test.true in
    elim c.if-entry.branch [
      | then-entry w ↦
          ap g.S.Sink.intake w.out-is
          ∙ w.encode.ensures
          ∙ ap (λ (n : ℕ). after (action_bytes (Scheduled n (SendGraft (id_of e.id)))) (g.S.Sink.intake l.out)) (sym (then-delay c.args.call.now.instant.0 v.head.now v.block.now))
          ∙ scheduled-next t xs (entry_value e) (g.S.Sink.intake l.out) h l.invariant (sym w.if-entry.true ∙ adds.timer)
          ∙ ap (λ (x : _). after (scheduled t x) h) (sym (value-more es l.entry-index c.loop-entry-test.true))
      | else-entry w ↦
          ap g.S.Sink.intake w.out-is
          ∙ scheduled-skip t xs (entry_value e) (g.S.Sink.intake l.out) h l.invariant (sym w.if-entry.false ∙ adds.timer)
          ∙ ap (λ (x : _). after (scheduled t x) h) (sym (value-more es l.entry-index c.loop-entry-test.true))
    ]

pub returns : goal.returns
returns g c =
    let a = c.args in
    let l = c.loop-entry in
    let t = settled a.call.now.instant.0 (shown a.view.now) in
    let es = a.decision.now.entries.now in
    let h = g.S.Sink.intake a.out.now in
    l.invariant
    ∙ ap (λ (x : List Unreceived). after (scheduled t (entries_value x)) h) (take_all l.entry-index es c.loop-entry-test.false)
    ∙ ap (λ (x : List ℕ). after x h) (scheduled-end t (entries_value es) c.requires.count)
