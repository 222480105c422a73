-- `announce_actions` meets its contract: dispatch if a queue stands, then itself if a record does.
use Rattle.announcements.proofs.Words.{◌≡◌, ◌++◌, ◌∙◌, sym, ap, List, ℕ, false, ltb, Bool, concat_map, action_bytes, announce_action, settled, after_append, shown}
use Rattle.wire.specs.Encode.Intake.{after}
use Rattle.announcements.specs.OnAnnounceDroppedTimer.{announce_bytes}
use Rattle.announcements.proofs.OnAnnounceDroppedTimerLaws.{stands-bytes, queue_bytes, none-after, record-told}
use Rattle.announcements.proofs.on_announce_dropped_timer.announce_actions.Goals as goal
use Rattle.announcements.proofs.on_announce_dropped_timer.announce_actions.Goals.{Joined-queue_stands, then-queue_stands, else-queue_stands}

-- the dispatch timer, if a queue stands
first : (g : _) (c : Joined-queue_stands g) → g.S.Sink.intake c.if-queue_stands.out ≡ after (queue_bytes (shown c.args.view.now) c.queue_stands.result) (g.S.Sink.intake c.args.out.now)
first g c =
    let s = shown c.args.view.now in
    let h = g.S.Sink.intake c.args.out.now in
    elim c.if-queue_stands.branch [
      | then-queue_stands w ↦ ap g.S.Sink.intake w.out-is ∙ w.schedule_dispatch.ensures ∙ ap (λ (b : Bool). after (queue_bytes s b) h) (sym w.if-queue_stands.true)
      | else-queue_stands w ↦ ap g.S.Sink.intake w.out-is ∙ none-after s h ∙ ap (λ (b : Bool). after (queue_bytes s b) h) (sym w.if-queue_stands.false)
    ]

-- the bytes of both
both : (g : _) (c : Joined-queue_stands g)
    → announce_bytes (settled c.args.call.now.instant.0 (shown c.args.view.now))
    ≡ queue_bytes (shown c.args.view.now) c.queue_stands.result ++ concat_map action_bytes (announce_action (ltb 0 c.args.cached.now.left) false)
both g c =
    let now = c.args.call.now.instant.0 in
    let s = shown c.args.view.now in
    stands-bytes now s c.queue_stands.result (ltb 0 c.args.cached.now.left) c.queue_stands.ensures (record-told now s c.args.cached.now.left c.requires.cached.left)

pub returns : goal.returns
returns g c =
    let d = (goal.at.returns g c).Joined-queue_stands in
    let h = g.S.Sink.intake c.args.out.now in
    let a = queue_bytes (shown c.args.view.now) c.queue_stands.result in
    let b = concat_map action_bytes (announce_action (ltb 0 c.args.cached.now.left) false) in
    c.schedule_announce_dropped.ensures ∙ ap (after b) (first g d) ∙ after_append a b h ∙ ap (λ (bs : List ℕ). after bs h) (sym (both g d))
