-- `send_graft_actions` meets its contract: none of a message that is received or that nobody announced, and else the Graft, then the timer.
use Rattle.announcements.proofs.Words.{Some, arith, sym, ap, ◌∙◌, ◌≡◌, ◌++◌, ℕ, List, id_of, Graft, Scheduled, SendGraft, message_bytes, action_bytes, settled, after_append, after_nil, shown, links-few}
use Rattle.postcard.specs.Output.{send_head}
use Rattle.wire.specs.Encode.Intake.{after}
use Rattle.block.specs.declared.links.NumberedLink.{NumberedLink}
use Rattle.announcements.specs.OnSendGraftTimer.{send_graft_bytes}
use Rattle.announcements.proofs.OnSendGraftTimerLaws.{some-hops, bytes-received, bytes-nobody, bytes-asked}
use Rattle.announcements.proofs.on_send_graft_timer.send_graft_actions.Goals as goal
use Rattle.announcements.proofs.on_send_graft_timer.send_graft_actions.Goals.{After-takes-taken}

pub returns-then-is_received_then : goal.returns-then-is_received_then
returns-then-is_received_then g c =
    let h = g.S.Sink.intake c.args.out.now in
    sym (ap (λ (bs : List ℕ). after bs h) (bytes-received c.args.call.now c.args.id (shown c.args.view.now) (sym c.is_received_then.ensures ∙ c.if-is_received_then.true)) ∙ after_nil h)

pub returns-in_default : goal.returns-in_default
returns-in_default g c =
    let h = g.S.Sink.intake c.args.out.now in
    sym (ap (λ (bs : List ℕ). after bs h) (bytes-nobody c.args.call.now c.args.id (shown c.args.view.now) (sym c.is_received_then.ensures ∙ c.if-is_received_then.false) c.in_default.ensures) ∙ after_nil h)

pub announcer-first-requires : goal.announcer-first-requires
announcer-first-requires g c = (c.in-Some.ensures.below, some-hops (shown c.args.view.now) c.in-Some.entry c.requires.rest c.in-Some.ensures.below)

pub takes-taken-requires : goal.takes-taken-requires
takes-taken-requires g c = omega (arith, c.announcer-first.ensures.below, links-few c.args.view.now.head.now c.args.view.now.block.now c.args.view.now.sound)

-- the bytes of the two actions
module _ (g : _) (c : After-takes-taken g) where
  abbrev first : List ℕ
  first = send_head c.link-peer.result.peer c.takes-taken.result ++ message_bytes (Graft (Some (id_of c.args.id)) c.announcer-first.result.round.0)

  abbrev second : List ℕ
  second = action_bytes (Scheduled c.args.view.now.head.now.settings.config.graft_timeout_2.0 (SendGraft (id_of c.args.id)))

  both : send_graft_bytes c.args.call.now c.args.id (settled c.args.call.now.instant.0 (shown c.args.view.now)) ≡ first ++ second
  both =
      let v = c.args.view.now in
      bytes-asked c.args.call.now c.args.id v.head.now v.block.now c.requires.rest c.in-Some.entry c.in-Some.ensures c.announcer-first.result c.announcer-first.ensures c.link-peer.result.peer c.takes-taken.result
      (sym c.is_received_then.ensures ∙ c.if-is_received_then.false) (ap (λ (x : NumberedLink). x.peer) c.link-peer.ensures) c.takes-taken.ensures

pub returns : goal.returns
returns g c =
    let d = (goal.at.returns g c).After-takes-taken in
    let h = g.S.Sink.intake c.args.out.now in
    c.encode-2.ensures ∙ ap (after (second g d)) c.encode.ensures ∙ after_append (first g d) (second g d) h ∙ ap (λ (bs : List ℕ). after bs h) (sym (both g d))
