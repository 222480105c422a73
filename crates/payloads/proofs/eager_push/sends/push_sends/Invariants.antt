-- `push_sends`: the sends to the links before this one are out, and `back` tells whether any of them was handed back.
use Rattle.payloads.proofs.Words.{◌≡◌, after, shown}
use Rattle.payloads.proofs.EagerPushLaws.SendLaws.{sends_to, any_back}
use Rattle.payloads.proofs.eager_push.sends.push_sends.Given as goal

abbrev pub invariant-loop-link : goal.invariant-loop-link
invariant-loop-link g l = record {
  sent : g.S.Sink.intake l.out ≡ after (sends_to l.call l.fn.to l.message (shown l.view) l.link) (g.S.Sink.intake l.initial.out);
  back : l.back ≡ any_back l.call l.fn.to l.message (shown l.view) l.link;
}
