-- `decide_own_push` meets its contract: what it finds before a first event's eviction is right of what that leaves.
use Rattle.payloads.proofs.Words.{◌≡◌, ◌∙◌, ℕ, [], List, None, refl, sym, keys, id_of, State, settled, shown, settled-as}
use Rattle.std.proofs.Common.{subst}
use Rattle.steps.specs.Grafted.{peers_at}
use Rattle.payloads.specs.EagerPush.Decided.{PushIs}
use Rattle.payloads.proofs.EagerPushLaws.SameLaws.{push-settled}
use Rattle.payloads.proofs.PushedLaws.{own-number}
use Rattle.payloads.proofs.broadcast.decide_own_push.Goals as goal

-- no peer is skipped
no-peers : (s : State) → keys (peers_at None s) ≡ []
unfolding peers_at
no-peers s = refl

pub returns : goal.returns
returns c =
    let a = c.args in
    let v = a.view.now in
    let now = a.call.now.instant.0 in
    let s = shown v in
    let id = id_of a.id in
    let push = c.decide_push.result in
    subst (λ (p : ℕ). PushIs a.call.now p [] id (settled now s) push) (sym (settled-as now s (λ (u : State). u.settings.me) refl ∙ own-number v.head.now v.block.now))
    (push-settled now s a.call.now v.head.now.settings.me [] id push (subst (λ (ps : List ℕ). PushIs a.call.now v.head.now.settings.me ps id s push) (no-peers s) c.decide_push.ensures))
