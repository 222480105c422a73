-- What is decided of an eager push is right for each state of the same links, record and own number.
-- Assumes nothing.
use Rattle.payloads.proofs.Words.{◌≡◌, refl, ℕ, List, not, ◌&&◌, ◌∙◌, sym, ap, length, map, get_or, eqb, Bool, filter, member, keys, Links, eager_peers, State, with_links, with_dropped, settled, links_of, AllBelow, with_these, Call, LinkSet, settled-as, same_links, same_dropped}
use Rattle.std.proofs.Common.{subst}
use Rattle.protocol.specs.Push.{eager_targets}
use Rattle.steps.specs.Rooms.{rooms_in}
use Rattle.payloads.specs.EagerPush.Targets.{link_peers}
use Rattle.payloads.specs.EagerPush.Notes.{record_back}
use Rattle.payloads.specs.EagerPush.Decided.{PushIs}
use Rattle.payloads.specs.declared.eager_push.Push.{Push}

module _ (s t : State) (links : t.links ≡ s.links) (dropped : t.dropped ≡ s.dropped) (me : t.settings.me ≡ s.settings.me) where
  same-targets : (sender : ℕ) (skip : List ℕ) → eager_targets sender skip t ≡ eager_targets sender skip s
  unfolding eager_targets
  same-targets sender skip = λ j. filter (λ p. not (eqb p (me j)) && not (eqb p sender) && not (member p skip)) (eager_peers (links j))

  same-peers : (to : LinkSet) → link_peers to s ≡ link_peers to t
  same-peers to = ap (λ (l : Links). map (λ i. get_or (keys l) i 0) (links_of to)) (sym links)

  same-back : (held : ℕ → Bool) (call : Call) (to : LinkSet) (id round : ℕ) → record_back held call to id round t ≡ record_back held call to id round s
  unfolding rooms_in
  same-back held call to id round = λ j. record_back held call to id round (with_dropped (dropped j) (with_links (links j) s))

  same-these : (ls : List ℕ) (id round : ℕ) → with_these ls id round s ≡ with_these ls id round t
  same-these ls id round = sym (λ j. with_these ls id round (with_dropped (dropped j) (with_links (links j) s)))

  pub push-same : (call : Call) (sender : ℕ) (skip : List ℕ) (id : ℕ) (push : Push) → PushIs call sender skip id s push → PushIs call sender skip id t push
  push-same call sender skip id push d = record {
    to = record { below = subst (λ (l : Links). AllBelow push.to (length l)) (sym links) d.to.below; same = same-targets sender skip ∙ d.to.same ∙ same-peers push.to };
    noted = record {
      below = subst (λ (l : Links). AllBelow push.noted (length l)) (sym links) d.noted.below;
      same = λ held round c. same-back held call push.to id round ∙ d.noted.same held round c ∙ same-these (links_of push.noted) id round;
    };
  }

-- a first event's eviction leaves them
pub push-settled : (now : ℕ) (s : State) (call : Call) (sender : ℕ) (skip : List ℕ) (id : ℕ) (push : Push) → PushIs call sender skip id s push → PushIs call sender skip id (settled now s) push
push-settled now s = push-same s (settled now s) (same_links now s) (same_dropped now s) (settled-as now s (λ (u : State). u.settings.me) refl)
