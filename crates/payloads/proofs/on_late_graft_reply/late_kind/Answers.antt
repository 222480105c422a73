-- `late_kind` meets its contract: by each test in turn.
use Rattle.payloads.proofs.Words.{◌≡◌, ◌∙◌, ap, sym, ℕ, true, false, has, faster, hop, shown}
use Rattle.std.proofs.lemmas.Bool.{not-true, not-false}
use Rattle.postcard.specs.Values.{delivery_value}
use Rattle.block.specs.Caches.GraftSteps.{grafts_at}
use Rattle.payloads.proofs.OnLateGraftReplyLaws.{link-eager, from-none, from-other, from-again, from-far, from-lazy, from-near, kind-none, kind-held, kind-stranger}
use Rattle.payloads.proofs.on_late_graft_reply.late_kind.Goals as goal
use Rattle.payloads.proofs.on_late_graft_reply.late_kind.Goals.{After-is_grafted, then-not-no_more_hops-via-then-not-no_more_hops, then-not-no_more_hops-via-else-not-no_more_hops+then-not-link}

-- whether the sender is grafted
among : (c : After-is_grafted) → has c.args.sender (grafts_at (shown c.args.view.now) c.in-Some.entry).peers ≡ c.is_grafted.result
among c = ap (λ (p : ℕ). has p (grafts_at (shown c.args.view.now) c.in-Some.entry).peers) (sym c.in-Some-find_link.ensures.peer) ∙ sym c.is_grafted.ensures

pub returns-in_default-clause-kind : goal.returns-in_default-clause-kind
returns-in_default-clause-kind c = kind-none c.args.call.now.instant.0 c.args.sender c.args.id c.args.delivery (shown c.args.view.now) c.in_default.ensures

pub returns-in_default-first_copy-clause-kind : goal.returns-in_default-first_copy-clause-kind
returns-in_default-first_copy-clause-kind c =
    let s = shown c.args.view.now in
    let k = c.args in
    from-none k.sender (delivery_value k.delivery) s.links (grafts_at s c.in-Some.entry) c.in_default-first_copy.ensures ∙ kind-held c.args.call.now.instant.0 k.sender k.id k.delivery s c.in-Some.entry c.in-Some.ensures

pub returns-in_default-find_link-clause-kind : goal.returns-in_default-find_link-clause-kind
returns-in_default-find_link-clause-kind c =
    kind-stranger c.args.call.now.instant.0 c.args.sender c.args.id c.args.delivery (shown c.args.view.now) c.in-Some.entry c.in-Some.ensures c.requires c.in_default-find_link.ensures

pub returns-then-not-is_grafted-clause-kind : goal.returns-then-not-is_grafted-clause-kind
returns-then-not-is_grafted-clause-kind c =
    let s = shown c.args.view.now in
    let k = c.args in
    from-other k.sender (delivery_value k.delivery) s.links (grafts_at s c.in-Some.entry) (among (goal.at.returns-then-not-is_grafted-clause-kind c).After-is_grafted ∙ c.if-not-is_grafted.true)
    ∙ kind-held c.args.call.now.instant.0 k.sender k.id k.delivery s c.in-Some.entry c.in-Some.ensures

pub returns-then-is_repeated-clause-kind : goal.returns-then-is_repeated-clause-kind
returns-then-is_repeated-clause-kind c =
    let s = shown c.args.view.now in
    let k = c.args in
    let f = c.in-Some-first_copy.first in
    from-again k.sender (delivery_value k.delivery) s.links (grafts_at s c.in-Some.entry) (hop f.sender f.round.0) c.in-Some-first_copy.ensures (among (goal.at.returns-then-is_repeated-clause-kind c).After-is_grafted ∙ c.if-not-is_grafted.false)
    (sym c.is_repeated.ensures ∙ c.if-is_repeated.true)
    ∙ kind-held c.args.call.now.instant.0 k.sender k.id k.delivery s c.in-Some.entry c.in-Some.ensures

pub returns-then-not-no_more_hops-clause-kind : goal.returns-then-not-no_more_hops-clause-kind
returns-then-not-no_more_hops-clause-kind c =
    let s = shown c.args.view.now in
    let k = c.args in
    let f = c.in-Some-first_copy.first in
    let g = grafts_at s c.in-Some.entry in
    let q = among (goal.at.returns-then-not-no_more_hops-clause-kind c).After-is_grafted ∙ c.if-not-is_grafted.false in
    let r = sym c.is_repeated.ensures ∙ c.if-is_repeated.false in
    elim c.then-not-no_more_hops.branch [
      | then-not-no_more_hops-via-then-not-no_more_hops w ↦
          from-far k.sender (delivery_value k.delivery) s.links g (hop f.sender f.round.0) c.in-Some-first_copy.ensures q r (sym c.no_more_hops.ensures ∙ w.if-not-no_more_hops.true)
      | then-not-no_more_hops-via-else-not-no_more_hops+then-not-link w ↦
          from-lazy k.sender (delivery_value k.delivery) s.links g (hop f.sender f.round.0) c.in-Some-first_copy.ensures q r
          (link-eager s k.sender c.in-Some-find_link.link c.requires.consistent.core.links_up c.in-Some-find_link.ensures w.link.result w.link.ensures ∙ not-true w.link.result.eager w.if-not-link.true)
    ]
    ∙ kind-held c.args.call.now.instant.0 k.sender k.id k.delivery s c.in-Some.entry c.in-Some.ensures

pub returns-in-Some-lazy_first-clause-kind : goal.returns-in-Some-lazy_first-clause-kind
returns-in-Some-lazy_first-clause-kind c =
    let s = shown c.args.view.now in
    let k = c.args in
    let f = c.in-Some-first_copy.first in
    let l = c.in-Some-lazy_first.ensures in
    ap faster l.0.peer
    ∙ from-near k.sender (delivery_value k.delivery) s.links (grafts_at s c.in-Some.entry) (hop f.sender f.round.0) c.in-Some-first_copy.ensures (among (goal.at.returns-in-Some-lazy_first-clause-kind c).After-is_grafted ∙ c.if-not-is_grafted.false)
    (sym c.is_repeated.ensures ∙ c.if-is_repeated.false) (sym c.no_more_hops.ensures ∙ c.if-not-no_more_hops.false)
    (link-eager s k.sender c.in-Some-find_link.link c.requires.consistent.core.links_up c.in-Some-find_link.ensures c.link.result c.link.ensures ∙ not-false c.link.result.eager c.if-not-link.false) true l.1
    ∙ kind-held c.args.call.now.instant.0 k.sender k.id k.delivery s c.in-Some.entry c.in-Some.ensures

pub returns-in-Some-lazy_first-clause-held : goal.returns-in-Some-lazy_first-clause-held
returns-in-Some-lazy_first-clause-held c = c.in-Some-lazy_first.ensures.0.below

pub returns-in-None-clause-kind : goal.returns-in-None-clause-kind
returns-in-None-clause-kind c =
    let s = shown c.args.view.now in
    let k = c.args in
    let f = c.in-Some-first_copy.first in
    from-near k.sender (delivery_value k.delivery) s.links (grafts_at s c.in-Some.entry) (hop f.sender f.round.0) c.in-Some-first_copy.ensures (among (goal.at.returns-in-None-clause-kind c).After-is_grafted ∙ c.if-not-is_grafted.false)
    (sym c.is_repeated.ensures ∙ c.if-is_repeated.false) (sym c.no_more_hops.ensures ∙ c.if-not-no_more_hops.false)
    (link-eager s k.sender c.in-Some-find_link.link c.requires.consistent.core.links_up c.in-Some-find_link.ensures c.link.result c.link.ensures ∙ not-false c.link.result.eager c.if-not-link.false) false c.in-None.ensures
    ∙ kind-held c.args.call.now.instant.0 k.sender k.id k.delivery s c.in-Some.entry c.in-Some.ensures
