-- `lazy_first` meets its contract: by the link of the first sender, and the two tests.
use Rattle.payloads.proofs.Words.{◌∙◌, ap, sym, ℕ, Bool, not, ◌&&◌, Option, has, eager_in, LinkIf, shown}
use Rattle.std.proofs.Common.{subst}
use Rattle.std.proofs.lemmas.Bool.{not-true, not-false}
use Rattle.block.specs.Caches.GraftSteps.{grafts_at}
use Rattle.payloads.proofs.OnLateGraftReplyLaws.{link-eager, stranger-lazy, second-no}
use Rattle.payloads.proofs.on_late_graft_reply.lazy_first.Goals as goal
use Rattle.payloads.proofs.on_late_graft_reply.lazy_first.Goals.{then-is_grafted-via-then-is_grafted, then-is_grafted-via-else-is_grafted+then-not-link}

pub returns-in_err-link : goal.returns-in_err-link
returns-in_err-link c =
    let s = shown c.args.view.now in
    let p = c.args.first.sender in
    let a = not (has p (grafts_at s c.args.entry).peers) in
    subst (λ (o : Option ℕ). LinkIf s p (a && eager_in p s.links) o) (sym c.from_residual.ensures) (second-no a (eager_in p s.links) (stranger-lazy p s.links c.in_err-link.ensures))

pub returns-then-is_grafted : goal.returns-then-is_grafted
returns-then-is_grafted c =
    let s = shown c.args.view.now in
    let p = c.args.first.sender in
    let m = (grafts_at s c.args.entry).peers in
    let l = c.in_ok-link.ensures in
    elim c.then-is_grafted.branch [
      | then-is_grafted-via-then-is_grafted w ↦ ap (λ (b : Bool). not b && eager_in p s.links) (ap (λ (q : ℕ). has q m) (sym l.peer) ∙ sym c.is_grafted.ensures ∙ w.if-is_grafted.true)
      | then-is_grafted-via-else-is_grafted+then-not-link w ↦
          second-no (not (has p m)) (eager_in p s.links) (link-eager s p c.in_ok-link.link c.requires.0.consistent.core.links_up l w.link.result w.link.ensures ∙ not-true w.link.result.eager w.if-not-link.true)
    ]

pub returns : goal.returns
returns c =
    let s = shown c.args.view.now in
    let p = c.args.first.sender in
    let m = (grafts_at s c.args.entry).peers in
    let l = c.in_ok-link.ensures in (
      l,
      ap (λ (b : Bool). not b && eager_in p s.links) (ap (λ (q : ℕ). has q m) (sym l.peer) ∙ sym c.is_grafted.ensures ∙ c.if-is_grafted.false)
          ∙ link-eager s p c.in_ok-link.link c.requires.0.consistent.core.links_up l c.link.result c.link.ensures ∙ not-false c.link.result.eager c.if-not-link.false,
    )
