-- No peer passed is grafted over so few hops.
use Rattle.block.proofs.Words.{◌≡◌, refl, sym, ap, ◌∙◌, Bool, ℕ, ◌<◌, le-leb, leb, length, take, get_or, take_all, arith, Map, Entry, entry}
use borrow.Author.Tests.{lt-leb}
use Rattle.storage.specs.Lists.Base.{any}
use Rattle.block.specs.Views.{shown}
use Rattle.block.specs.Caches.GraftSteps.{grafts_at}
use Rattle.block.proofs.Scans.{any_found, any-drop}
use Rattle.block.proofs.panel.View.is_grafted_within.Goals as goal
use Rattle.block.proofs.panel.View.is_grafted_within.Goals.{After-graft}

pub loop-j-init : goal.loop-j-init
unfolding any
loop-j-init c = refl

-- the peer that was read
module _ (d : After-graft) where
  abbrev ps : Map ℕ
  ps = (grafts_at (shown d.args.self.now) d.args.entry).peers

  abbrev j : ℕ
  j = d.loop-j.j

  abbrev test : Entry ℕ → Bool
  test e = leb e.value d.args.round.0

  here : j < length ps
  here = omega (arith, d.graft_count-j-end.ensures.0, d.loop-j-test.true)

  value : (get_or ps j (entry 0 0)).value ≡ d.graft.result.round.0
  value = ap (λ (e : Entry ℕ). e.value) d.graft.ensures.same

pub returns-then-graft-round : goal.returns-then-graft-round
returns-then-graft-round c =
    let d = (goal.at.returns-then-graft-round c).After-graft in
    sym (any_found (test d) (j d) (entry 0 0) (ps d) (here d) (ap (λ (n : ℕ). leb n c.args.round.0) (value d) ∙ le-leb c.graft.result.round.0 c.args.round.0 c.if-graft-round.true))

pub loop-j-preserved : goal.loop-j-preserved
loop-j-preserved c =
    let d = (goal.at.loop-j-preserved c).After-graft in
    any-drop (test d) (j d) (entry 0 0) (ps d) (here d) (ap (λ (n : ℕ). leb n c.args.round.0) (value d) ∙ lt-leb c.graft.result.round.0 c.args.round.0 (omega (arith, c.if-graft-round.false))) ∙ c.loop-j.invariant

pub returns : goal.returns
returns c =
    let l = c.loop-j in
    let m = (grafts_at (shown c.args.self.now) c.args.entry).peers in
    let all : take l.j m ≡ m = take_all l.j m (omega (arith, c.graft_count-j-end.ensures.0, c.loop-j-test.false)) in
    sym (sym (ap (any (λ (e : Entry ℕ). leb e.value c.args.round.0)) all) ∙ l.invariant)
