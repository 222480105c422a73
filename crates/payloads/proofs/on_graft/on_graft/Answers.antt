-- `on_graft` meets its contract: the mark, and what is noted behind it.
use Rattle.payloads.proofs.Words.{arith, true, false, ap, sym, ◌∙◌, ◌≡◌, ℕ, List, Option, Some, id_of, Id, State, get, Notable, fits, state, same-state, links-few}
use Rattle.std.proofs.Common.{subst}
use Rattle.postcard.specs.declared.units.Round.{Round}
use Rattle.block.specs.Caches.CachedReads.{RoundOf}
use Rattle.steps.specs.Pushes.Noted.{noted_state}
use Rattle.payloads.specs.OnGraft.{after_graft}
use Rattle.payloads.proofs.OnGraftLaws.{first-taken, graft-only, graft-missed, graft-still, graft-noted, graft-notable}
use Rattle.payloads.proofs.on_graft.on_graft.Goals as goal
use Rattle.payloads.proofs.on_graft.on_graft.Goals.{After-round_of_cached, After-takes}

-- what was found in the message cache, which the mark leaves as it is
found : (c : After-round_of_cached) → RoundOf c.round_of_cached.result (get (id_of c.in-Some.id) (state c.args.panel.now).cache)
found c =
    subst (λ (s : State). RoundOf c.round_of_cached.result (get (id_of c.in-Some.id) s.cache))
    (same-state c.add_eager.new.self c.view.result c.view.ensures.head c.view.ensures.block ∙ c.add_eager.ensures.state) c.round_of_cached.ensures

pub takes-requires : goal.takes-requires
takes-requires c = omega (arith, c.requires.1, links-few c.args.panel.now.head c.args.panel.now.block.now c.args.panel.now.sound)

pub returns-in_default : goal.returns-in_default
returns-in_default c =
    let s = state c.args.panel.now in
    let k = c.args.call.now in
    record {
      state = c.add_eager.ensures.state ∙ sym (ap (λ (w : Option Id). after_graft k c.args.link w s) c.in_default.is ∙ graft-only k c.args.link s c.requires.0.rest.consistent.core.links_up c.requires.1);
      loan = c.add_eager.ensures.loan;
    }

pub returns-in_default-round_of_cached : goal.returns-in_default-round_of_cached
returns-in_default-round_of_cached c =
    let s = state c.args.panel.now in
    let k = c.args.call.now in
    let id = id_of c.in-Some.id in
    record {
      state = c.add_eager.ensures.state ∙ sym (ap (λ (w : Option Id). after_graft k c.args.link w s) c.in-Some.is
          ∙ graft-missed k c.args.link s c.requires.0.rest.consistent.core.links_up c.requires.1 id
          (subst (λ (r : Option Round). RoundOf r (get id s.cache)) c.in_default-round_of_cached.is (found (goal.at.returns-in_default-round_of_cached c).After-round_of_cached)));
      loan = c.add_eager.ensures.loan;
    }

-- the message that was found, with its round
message : (c : After-takes) → (content : List ℕ) × (get (id_of c.in-Some.id) (state c.args.panel.now).cache ≡ Some (record { content = content; round = c.in-Some-round_of_cached.round.0 }))
message c = subst (λ (r : Option Round). RoundOf r (get (id_of c.in-Some.id) (state c.args.panel.now).cache)) c.in-Some-round_of_cached.is (found (goal.at.After-takes c).After-round_of_cached)

-- of what is wanted
as_wanted : (c : After-takes) → after_graft c.args.call.now c.args.link c.args.wanted (state c.args.panel.now) ≡ after_graft c.args.call.now c.args.link (Some c.in-Some.id) (state c.args.panel.now)
as_wanted c = ap (λ (w : Option Id). after_graft c.args.call.now c.args.link w (state c.args.panel.now)) c.in-Some.is

pub note_dropped-requires : goal.note_dropped-requires
note_dropped-requires c =
    let s = state c.args.panel.now in
    let call = c.args.call.now in
    let up = c.requires.0.rest.consistent.core.links_up in
    let w = (goal.at.note_dropped-requires c).After-takes in
    subst (λ (u : State). Notable c.args.link (id_of c.in-Some.id) c.in-Some-round_of_cached.round.0 u) (sym c.add_eager.ensures.state)
    (graft-notable call c.args.link s up c.requires.1 (id_of c.in-Some.id) _ (message w).1
    (first-taken call c.args.link s up c.requires.1 false (sym c.if-not-takes.true ∙ c.takes.ensures))
    (ap fits (sym (as_wanted w)) ∙ c.requires.0.fits))

pub returns-then-not-takes : goal.returns-then-not-takes
returns-then-not-takes c =
    let s = state c.args.panel.now in
    let call = c.args.call.now in
    let up = c.requires.0.rest.consistent.core.links_up in
    let w = (goal.at.returns-then-not-takes c).After-takes in
    record {
      state = c.note_dropped.ensures.state ∙ ap (noted_state c.args.link (id_of c.in-Some.id) c.in-Some-round_of_cached.round.0) c.add_eager.ensures.state
          ∙ sym (as_wanted w ∙ graft-noted call c.args.link s up c.requires.1 (id_of c.in-Some.id) _ (message w).1
          (first-taken call c.args.link s up c.requires.1 false (sym c.if-not-takes.true ∙ c.takes.ensures)));
      loan = c.note_dropped.ensures.loan ∙ c.add_eager.ensures.loan;
    }

pub returns-else-not-takes : goal.returns-else-not-takes
returns-else-not-takes c =
    let s = state c.args.panel.now in
    let call = c.args.call.now in
    let up = c.requires.0.rest.consistent.core.links_up in
    let w = (goal.at.returns-else-not-takes c).After-takes in
    record {
      state = c.add_eager.ensures.state
          ∙ sym (as_wanted w ∙ graft-still call c.args.link s up c.requires.1 (id_of c.in-Some.id) _ (message w).1 c.requires.0.rest.consistent.record_flag
          (first-taken call c.args.link s up c.requires.1 true (sym c.if-not-takes.false ∙ c.takes.ensures)));
      loan = c.add_eager.ensures.loan;
    }
