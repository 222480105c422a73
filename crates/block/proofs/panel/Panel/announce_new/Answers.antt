-- A row more, then its announcer.
use Rattle.block.proofs.Words.{◌≡◌, ap, ◌∙◌, List, [], ◌+◌, length, arith, id_of, ascending, Entry, entry, keys, ascending-insert, up_of, State, Hop}
use lib.ListN.{length-map}
use Rattle.block.specs.MissingSteps.{hops_at, announced_at}
use Rattle.block.specs.Panels.{state}
use Rattle.block.proofs.AnnounceLaws.{insert-at, insert-long, new-announced}
use Rattle.block.proofs.panel.Panel.announce_new.Goals as goal

pub push_announcer-requires : goal.push_announcer-requires
push_announcer-requires c =
    let s = state c.args.self.now in
    let t = state c.insert_missing.new.self in
    let e = c.insert_missing.ensures.state in
    let i = c.args.i in
    let id = id_of c.args.id in
    let place = c.requires.place.0 in
    let up = up_of (keys s.missing) c.requires.up in
    let long : length t.missing ≡ length s.missing + 1 = ap (λ (z : State). length z.missing) e ∙ insert-long id i [] [] s.missing up place in
    let none : hops_at t i ≡ [] = ap (λ (z : State). hops_at z i) e ∙ ap (λ (x : Entry (List Hop)). x.value) (insert-at id i [] [] s.missing up place (entry 0 [])) in
    let links : length t.links ≡ length s.links = ap (λ (z : State). length z.links) e in
    record {
      up = ap (λ (z : State). ascending (keys z.missing)) e ∙ ascending-insert id [] s.missing c.requires.up;
      there = (omega (arith, long, place.within, length-map s.missing (λ (x : Entry (List Hop)). x.key)), omega (arith, links, c.requires.place.1));
      room = omega (arith, ap length none);
    }

pub returns : goal.returns
returns c =
    let s = state c.args.self.now in
    let by = c.args.by in
    let e = c.push_announcer.ensures in
    record {
      state = e.state
          ∙ ap (announced_at c.args.i by.link by.round.0) c.insert_missing.ensures.state
          ∙ new-announced s (id_of c.args.id) c.args.i by.link by.round.0 (up_of (keys s.missing) c.requires.up) c.requires.place.0;
      loan = e.loan ∙ c.insert_missing.ensures.loan;
    }
