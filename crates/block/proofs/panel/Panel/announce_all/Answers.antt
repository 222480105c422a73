-- The rows more are messages that the peer of a link announced.
use Rattle.block.proofs.Words.{◌≡◌, refl, sym, ap, ◌∙◌, subst, false, map, ◌+◌, ◌<◌, arith, lit<, length, id_of, Ascending, keys, has, up_of}
use Rattle.std.proofs.lemmas.Simd.{map-map}
use lib.ListN.{length-map}
use Rattle.storage.specs.Lists.Base.{member}
use Rattle.storage.specs.Rows.Sorted.{key_of}
use Rattle.storage.specs.Tables.Listed.{listed}
use Rattle.postcard.specs.Message.{Ihave}
use Rattle.postcard.specs.Values.{ihave_value}
use Rattle.postcard.specs.declared.message.Ihave.{Ihave as Announced}
use Rattle.block.specs.View.{limits_of}
use Rattle.block.specs.Becomes.{Becomes}
use Rattle.block.specs.Heads.{with_missing_count}
use Rattle.block.specs.MissingSteps.{announced_all}
use Rattle.block.specs.Panels.{state}
use Rattle.block.proofs.Lent.{given_back, lent_at, lent-room}
use Rattle.block.proofs.LinkLaws.{count-links}
use Rattle.block.proofs.MergeLaws.{has-member, all-mapped}
use Rattle.block.proofs.MissingLaws.{room-for, missing-keys, missing-all}
use Rattle.block.proofs.panel.Panel.announce_all.Goals as goal
use Rattle.block.proofs.panel.Panel.announce_all.Goals.{After-span, After-merge_missing}

low : (c : After-span) → c.args.link < c.args.self.now.head.live.links
low c = let p = c.args.self.now in omega (arith, c.requires.link, count-links p.head p.block.now)

rows-keys : (c : After-span) → let p = c.args.self.now in listed 129 key_of p.head.live.missing (lent_at c.span.result p.block.now) ≡ keys (state p).missing
rows-keys c = let p = c.args.self.now in missing-keys p.head p.block.now c.span.result (c.span.ensures (limits_of p.head.limits) p.laid_out)

pub merge_missing-requires-clause-link : goal.merge_missing-requires-clause-link
merge_missing-requires-clause-link c =
    let p = c.args.self.now in
    omega (arith, low (goal.at.merge_missing-requires-clause-link c).After-span, p.sound.fit.within.links, p.sound.fit.ceilings.N)

pub merge_missing-requires-clause-up : goal.merge_missing-requires-clause-up
merge_missing-requires-clause-up c =
    let p = c.args.self.now in (
      subst Ascending (sym (rows-keys (goal.at.merge_missing-requires-clause-up c).After-span)) (up_of (keys (state p).missing) c.requires.missing),
      subst Ascending (map-map (λ (h : Ihave). h.id) ihave_value c.args.fresh.now) (up_of (map (λ (h : Ihave). h.id) (map ihave_value c.args.fresh.now)) c.requires.fresh),
    )

pub merge_missing-requires-clause-new : goal.merge_missing-requires-clause-new
merge_missing-requires-clause-new c =
    let m = (state c.args.self.now).missing in
    all-mapped ihave_value (λ (h : Ihave). has h.id m ≡ false)
    (λ (h : Announced). member (id_of h.id) (listed 129 key_of c.args.self.now.head.live.missing (lent_at c.span.result c.args.self.now.block.now)) ≡ false)
    (λ h e. ap (member (id_of h.id)) (rows-keys (goal.at.merge_missing-requires-clause-new c).After-span) ∙ has-member (id_of h.id) m e) c.args.fresh.now c.requires.new

pub merge_missing-requires-clause-room : goal.merge_missing-requires-clause-room
merge_missing-requires-clause-room c =
    let p = c.args.self.now in
    omega (arith, room-for p.head p.block.now (length c.args.fresh.now) (omega (arith, c.requires.room, length-map c.args.fresh.now ihave_value)), lent-room (limits_of p.head.limits) 9 c.span.result p.block.now (lit< tt) (c.span.ensures (limits_of p.head.limits) p.laid_out) p.sound.fit.long)

goes : (c : After-merge_missing) → let p = c.args.self.now in
    Becomes (announced_all c.args.link (map ihave_value c.args.fresh.now)) p.head p.block.now (with_missing_count (p.head.live.missing + length c.args.fresh.now) p.head) (given_back c.span.result p.block.now c.merge_missing.new.table)
goes c =
    let p = c.args.self.now in
    missing-all p.head p.block.now c.span.result (c.span.ensures (limits_of p.head.limits) p.laid_out) c.args.link (low (goal.at.After-merge_missing c).After-span) c.args.fresh.now c.merge_missing.new.table p.sound c.requires
    c.merge_missing.ensures.rounds c.merge_missing.auto.table c.merge_missing.ensures.rows

pub invariant_of-self-clause-sound : goal.invariant_of-self-clause-sound
invariant_of-self-clause-sound c = (goes (goal.at.invariant_of-self-clause-sound c).After-merge_missing).sound

pub returns : goal.returns
returns c = record { state = (goes (goal.at.returns c).After-merge_missing).state; loan = refl }
