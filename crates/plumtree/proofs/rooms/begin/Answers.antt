-- `begin`: one entry more is held against the links and the sender.
use Rattle.plumtree.proofs.Words.{ℕ, ◌+◌, ◌*◌, ◌≤◌, ◌<◌, arith, ◌≡◌, refl, sym, ◌∙◌, length, get_or, eqb-true, eq-eqb, true≢, and_left, and_right, and_intro}
use Rattle.std.proofs.Common.{length-set}
use Rattle.block.specs.Header.{word_at}
use Rattle.plumtree.specs.Rooms.{Ascend, Stands}
use Rattle.plumtree.proofs.RoomLaws.{links-here, links-stay, begun-sender, begun-has, begun-other}
use Rattle.plumtree.proofs.rooms.begin.Goals as goal
use Rattle.plumtree.proofs.rooms.begin.Goals.{then-peers-link, else-peers-link, then-eq+then-found-eq-UNBOUNDED, else-eq, else-eq-via-then-eq+else-found-eq-UNBOUNDED, else-eq-via-else-eq}

pub loop-missing-preserved : goal.loop-missing-preserved
loop-missing-preserved c =
    let a = c.args in
    let v = c.loop-missing.invariant in
    let few : c.args.count ≤ 32 = c.requires.0.few in
    let mid : (length c.if-peers-link.found.links ≡ 32) × (c.if-peers-link.found.stranger ≡ c.loop-missing.found.stranger) × (Ascend c.args.block.now c.args.count → (i : ℕ) → i < c.args.count → Stands c.args.rooms.now (word_at (2048 + 16 * i) c.args.block.now) (c.loop-missing.seen + 1) (get_or c.if-peers-link.found.links i 0)) =
    elim c.if-peers-link.branch [
      | then-peers-link w ↦ rw w.found-is (
        length-set _ _ _ ∙ v.long,
        refl,
        links-here a.block.now a.count c.link_peers-peers.result a.rooms.now c.loop-missing.seen c.find_link-link.result c.loop-missing.found.links _ c.if-seen-rooms.true few c.link_peers-peers.ensures c.find_link-link.ensures v.long v.links
            (eqb-true _ _ (and_left _ _ w.if-peers-link.true)) (eqb-true _ _ (and_right _ _ w.if-peers-link.true)) (omega arith),
      )
      | else-peers-link w ↦ rw w.found-is (
        v.long,
        refl,
        links-stay a.block.now a.count c.link_peers-peers.result a.rooms.now c.loop-missing.seen c.find_link-link.result c.loop-missing.found.links _ c.if-seen-rooms.true few c.link_peers-peers.ensures c.find_link-link.ensures v.long v.links
            (λ q u. true≢ (sym w.if-peers-link.false ∙ and_intro (eq-eqb _ _ q) (eq-eqb _ _ u))),
      )
    ]
    in elim c.if-eq.branch [
      | then-eq+then-found-eq-UNBOUNDED w ↦ rw w.found-is (begun-sender a.block.now a.count a.sender a.rooms.now c.loop-missing.seen c.loop-missing.found c.if-peers-link.found _ c.if-seen-rooms.true v mid.1 mid.0 mid.2
          w.if-eq.ensures w.if-found-eq-UNBOUNDED.true (omega arith))
      | else-eq w ↦ rw w.found-is (elim w.else-eq.branch [
        | else-eq-via-then-eq+else-found-eq-UNBOUNDED w' ↦ begun-has a.block.now a.count a.sender a.rooms.now c.loop-missing.seen c.loop-missing.found c.if-peers-link.found (record { peer = 0; room = 0 }) c.if-seen-rooms.true v mid.1 mid.0 mid.2 w'.if-found-eq-UNBOUNDED.false
        | else-eq-via-else-eq w' ↦ begun-other a.block.now a.count a.sender a.rooms.now c.loop-missing.seen c.loop-missing.found c.if-peers-link.found _ c.if-seen-rooms.true v mid.1 mid.0 mid.2 w'.if-eq.ensures
      ])
    ]
