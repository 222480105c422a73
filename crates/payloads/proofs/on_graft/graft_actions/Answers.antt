-- `graft_actions` meets its contract: nothing, or the message and the record's timer behind it.
use Rattle.payloads.proofs.Words.{arith, ap, sym, ◌∙◌, ◌++◌, ℕ, not, List, Option, concat_map, id_of, Id, message_bytes, action_bytes, send_head, settled, announce_action, peer_at, after, after_append, after_nil, shown, links-few, NumberedLink, rooms_of}
use Rattle.postcard.specs.Message.{Gossip, Swarm}
use Rattle.block.specs.Caches.CachedReads.{cached_value}
use Rattle.payloads.specs.OnGraft.{graft_bytes}
use Rattle.payloads.proofs.OnGraftLaws.{no-bytes, not-there, sends}
use Rattle.payloads.proofs.on_graft.graft_actions.Goals as goal

pub takes-taken-requires : goal.takes-taken-requires
takes-taken-requires g c = omega (arith, c.requires.rest.1, links-few c.args.view.now.head.now c.args.view.now.block.now c.args.view.now.sound)

pub returns-in_default : goal.returns-in_default
returns-in_default g c =
    let k = c.args.call.now in
    let t = settled k.instant.0 (shown c.args.view.now) in
    let h = g.S.Sink.intake c.args.out.now in
    sym (ap (λ (bs : List ℕ). after bs h) (ap (λ (w : Option Id). graft_bytes k c.args.link w t) c.in_default.is ∙ no-bytes (rooms_of k t) (peer_at t c.args.link) 0 t) ∙ after_nil h)

pub returns-in_default-cached_then : goal.returns-in_default-cached_then
returns-in_default-cached_then g c =
    let k = c.args.call.now in
    let t = settled k.instant.0 (shown c.args.view.now) in
    let h = g.S.Sink.intake c.args.out.now in
    sym (ap (λ (bs : List ℕ). after bs h)
    (ap (λ (w : Option Id). graft_bytes k c.args.link w t) c.in-Some.is
    ∙ not-there (rooms_of k t) (peer_at t c.args.link) (id_of c.in-Some.id) t (sym c.cached_then.ensures ∙ ap cached_value c.in_default-cached_then.is))
    ∙ after_nil h)

pub returns : goal.returns
returns g c =
    let v = c.args.view.now in
    let h = g.S.Sink.intake c.args.out.now in
    let a = send_head c.link-peer.result.peer c.takes-taken.result ++ message_bytes (Gossip (id_of c.in-Some.id) c.in-Some-cached_then.cached.content.now (Swarm c.in-Some-cached_then.cached.round.0)) in
    let b = concat_map action_bytes (announce_action (not c.takes-taken.result) v.head.now.live.announce_dropped_scheduled) in
    let e = sends c.args.call.now c.args.link c.args.wanted c.in-Some.id c.in-Some-cached_then.cached v.head.now v.block.now c.link-peer.result.peer c.takes-taken.result c.cached_then.result
    c.requires.rest.0 c.requires.rest.1 c.in-Some.is c.in-Some-cached_then.is c.cached_then.ensures (ap (λ (x : NumberedLink). x.peer) c.link-peer.ensures) c.takes-taken.ensures in
    c.schedule_announce_dropped.ensures ∙ ap (after b) c.encode.ensures ∙ after_append a b h ∙ ap (λ (bs : List ℕ). after bs h) (sym e)
