-- `decide` meets its contract: what it finds before a first event's eviction is right of what that leaves.
use Rattle.payloads.proofs.Words.{ℕ, Map, keys, id_of, get, grafted_for, settled, shown}
use Rattle.std.proofs.Common.{subst}
use Rattle.steps.proofs.PeersLaws.{entry-there, found-peers}
use Rattle.payloads.specs.OptimizeTree.{shortcut, ShortcutOf}
use Rattle.payloads.specs.EagerPush.Decided.{PushIs}
use Rattle.payloads.proofs.EagerPushLaws.SameLaws.{push-settled}
use Rattle.payloads.proofs.OptimizeTreeLaws.{shortcut-settled}
use Rattle.payloads.proofs.on_gossip.decide.Goals as goal

pub decide_push-push-requires : goal.decide_push-push-requires
decide_push-push-requires c =
    let s = shown c.args.view.now in
    let id = id_of c.args.id in
    (c.requires, entry-there s id (get id (settled c.args.call.now.instant.0 s).grafted) c.grafted_entry_then-grafted.result c.grafted_entry_then-grafted.ensures)

pub find_shortcut-shortcut-requires : goal.find_shortcut-shortcut-requires
find_shortcut-shortcut-requires c =
    let s = shown c.args.view.now in
    let id = id_of c.args.id in
    (c.requires, entry-there s id (get id (settled c.args.call.now.instant.0 s).grafted) c.grafted_entry_then-grafted.result c.grafted_entry_then-grafted.ensures)

pub returns : goal.returns
returns c =
    let a = c.args in
    let now = a.call.now.instant.0 in
    let s = shown a.view.now in
    let t = settled now s in
    let id = id_of a.id in
    let e = found-peers s t id c.grafted_entry_then-grafted.result c.grafted_entry_then-grafted.ensures in
    let push = c.decide_push-push.result in
    let by = c.find_shortcut-shortcut.result in
    record {
      push = push-settled now s a.call.now a.sender (keys (grafted_for id t)) id push (subst (λ (m : Map ℕ). PushIs a.call.now a.sender (keys m) id s push) e c.decide_push-push.ensures);
      shortcut = shortcut-settled now s (grafted_for id t) id a.sender a.round.0 by (subst (λ (m : Map ℕ). ShortcutOf s a.sender (shortcut m id a.sender a.round.0 s) by) e c.find_shortcut-shortcut.ensures);
    }
