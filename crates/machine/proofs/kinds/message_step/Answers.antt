-- `message_step`: by the message, and by whether its sender is a neighbour.
use Rattle.machine.proofs.Words.{◌≡◌, sym, subst, ℕ, ◌≤◌, length, Option, Some, Received, IHave, message_bytes, message_value, ihaves_value, settled, peer_at, shown}
use Rattle.wire.specs.declared.reader.message.Message.{Message}
use Rattle.block.specs.Found.{LinkOf}
use Rattle.wire.specs.declared.reader.message.Message.TheVariants as messages
use Rattle.wire.specs.declared.reader.ihaves.Ihaves.{Ihaves}
use Rattle.machine.specs.Kinds.Meaning.{Means, ListHeld, EntriesFor, MessageRows}
use Rattle.machine.specs.declared.kinds.Step.{Step}
use Rattle.machine.proofs.KindsLaws.MeaningLaws.{means-prune, means-graft, means-stranger-prune, means-stranger-graft, means-stranger-ihave, ihaves-held}
use Rattle.machine.proofs.kinds.message_step.Goals as goal
use Rattle.machine.proofs.kinds.message_step.Goals.{After-find_link, in_default-None-via-in-Prune+in-None, in_default-None-via-in-Graft+in-None, in_default-None-via-in-IHave+in-None}

-- a step is the message's if it is that of the kind that the match tells
of : (d : After-find_link) {m : Message} {r : Step} → d.args.message ≡ m → Means d.args.call.now.instant.0 (shown d.args.view.now) r (Received d.args.sender (message_value m))
    → Means d.args.call.now.instant.0 (shown d.args.view.now) r (Received d.args.sender (message_value d.args.message))
of d {m} {r} e = subst (λ (v : Message). Means d.args.call.now.instant.0 (shown d.args.view.now) r (Received d.args.sender (message_value v))) (sym e)

found : (d : After-find_link) {o : Option ℕ} → d.find_link.result ≡ o → LinkOf (shown d.args.view.now) d.args.sender o
found d e = subst (LinkOf (shown d.args.view.now) d.args.sender) e d.find_link.ensures

-- the announcements are held for the link that was found, and what was decided of them is of its peer
held : (d : After-find_link) {i : Ihaves} {link : ℕ} → d.args.message ≡ messages.IHave i → d.find_link.result ≡ Some link → ListHeld (shown d.args.view.now) link i
held d {i} {link} m f =
    ihaves-held (shown d.args.view.now) link i d.requires.rest.0.ranged (found d f).below
    (subst (λ (v : Message). length (message_bytes (message_value v)) ≤ (shown d.args.view.now).settings.max_message_size) m d.requires.rest.1)

decided : (d : After-find_link) {i : Ihaves} {link : ℕ} → d.args.message ≡ messages.IHave i → d.find_link.result ≡ Some link
    → EntriesFor (peer_at (shown d.args.view.now) link) i (settled d.args.call.now.instant.0 (shown d.args.view.now)) d.args.rows
decided d {i} {link} m f =
    subst (λ (p : ℕ). EntriesFor p i (settled d.args.call.now.instant.0 (shown d.args.view.now)) d.args.rows) (sym (found d f).peer)
    (subst (λ (v : Message). MessageRows d.args.sender v (settled d.args.call.now.instant.0 (shown d.args.view.now)) d.args.rows) m d.requires.rows)

pub returns-in-IHave-Some-clause-means : goal.returns-in-IHave-Some-clause-means
returns-in-IHave-Some-clause-means c =
    let d = (goal.at.returns-in-IHave-Some-clause-means c).After-find_link in
    let a = c.args in
    let s = shown a.view.now in
    let i = c.in-IHave-Some in
    let m = c.ihave_step.ensures.means a.call.now.instant.0 s c.requires.rest.0 (held d i.is-0 i.is-1) (decided d i.is-0 i.is-1) in
    of d i.is-0 (subst (λ (p : ℕ). Means a.call.now.instant.0 s c.ihave_step.result (Received p (IHave (ihaves_value i.ihaves)))) (found d i.is-1).peer m)

pub returns-in-IHave-Some-clause-decided : goal.returns-in-IHave-Some-clause-decided
returns-in-IHave-Some-clause-decided c =
    let d = (goal.at.returns-in-IHave-Some-clause-decided c).After-find_link in
    let a = c.args in
    let s = shown a.view.now in
    let t = settled a.call.now.instant.0 s in
    let i = c.in-IHave-Some in
    c.ihave_step.ensures.decided a.call.now t (peer_at s i.link) (decided d i.is-0 i.is-1)

pub returns-in-Prune-Some-clause-means : goal.returns-in-Prune-Some-clause-means
returns-in-Prune-Some-clause-means c =
    let d = (goal.at.returns-in-Prune-Some-clause-means c).After-find_link in
    let a = c.args in
    let i = c.in-Prune-Some in
    of d i.is-0 (means-prune a.call.now.instant.0 (shown a.view.now) a.sender i.link c.requires.rest.0.consistent.core (found d i.is-1))

pub returns-in-Graft-Some-clause-means : goal.returns-in-Graft-Some-clause-means
returns-in-Graft-Some-clause-means c =
    let d = (goal.at.returns-in-Graft-Some-clause-means c).After-find_link in
    let a = c.args in
    let i = c.in-Graft-Some in
    of d i.is-0 (means-graft a.call.now.instant.0 (shown a.view.now) a.sender i.link c.requires.rest.0.consistent.core (found d i.is-1) i.graft.wanted i.graft.round.0)

pub returns-in_default-None-clause-means : goal.returns-in_default-None-clause-means
returns-in_default-None-clause-means c =
    let d = (goal.at.returns-in_default-None-clause-means c).After-find_link in
    let a = c.args in
    let s = shown a.view.now in
    let core = c.requires.rest.0.consistent.core in
    elim c.in_default-None.branch [
      | in_default-None-via-in-Prune+in-None w ↦ of d w.in_default-None.is-0 (means-stranger-prune a.call.now.instant.0 s a.sender core (found d w.in_default-None.is-1))
      | in_default-None-via-in-Graft+in-None w ↦ of d w.in_default-None.is-0 (means-stranger-graft a.call.now.instant.0 s a.sender core (found d w.in_default-None.is-1) _ _)
      | in_default-None-via-in-IHave+in-None w ↦ of d w.in_default-None.is-0 (means-stranger-ihave a.call.now.instant.0 s a.sender core (found d w.in_default-None.is-1) _)
    ]
