-- `ihave_step`: by what was decided of its entries.
use Rattle.machine.proofs.Words.{refl, subst, ihaves_value, settled, peer_at}
use Rattle.block.specs.Found.{LinkAt}
use Rattle.announcements.proofs.IhavesLaws.DecidedLaws.{decided-each}
use Rattle.machine.specs.declared.kinds.DecidedRows.{DecidedRows}
use Rattle.machine.specs.Kinds.Meaning.{EntriesFor}
use Rattle.machine.proofs.KindsLaws.MeaningLaws.{means-ihave, means-known-ihave, there-settled}
use Rattle.machine.proofs.kinds.ihave_step.Goals as goal

pub returns-in-Entries-clause-means : goal.returns-in-Entries-clause-means
returns-in-Entries-clause-means c now s rest held k =
    let a = c.args in
    means-ihave now s (peer_at s a.link) a.link rest.consistent.core (record { below = held.there; peer = refl }) a.ihaves c.in-Entries.decision held
    (subst (λ (r : DecidedRows). EntriesFor (peer_at s a.link) a.ihaves (settled now s) r) c.in-Entries.is k)

pub returns-in-Entries-clause-decided : goal.returns-in-Entries-clause-decided
returns-in-Entries-clause-decided c call s p k =
    let a = c.args in
    decided-each s (ihaves_value a.ihaves) c.in-Entries.decision.entries.now c.in-Entries.decision.order.now
    (subst (λ (r : DecidedRows). EntriesFor p a.ihaves s r) c.in-Entries.is k)

pub returns-in-Nothing-clause-means : goal.returns-in-Nothing-clause-means
returns-in-Nothing-clause-means c now s rest held k =
    let a = c.args in
    let core = rest.consistent.core in
    let there : LinkAt s (peer_at s a.link) a.link = record { below = held.there; peer = refl } in
    means-known-ihave now s (peer_at s a.link) a.link core there (ihaves_value a.ihaves)
    (subst (λ (r : DecidedRows). EntriesFor (peer_at s a.link) a.ihaves (settled now s) r) c.in-Nothing.is k (there-settled now s (peer_at s a.link) a.link core there) held.few)

pub returns-in-Noted-clause-means : goal.returns-in-Noted-clause-means
returns-in-Noted-clause-means c now s rest held k =
    let a = c.args in
    let core = rest.consistent.core in
    let there : LinkAt s (peer_at s a.link) a.link = record { below = held.there; peer = refl } in
    means-known-ihave now s (peer_at s a.link) a.link core there (ihaves_value a.ihaves)
    (subst (λ (r : DecidedRows). EntriesFor (peer_at s a.link) a.ihaves (settled now s) r) c.in-Noted.is k (there-settled now s (peer_at s a.link) a.link core there) held.few)

pub returns-in-Cached-clause-means : goal.returns-in-Cached-clause-means
returns-in-Cached-clause-means c now s rest held k =
    let a = c.args in
    let core = rest.consistent.core in
    let there : LinkAt s (peer_at s a.link) a.link = record { below = held.there; peer = refl } in
    means-known-ihave now s (peer_at s a.link) a.link core there (ihaves_value a.ihaves)
    (subst (λ (r : DecidedRows). EntriesFor (peer_at s a.link) a.ihaves (settled now s) r) c.in-Cached.is k (there-settled now s (peer_at s a.link) a.link core there) held.few)
