-- The payloads of a push: one to each of the peers it goes to.
-- Assumes nothing.
use Rattle.std.proofs.Common.{ℕ, ◌≡◌, refl, sym, ap, ◌∙◌, true, false, List, [], ◌∷◌, ◌++◌, append_assoc, append-nil, eqb, if◌then◌else◌}
use Rattle.storage.specs.Lists.Base.{any}
use Rattle.storage.proofs.ListsLaws.MapLaws.{cases}
use Rattle.postcard.specs.Message.{Swarm, Message, Gossip, Sent}
use Rattle.protocol.specs.Run.{Run, send, takes}
use Rattle.protocol.specs.Push.{send_each, handed_back, push_to}
use Rattle.protocol.specs.NoNeighbourPassedOver.{sends}
use Rattle.protocol.specs.ReadingsFollowTheTree.{is_payload, payloads_to, announcement_of}
use Rattle.protocol.proofs.EmitSteps.{any-skip}
use Rattle.protocol.proofs.EagerTargets.{copies}
use Rattle.protocol.proofs.TreeLaws.Plain.{announcing, payloads-append, Plain, plain-note_for_each}

copies-send_each : (p : ℕ) (ps : List ℕ) (m : Message) (r : Run) → is_payload m ≡ true → payloads_to p (send_each ps m r).actions ≡ payloads_to p r.actions ++ copies p ps m
unfolding send_each copies send
copies-send_each p [] m r h = sym (append-nil (payloads_to p r.actions))
copies-send_each p (x ∷ ps) m r h =
    copies-send_each p ps m (send x m r) h
    ∙ ap (λ (l : List Message). l ++ copies p ps m) (payloads-append p r.actions (Sent x (takes x r) m ∷ []))
    ∙ append_assoc (payloads_to p r.actions) (payloads_to p (Sent x (takes x r) m ∷ [])) (copies p ps m)
    ∙ ap (λ (l : List Message). payloads_to p r.actions ++ l) one
  where
    one : payloads_to p (Sent x (takes x r) m ∷ []) ++ copies p ps m ≡ (if eqb x p then m ∷ copies p ps m else copies p ps m)
    one = unfold payloads_to in (rw h (cases (eqb x p) (λ e. rw e refl) (λ e. rw e refl)))

-- a payload announces nothing, and a push changes no queue
announced-send_each : (p id : ℕ) (ps : List ℕ) (m : Message) (r : Run) → announcement_of id m ≡ false → any (announcing p id) (send_each ps m r).actions ≡ any (announcing p id) r.actions
unfolding send_each send
announced-send_each p id [] m r h = refl
announced-send_each p id (x ∷ ps) m r h =
    announced-send_each p id ps m (send x m r) h ∙ any-skip (announcing p id) r.actions (Sent x (takes x r) m) none
  where
    none : announcing p id (Sent x (takes x r) m) ≡ false
    none = unfold sends in (rw h (cases (eqb x p) (λ e. rw e refl) (λ e. rw e refl)))

queue-send_each : (ps : List ℕ) (m : Message) (r : Run) → (send_each ps m r).state.queue ≡ r.state.queue
unfolding send_each send
queue-send_each [] m r = refl
queue-send_each (x ∷ ps) m r = queue-send_each ps m (send x m r)

-- what a push does
pub record Pushes (ps : List ℕ) (m : Message) (r r' : Run) : Type 0 where
  pub payloads : (p : ℕ) → payloads_to p r'.actions ≡ payloads_to p r.actions ++ copies p ps m
  pub announced : (p id : ℕ) → any (announcing p id) r'.actions ≡ any (announcing p id) r.actions
  pub queue : r'.state.queue ≡ r.state.queue

pub pushes : (ps : List ℕ) (id : ℕ) (content : List ℕ) (round : ℕ) (r : Run) → Pushes ps (Gossip id content (Swarm round)) r (push_to ps id content round r)
unfolding push_to is_payload announcement_of
pushes ps id content round r =
    let m : Message = Gossip id content (Swarm round) in
    let n : Plain (send_each ps m r) (push_to ps id content round r) = plain-note_for_each (handed_back ps m r) (record { id = id; round = round }) (send_each ps m r) in
    record {
      payloads = λ p. n.payloads p ∙ copies-send_each p ps m r refl;
      announced = λ p j. n.announced p j ∙ announced-send_each p j ps m r refl;
      queue = n.queue ∙ queue-send_each ps m r;
    }

-- a payload sent to one peer
pub pushes-one : (q : ℕ) (m : Message) (r : Run) → is_payload m ≡ true → ((id : ℕ) → announcement_of id m ≡ false) → Pushes (q ∷ []) m r (send q m r)
unfolding send_each
pushes-one q m r h k = record {
  payloads = λ p. copies-send_each p (q ∷ []) m r h;
  announced = λ p id. announced-send_each p id (q ∷ []) m r (k id);
  queue = queue-send_each (q ∷ []) m r;
}
