-- The parts of `FollowsTree`: payloads, queue and announcements of one event.
-- Assumes nothing.
use Rattle.std.proofs.Common.{ℕ, ◌≡◌, refl, sym, ap, ◌∙◌, Bool, true, false, not, List, [], ◌∷◌, ◌++◌, ◌⊎◌, inl, inr, eqb, Some, None}
use Rattle.storage.specs.Lists.Base.{any, filter, member}
use Rattle.storage.proofs.ListsLaws.MapLaws.{true≢, and_left, and_right}
use Rattle.storage.proofs.ListsLaws.Lists.{or_cases, any_append, any_left, any-right}
use Rattle.postcard.specs.Message.{Swarm, Neighbors, Message, Gossip, Prune, Graft, IHave, Event, Received, Broadcast, Fired, Up, Down}
use Rattle.protocol.specs.Links.{lazy_peers}
use Rattle.protocol.specs.State.{State, Note}
use Rattle.protocol.specs.Run.{Run}
use Rattle.protocol.specs.Push.{notes, note_for}
use Rattle.protocol.specs.Answer.{accept}
use Rattle.protocol.specs.NoNeighbourPassedOver.{is_emit, Took, took}
use Rattle.protocol.specs.ReadingsFollowTheTree.{payloads_to, other_link, Due, passed_on, broadcast_by_us, asked_for, WhyQueued, queued_before, taken_in, UntilAnnounced, still_queued, FollowsTree}
use Rattle.protocol.proofs.Pushes.{noted-for, member_filter}
use Rattle.protocol.proofs.TreeLaws.Plain.{announcing, Plain}
use Rattle.protocol.proofs.EagerTargets.{one_if}
use Rattle.protocol.proofs.TreeLaws.Queue.{member-filtered, only-noted-for}

pub none-some : {A : Type 0} {P : Type 0} (x : A) → None ≡ Some x → P
none-some x h = let z : false ≡ true = cc in true≢ z

pub not-true : (b : Bool) → not b ≡ true → b ≡ false
not-true true h = true≢ h
not-true false h = refl

nothing-before : {P : Type 0} (m : Message) (before after : List Message) → [] ≡ before ++ (m ∷ after) → P
nothing-before m [] after h = let z : false ≡ true = cc in true≢ z
nothing-before m (x ∷ before) after h = let z : false ≡ true = cc in true≢ z

only-one : (b : Bool) (x m : Message) (before after : List Message) → one_if b x ≡ before ++ (m ∷ after) → (b ≡ true) × (x ≡ m)
only-one true x m [] after h = (refl, cc)
only-one true x m (y ∷ before) after h = let z : [] ≡ before ++ (m ∷ after) = cc in nothing-before m before after z
only-one false x m before after h = nothing-before m before after h

-- a first event's work is done, and nothing else
pub record Ready (s : State) (r : Run) : Type 0 where
  pub payloads : (p : ℕ) → payloads_to p r.actions ≡ []
  pub announced : (p id : ℕ) → any (announcing p id) r.actions ≡ false
  pub emits : any is_emit r.actions ≡ false
  pub queue : r.state.queue ≡ s.queue
  pub links : r.state.links ≡ s.links
  pub settings : r.state.settings ≡ s.settings
  pub dropped : r.state.dropped ≡ s.dropped

-- an event that may carry a payload
unfoldable pub carrying : Event → Bool
carrying (Received q (Gossip id content (Swarm round))) = true
carrying (Received q (Gossip id content Neighbors)) = false
carrying (Received q Prune) = false
carrying (Received q (Graft None round)) = false
carrying (Received q (Graft (Some id) round)) = true
carrying (Received q (IHave hs)) = false
carrying (Broadcast content) = true
carrying (Fired t) = false
carrying (Up as_quiet q) = false
carrying (Down q) = false

module _ (hash : List ℕ → ℕ) (s : State) (e : Event) (r : Run) where
  due-carrying : (p : ℕ) (m : Message) → Due hash s e r p m → carrying e ≡ true
  unfolding carrying
  due-carrying p _ (passed_on from id round content h t l n g) = ap carrying h
  due-carrying p _ (broadcast_by_us content h t l) = ap carrying h
  due-carrying p _ (asked_for id round m h n g) = ap carrying h

  -- the payloads to one peer: this one or none, as is due
  pub record Exact (p : ℕ) : Type 0 where
    pub to : Bool
    pub payload : Message
    pub are : payloads_to p r.actions ≡ one_if to payload
    pub due : to ≡ true → Due hash s e r p payload
    pub alone : (m : Message) → Due hash s e r p m → (to ≡ true) × (payload ≡ m)

  pub exact-none : (p : ℕ) → payloads_to p r.actions ≡ [] → ((m : Message) → Due hash s e r p m → false ≡ true) → Exact p
  exact-none p h n = record { to = false; payload = Prune; are = h; due = λ z. true≢ z; alone = λ m d. true≢ (n m d) }

  pub exact-idle : (p : ℕ) → payloads_to p r.actions ≡ [] → carrying e ≡ false → Exact p
  exact-idle p h c = exact-none p h (λ m d. sym c ∙ due-carrying p m d)

  -- the queue
  pub record Queued : Type 0 where
    pub each_queued : (p : ℕ) (t : Took) → took hash s.settings (accept e r) ≡ Some t → other_link t.from p s ≡ true → any (notes p t.id) r.state.queue ≡ true
    pub only_queued : (p id : ℕ) → any (notes p id) r.state.queue ≡ true → WhyQueued hash s e r p id
    pub until_announced : (p id : ℕ) → any (notes p id) s.queue ≡ true → UntilAnnounced e r p id

  pub queued-same : r.state.queue ≡ s.queue → took hash s.settings (accept e r) ≡ None → Queued
  queued-same q n = record {
    each_queued = λ p t h l. none-some t (sym n ∙ h);
    only_queued = λ p id h. queued_before (rw (← q) h);
    until_announced = λ p id h. still_queued (rw q h);
  }

  pub queued-more : (id from round : ℕ) → took hash s.settings (accept e r) ≡ Some (record { id = id; from = from }) →
      r.state.queue ≡ s.queue ++ note_for (filter (λ q. not (eqb q from)) (lazy_peers s.links)) id round → Queued
  queued-more id from round k q = record {
    each_queued = λ p t h l. each p t (sym k ∙ h) l;
    only_queued = λ p j h. on p j (or_cases (any (notes p j) s.queue) (any (notes p j) new) (sym (any_append (notes p j) s.queue new) ∙ rw (← q) h));
    until_announced = λ p j h. still_queued (rw q (any_left (notes p j) s.queue new h));
  }
    where
      new : List Note
      new = note_for (filter (λ q. not (eqb q from)) (lazy_peers s.links)) id round

      each : (p : ℕ) (t : Took) → Some (record { id = id; from = from }) ≡ Some t → other_link t.from p s ≡ true → any (notes p t.id) r.state.queue ≡ true
      each p t h l =
          let a : record { id = id; from = from } ≡ t = cc in
          let i : id ≡ t.id = ap (λ (x : Took). x.id) a in
          let f : from ≡ t.from = ap (λ (x : Took). x.from) a in
          rw (← i) (rw q (any-right (notes p id) s.queue new (noted-for p id round _ (member_filter (λ q. not (eqb q from)) p (lazy_peers s.links) (rw f (and_right (member p (lazy_peers s.links)) (not (eqb p t.from)) l)) (and_left (member p (lazy_peers s.links)) (not (eqb p t.from)) l)))))

      on : (p j : ℕ) → (any (notes p j) s.queue ≡ true) ⊎ (any (notes p j) new ≡ true) → WhyQueued hash s e r p j
      on p j (inl h) = queued_before h
      on p j (inr h) =
          let o = only-noted-for p j id round (filter (λ q. not (eqb q from)) (lazy_peers s.links)) h in
          let m = member-filtered (λ q. not (eqb q from)) p (lazy_peers s.links) o.1 in
          taken_in from (rw (← o.0) k) (rw (m.0, m.1) refl)

  pub only-of : (p : ℕ) (m : Message) (before after : List Message) → Exact p → payloads_to p r.actions ≡ before ++ (m ∷ after) → Due hash s e r p m
  only-of p m before after x h =
      let o = only-one x.to x.payload m before after (sym x.are ∙ h) in
      rw (← o.1) (x.due o.0)

  pub each-of : (p : ℕ) (m : Message) → Exact p → Due hash s e r p m → payloads_to p r.actions ≡ m ∷ []
  each-of p m x d = let o = x.alone m d in x.are ∙ rw (o.0, o.1) refl

  pub follows-by : ((p : ℕ) → Exact p) → Queued → ((p id : ℕ) → any (announcing p id) r.actions ≡ false) → FollowsTree hash s e r
  follows-by x q a = record {
    only_due = λ p m before after h. only-of p m before after (x p) h;
    each_due = λ p m d. each-of p m (x p) d;
    each_queued = q.each_queued;
    only_queued = q.only_queued;
    until_announced = q.until_announced;
    only_announced = λ p id h. true≢ (sym (a p id) ∙ h);
  }

  -- an event that pushes nothing
  pub follows-plain : (r₁ : Run) → Ready s r₁ → Plain r₁ r → took hash s.settings (accept e r) ≡ None → ((p : ℕ) (m : Message) → Due hash s e r p m → false ≡ true) → FollowsTree hash s e r
  follows-plain r₁ b k n d =
      follows-by (λ p. exact-none p (k.payloads p ∙ b.payloads p) (d p)) (queued-same (k.queue ∙ b.queue) n) (λ p id. k.announced p id ∙ b.announced p id)

  pub follows-idle : (r₁ : Run) → Ready s r₁ → Plain r₁ r → took hash s.settings (accept e r) ≡ None → carrying e ≡ false → FollowsTree hash s e r
  follows-idle r₁ b k n c = follows-plain r₁ b k n (λ p m d. sym c ∙ due-carrying p m d)
