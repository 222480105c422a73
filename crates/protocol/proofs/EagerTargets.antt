-- Whom an eager push goes to: each tree link but the sender's and those that are skipped, once.
-- Assumes nothing.
use Rattle.std.proofs.Common.{ℕ, ◌≡◌, refl, sym, ap, ◌∙◌, Bool, true, false, not, ◌&&◌, List, [], ◌∷◌, ltb, eqb, eqb-true, if◌then◌else◌}
use Rattle.storage.specs.Lists.Base.{filter, all, member, ascending}
use Rattle.storage.specs.Lists.Map.{keys}
use Rattle.storage.proofs.ListsLaws.MapLaws.{cases, true≢, and_left, and_right}
use Rattle.storage.proofs.ListsLaws.KeyLaws.{eqb-sym}
use Rattle.postcard.specs.Message.{Message}
use Rattle.protocol.specs.Links.{Mark, Links, is_eager, peers_marked, eager_peers}
use Rattle.protocol.specs.State.{State}
use Rattle.protocol.specs.Push.{eager_targets}
use Rattle.protocol.proofs.StepNeighbours.{absent}
use Rattle.protocol.proofs.Pushes.{eqb_refl, member_filter}

-- the message, once for each time that the peer is among these
unfoldable pub copies : ℕ → List ℕ → Message → List Message
copies p [] m = []
copies p (x ∷ xs) m = if eqb x p then m ∷ copies p xs m else copies p xs m

-- to one peer or to none
abbrev pub one_if : Bool → Message → List Message
one_if b m = if b then m ∷ [] else []

copies-absent : (p : ℕ) (f : ℕ → Bool) (xs : List ℕ) (m : Message) → member p xs ≡ false → copies p (filter f xs) m ≡ []
unfolding copies filter member
copies-absent p f [] m h = refl
copies-absent p f (x ∷ xs) m h =
    cases (eqb p x)
    (λ e. true≢ (sym (rw e at h)))
    (λ e. cases (f x) (λ q. rw q (rw (eqb-sym x p ∙ e) (copies-absent p f xs m (rw e at h)))) (λ q. rw q (copies-absent p f xs m (rw e at h))))

copies-marked : (p : ℕ) (f : ℕ → Bool) (g : Mark → Bool) (l : Links) (m : Message) → ascending (keys l) ≡ true → copies p (filter f (peers_marked g l)) m ≡ one_if (member p (peers_marked g l) && f p) m
unfolding copies filter member peers_marked ascending
copies-marked p f g [] m h = refl
copies-marked p f g (e ∷ l) m h =
    cases (g e.value)
    (λ q. rw q (cases (eqb p e.key)
    (λ k. rw k (here k))
    (λ k. rw k (cases (f e.key) (λ z. rw z (rw (eqb-sym e.key p ∙ k) (copies-marked p f g l m rest))) (λ z. rw z (copies-marked p f g l m rest))))))
    (λ q. rw q (copies-marked p f g l m rest))
  where
    above : all (ltb e.key) (keys l) ≡ true
    above = and_left (all (ltb e.key) (keys l)) (ascending (keys l)) h

    rest : ascending (keys l) ≡ true
    rest = and_right (all (ltb e.key) (keys l)) (ascending (keys l)) h

    none : copies e.key (filter f (peers_marked g l)) m ≡ []
    none = copies-absent e.key f (peers_marked g l) m (absent g e.key l above)

    here : eqb p e.key ≡ true → copies p (if f e.key then e.key ∷ filter f (peers_marked g l) else filter f (peers_marked g l)) m ≡ one_if (f p) m
    here k = rw (eqb-true p e.key k) (cases (f e.key)
        (λ z. rw (z, eqb_refl e.key) (ap (λ (l : List Message). m ∷ l) none))
        (λ z. rw z none))

-- to each tree link but the sender's and those that are skipped
pub copies-targets : (p sender : ℕ) (skip : List ℕ) (s : State) (m : Message) → ascending (keys s.links) ≡ true →
    copies p (eager_targets sender skip s) m ≡ one_if (member p (eager_peers s.links) && (not (eqb p s.settings.me) && not (eqb p sender) && not (member p skip))) m
unfolding eager_targets eager_peers
copies-targets p sender skip s m h = copies-marked p (λ q. not (eqb q s.settings.me) && not (eqb q sender) && not (member q skip)) is_eager s.links m h

-- the panel, the sender and the skipped apart, an eager peer is a target
pub target : (p sender : ℕ) (skip : List ℕ) (s : State) → eqb p s.settings.me ≡ false → eqb p sender ≡ false → member p skip ≡ false → member p (eager_peers s.links) ≡ true →
    member p (eager_targets sender skip s) ≡ true
unfolding eager_targets
target p sender skip s a b c m = member_filter (λ q. not (eqb q s.settings.me) && not (eqb q sender) && not (member q skip)) p (eager_peers s.links) (rw (a, b, c)) m
