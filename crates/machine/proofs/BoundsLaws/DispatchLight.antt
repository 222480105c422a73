-- The actions of a dispatch: for each peer at most as many IHave messages, and as many announcements in them, as the queue is long.
-- Assumes nothing.
use Rattle.machine.proofs.Words.{ℕ, zero, suc, ◌+◌, ◌*◌, ◌≤◌, ◌≡◌, refl, ap, Bool, true, not, ◌||◌, List, [], ◌∷◌, arith, eqb, ltb, length, take, drop, length-append, take-append-drop, if◌then◌else◌, filter, any, cases, Ihave, AnnounceDropped, Scheduled, State, Note, Room}
use lib.ListN.{length-map}
use Rattle.storage.specs.Lists.Base.{sum}
use Rattle.storage.specs.Lists.Map.{insert_key}
use Rattle.storage.proofs.ListsLaws.ListLaws.{length-filter, count-length}
use Rattle.protocol.specs.Push.{for_peer}
use Rattle.protocol.specs.Ticks.{per_message, chunks, queued_for, queued_peers}
use Rattle.decide.specs.RecordGrowth.{cached_in}
use Rattle.decide.specs.Pieces.{Piece, numbered, peer_pieces, pieces, piece_taken, piece_actions}
use Rattle.decide.specs.ActionsAfter.{dispatch_actions}
use Rattle.machine.proofs.BoundsLaws.Light.{sum-append, Light, light-none, light-more, light-cons, light-if}
use Rattle.machine.proofs.BoundsLaws.ActionLengths.{scheduled-few, ihave-few}
use Rattle.machine.proofs.BoundsLaws.Small.{Small}

-- an IHave of these announcements, with a timer behind it
abbrev weight : List Ihave → ℕ
weight hs = 67 + 42 * length hs

-- of pieces
abbrev weight_of : Piece → ℕ
weight_of x = weight x.ihaves

actions-light : (held : ℕ → Bool) (rooms : List Room) (flag : Bool) (xs : List Piece) → Light (sum weight_of xs) (piece_actions held rooms flag xs)
unfolding piece_actions sum
actions-light held rooms flag [] = light-none
actions-light held rooms flag (x ∷ xs) =
    let rest : Light (44 + sum weight_of xs) (if piece_taken rooms x || flag || not (any (λ h. held h.id) x.ihaves) then piece_actions held rooms flag xs else Scheduled 1000 AnnounceDropped ∷ piece_actions held rooms true xs) =
    light-if (piece_taken rooms x || flag || not (any (λ h. held h.id) x.ihaves))
    (light-more (actions-light held rooms flag xs) (omega arith))
    (light-cons (scheduled-few 1000 AnnounceDropped) (actions-light held rooms true xs)) in
    light-more (light-cons (ihave-few x.peer (piece_taken rooms x) x.ihaves) rest) (omega arith)

chunks-light : (n k : ℕ) (hs : List Ihave) → sum weight (chunks n k hs) ≤ 67 * n + 42 * length hs
unfolding chunks sum
chunks-light zero k hs = omega arith
chunks-light (suc n) k [] = omega arith
chunks-light (suc n) k (h ∷ hs) =
    omega (arith, chunks-light n k (drop k (h ∷ hs)), length-append (take k (h ∷ hs)) (drop k (h ∷ hs)), ap length (take-append-drop k (h ∷ hs)))

numbered-light : (p k : ℕ) (cs : List (List Ihave)) → sum weight_of (numbered p k cs) ≡ sum weight cs
unfolding numbered sum
numbered-light p k [] = refl
numbered-light p k (c ∷ cs) = omega (arith, numbered-light p (suc k) cs)

queued-few : (p : ℕ) (ns : List Note) → length (queued_for p ns) ≤ length ns
unfolding queued_for
queued-few p ns = omega (arith, length-map {B = Ihave} (filter (for_peer p) ns) (λ n. record { id = n.id; round = n.round }), length-filter (for_peer p) ns, count-length (for_peer p) ns)

peer-light : (k : ℕ) (ns : List Note) (p : ℕ) → length ns ≤ 8192 → sum weight_of (peer_pieces k ns p) ≤ 892928
unfolding peer_pieces
peer-light k ns p h =
    omega (arith, numbered-light p 1 (chunks (length ns) k (queued_for p ns)), chunks-light (length ns) k (queued_for p ns), queued-few p ns)

pieces-light : (ps : List ℕ) (k : ℕ) (ns : List Note) → length ns ≤ 8192 → sum weight_of (pieces ps k ns) ≤ 892928 * length ps
unfolding pieces sum
pieces-light [] k ns h = omega arith
pieces-light (p ∷ ps) k ns h =
    omega (arith, sum-append weight_of (peer_pieces k ns p) (pieces ps k ns), peer-light k ns p h, pieces-light ps k ns h)

insert-few : (k : ℕ) (xs : List ℕ) → length (insert_key k xs) ≤ suc (length xs)
unfolding insert_key
insert-few k [] = omega arith
insert-few k (x ∷ xs) =
    cases (ltb k x)
    (λ e. rw e (omega arith))
    (λ e. rw e (cases (eqb k x) (λ q. rw q (omega arith)) (λ q. rw q (omega (arith, insert-few k xs)))))

peers-few : (ns : List Note) → length (queued_peers ns) ≤ length ns
unfolding queued_peers
peers-few [] = omega arith
peers-few (n ∷ ns) = omega (arith, insert-few n.peer (queued_peers ns), peers-few ns)

pub dispatch-light : (rooms : List Room) (s : State) → Small s → Light 7314866176 (dispatch_actions rooms s)
unfolding dispatch_actions
dispatch-light rooms s small =
    let k : ℕ = per_message s.settings.max_message_size in
    light-more (actions-light (cached_in s.cache) rooms s.timers.announce (pieces (queued_peers s.queue) k s.queue))
    (omega (arith, pieces-light (queued_peers s.queue) k s.queue small.queue, peers-few s.queue, small.queue))
