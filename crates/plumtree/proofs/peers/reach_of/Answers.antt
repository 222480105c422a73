-- `reach_of`: by the event's kind.
use Rattle.std.proofs.Common.{ℕ, ◌-◌, ◌≡◌, arith, subst, List, length, get_or, take, drop, length-drop, take_all}
use Rattle.postcard.specs.Decode.{event_of}
use Rattle.plumtree.specs.Peers.{CoversSome, EachRead}
use Rattle.plumtree.specs.declared.peers.Reach.{Reach}
use Rattle.plumtree.specs.declared.peers.Reach.TheVariants.{Links}
use Rattle.plumtree.proofs.PeerLaws.{reaches-kind, covers-neighbour, covers-broadcast}
use Rattle.plumtree.proofs.peers.reach_of.Goals as goal

-- what is left behind the kind
behind : (xs : List ℕ) → take (length xs - 1) (drop 1 xs) ≡ drop 1 xs
behind xs = take_all (length xs - 1) (drop 1 xs) (omega (arith, length-drop 1 xs))

of-kind : (r : Reach) (xs : List ℕ) (k : ℕ) → get_or xs 0 0 ≡ k → EachRead (CoversSome r) (event_of k (take (length xs - 1) (drop 1 xs))) → EachRead (CoversSome r) (event_of (get_or xs 0 0) (drop 1 xs))
of-kind r xs k e h = rw e (subst (λ (ys : List ℕ). EachRead (CoversSome r) (event_of k ys)) (behind xs) h)

pub returns-in_default : goal.returns-in_default
returns-in_default c = reaches-kind _ c.args.event.now (λ l. absurd (omega arith))

pub returns-in-0 : goal.returns-in-0
returns-in-0 c = reaches-kind _ c.args.event.now (λ l. of-kind _ c.args.event.now 0 (omega arith) c.message_reach.ensures)

pub returns-in-1 : goal.returns-in-1
returns-in-1 c = reaches-kind _ c.args.event.now (λ l. of-kind Links c.args.event.now 1 (omega arith) (covers-broadcast _))

pub returns-in-2 : goal.returns-in-2
returns-in-2 c = reaches-kind _ c.args.event.now (λ l. of-kind _ c.args.event.now 2 (omega arith) c.timer_reach.ensures)

pub returns-in-3-to-255 : goal.returns-in-3-to-255
returns-in-3-to-255 c = reaches-kind _ c.args.event.now (λ l. covers-neighbour _ _ (omega arith))
