-- A state with other missing messages and timers, and the limits of the two tables.
-- Assumes nothing.
use Rattle.announcements.proofs.Words.{◌≡◌, Bool, true, ◌&&◌, List, ℕ, ◌≤◌, leb-true, leb, length, Map, and_left, and_right, State, Hop, with_missing, with_graft_timers, cache_fits}
use Rattle.protocol.specs.Whole.{content_held, fits}

-- a state with other missing messages and timers
abbrev pub with_heard : Map (List Hop) → List ℕ → State → State
with_heard m g s = with_missing m (with_graft_timers g s)

-- the tests of question 13: those before the missing messages, and each of the others
abbrev five : State → Bool
five s =
    leb (length s.links) s.limits.N && cache_fits s.limits.R s.received && cache_fits s.limits.C s.cache
    && leb (content_held s) s.limits.B && cache_fits s.limits.G s.grafted

abbrev missing_fits : State → Bool
missing_fits s = leb (length s.missing) s.limits.S

abbrev timers_fit : State → Bool
timers_fit s = leb (length s.timers.graft) s.limits.T

abbrev queue_fits : State → Bool
queue_fits s = leb (length s.queue) s.limits.Q

abbrev record_fits : State → Bool
record_fits s = leb (length s.dropped) s.limits.D

middle : (x a b q d : Bool) → (x && a && b && q && d) ≡ true → a ≡ true
middle x a b q d h = and_right x a (and_left (x && a) b (and_left (x && a && b) q (and_left (x && a && b && q) d h)))

next : (x a b q d : Bool) → (x && a && b && q && d) ≡ true → b ≡ true
next x a b q d h = and_right (x && a) b (and_left (x && a && b) q (and_left (x && a && b && q) d h))

pub fits-missing : (s : State) → fits s ≡ true → length s.missing ≤ s.limits.S
unfolding fits
fits-missing s h = leb-true (length s.missing) s.limits.S (middle (five s) (missing_fits s) (timers_fit s) (queue_fits s) (record_fits s) h)

pub fits-timers : (s : State) → fits s ≡ true → length s.timers.graft ≤ s.limits.T
unfolding fits
fits-timers s h = leb-true (length s.timers.graft) s.limits.T (next (five s) (missing_fits s) (timers_fit s) (queue_fits s) (record_fits s) h)
