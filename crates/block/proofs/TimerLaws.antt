-- The rows of graft timers: what another list of them does to the state, and a mark by where its identifier stands.
-- Assumes nothing.
use Rattle.block.proofs.Words.{◌≡◌, refl, sym, ap, ◌∙◌, subst, List, ℕ, ◌+◌, ◌≤◌, ◌<◌, arith, lit<, length, Range, Here, Between, State, Limits, with_graft_timers}
use Rattle.std.proofs.lemmas.List.Edits.{length-insert}
use Rattle.storage.specs.Rows.Sorted.{key_of}
use Rattle.storage.specs.Tables.Listed.{listed}
use Rattle.storage.proofs.TablesLaws.Listed.{length-listed}
use Rattle.block.specs.Layout.{span, table}
use Rattle.block.specs.View.{state_of, view_of, limits_of, id_at, timers_in}
use Rattle.block.specs.Sound.{Laid, Sound}
use Rattle.block.specs.Becomes.{Becomes}
use Rattle.block.specs.Heads.{with_timer_count}
use Rattle.block.specs.TimerSteps.{timer_also, timer_marked}
use Rattle.block.specs.declared.head.Head.{Head}
use Rattle.block.proofs.KeyMembers.{member-here, member-between}
use Rattle.block.proofs.KeyPlaces.{insert_key-between}
use Rattle.block.proofs.Lent.{lent_at, given_back, lent-table, lent-frame, lent-long}

pub count-timers : (h : Head) (xs : List ℕ) → length (state_of h xs).timers.graft ≡ h.live.timers
unfolding state_of timers_in
count-timers h xs = length-listed (id_at 0) 32 h.live.timers (table (limits_of h.limits) 10 xs)

pub timer-room : (h : Head) (xs : List ℕ) → length (state_of h xs).timers.graft < (state_of h xs).limits.T → h.live.timers < h.limits.timers
unfolding state_of
timer-room h xs q = omega (arith, count-timers h xs, q)

pub room-for : (h : Head) (xs : List ℕ) (k : ℕ) → length (state_of h xs).timers.graft + k ≤ (state_of h xs).limits.T → h.live.timers + k ≤ h.limits.timers
unfolding state_of
room-for h xs k q = omega (arith, count-timers h xs, q)

-- a mark, where there is one and where there is none
module _ (id i : ℕ) (s : State) where
  pub marked-there : Here s.timers.graft id i → timer_marked id s ≡ s
  unfolding timer_marked
  marked-there h = rw (member-here id i s.timers.graft h) refl

  pub marked-new : Between s.timers.graft id i → timer_marked id s ≡ timer_also id s
  unfolding timer_marked
  marked-new b = rw (member-between id i s.timers.graft b) refl

  pub marked-room : Between s.timers.graft id i → length (timer_marked id s).timers.graft ≤ s.limits.T → length s.timers.graft < s.limits.T
  marked-room b room =
      let more = ap (λ (t : State). length t.timers.graft) (marked-new b) ∙ ap length (insert_key-between id i s.timers.graft b) ∙ length-insert s.timers.graft i id b.within in
      omega (arith, room, more)

-- the table that is lent
module _ (h : Head) (xs : List ℕ) (r : Range ℕ) (hr : r ≡ span (limits_of h.limits) 10) where
  abbrev l : Limits
  l = limits_of h.limits

  pub timers-lent : listed 32 key_of h.live.timers (lent_at r xs) ≡ (state_of h xs).timers.graft
  unfolding state_of timers_in key_of id_at
  timers-lent = ap (listed 32 key_of h.live.timers) (lent-table l 10 r xs (lit< tt) hr)

  pub timers-goes : (f : List ℕ → List ℕ) (m : ℕ) (ys : List ℕ) → Sound h xs → m ≤ l.T → length ys ≡ length (lent_at r xs)
      → listed 32 key_of m ys ≡ f (state_of h xs).timers.graft
      → Becomes (λ (s : State). with_graft_timers (f s.timers.graft) s) h xs (with_timer_count m h) (given_back r xs ys)
  unfolding state_of timers_in key_of id_at
  timers-goes f m ys sound hm g q =
      let framed = lent-frame l 10 r xs (lit< tt) hr ys sound.fit.long g in
      let old = sound.laid in
      record {
        state = ap (view_of (with_timer_count m h)) framed ∙ ap (λ (t : List ℕ). with_graft_timers t (state_of h xs)) q;
        sound = record {
          fit = record { ceilings = sound.fit.ceilings; within = omega (arith, sound.fit.within); long = omega (arith, lent-long l 10 r xs (lit< tt) hr ys sound.fit.long g, sound.fit.long) };
          laid = subst (Laid (with_timer_count m h)) (sym framed) (record {
            received = old.received;
            cached = old.cached;
            grafted = old.grafted;
            contents = old.contents;
            used = old.used;
            grafts = old.grafts;
            missing = old.missing;
            queue = old.queue;
            dropped = old.dropped;
          });
        };
      }
