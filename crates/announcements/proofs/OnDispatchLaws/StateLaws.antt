-- The state after a dispatch, and the numbers of its entries.
-- Assumes nothing.
use Rattle.announcements.proofs.Words.{◌≡◌, ℕ, ◌≤◌, ◌+◌, arith, length, length-append, note_at, sym, ◌∙◌, ap, refl, subst, Bool, true, false, List, [], ◌++◌, take, leb, leb-true, and_left, and_right, keys, Links, State, Note, with_dropped, with_queue, with_dispatch_scheduled, per_message, queued_peers, cached_in, add_batches, dispatch_batches, settled, Sizes, sized_queued, sized_recorded, rooms_of, sizes_value, settled-as, same_links, same_dropped, same-rooms-in}
use lib.ListN.{length-map}
use Rattle.std.proofs.Math.Seq.{take_all}
use Rattle.protocol.specs.Whole.{fits, content_held}
use Rattle.decide.specs.Sizes.{sizes_of}
use Rattle.decide.specs.StateAfter.{recorded_state, dispatch_state}
use Rattle.block.specs.NoteSteps.{standing}
use Rattle.steps.specs.declared.Sizes.{Sizes as CodeSizes}
use Rattle.steps.specs.declared.call.Call.{Call}
use Rattle.announcements.specs.OnDispatchTimer.{after_dispatch}
use Rattle.announcements.specs.QueuedRows.{held_then, notes_at, noted_again, NotedBack, RowsOf}

-- what is noted, by which identifiers are cached
abbrev pub noted_by : (ℕ → Bool) → Call → State → List Note
noted_by held call s = add_batches held (dispatch_batches (rooms_of call s) (queued_peers s.queue) (per_message s.settings.max_message_size) s.queue) s.dropped

module _ (call : Call) (s : State) where
  pub dropped-after : (after_dispatch call s).dropped ≡ noted_by (cached_in s.cache) call s
  unfolding dispatch_state recorded_state
  dropped-after = refl

  pub state-after : after_dispatch call s ≡ with_dispatch_scheduled false (with_queue [] (recorded_state (noted_by (cached_in s.cache) call s) s))
  unfolding dispatch_state
  state-after = refl

  pub sizes-after : sizes_of (after_dispatch call s) ≡ sized_queued 0 (sized_recorded (length (after_dispatch call s).dropped) (sizes_of s))
  unfolding dispatch_state recorded_state sizes_of content_held
  sizes-after = refl

fits-dropped : (s : State) → fits s ≡ true → length s.dropped ≤ s.limits.D
unfolding fits
fits-dropped s h =
    let t : leb (length s.dropped) s.limits.D ≡ true = search (and_left, and_right) depth 20 in
    leb-true (length s.dropped) s.limits.D t

noted-fits : (call : Call) (s : State) → fits (after_dispatch call s) ≡ true → length (noted_by (cached_in s.cache) call s) ≤ s.limits.D
unfolding dispatch_state recorded_state
noted-fits call s h = fits-dropped (after_dispatch call s) h

-- there is room for what is noted
pub noted-room : (call : Call) (s : State) (rows : List ℕ) → fits (after_dispatch call s) ≡ true → NotedBack call s rows → length s.dropped + length rows ≤ s.limits.D
noted-room call s rows h noted = omega (arith, noted-fits call s h, ap length noted.noted, length-append s.dropped (notes_at s.queue rows), length-map rows (note_at s.queue))

-- once a first event has evicted
module _ (now : ℕ) (call : Call) (s : State) where
  noted-same : noted_by (held_then now s) call (settled now s) ≡ noted_by (held_then now s) call s
  noted-same = λ i. add_batches (held_then now s) (dispatch_batches (rooms i) (queued_peers (queue i)) (per_message (size i)) (queue i)) (same_dropped now s i)
    where
      rooms : rooms_of call (settled now s) ≡ rooms_of call s
      rooms = same-rooms-in (settled now s) s call.peer call.rooms.now (ap (λ (l : Links). keys l) (same_links now s))

      queue : (settled now s).queue ≡ s.queue
      queue = settled-as now s (λ (u : State). u.queue) refl

      size : (settled now s).settings.max_message_size ≡ s.settings.max_message_size
      size = settled-as now s (λ (u : State). u.settings.max_message_size) refl

  -- what was found of the state before is what is noted then
  pub noted-then : (rows : List ℕ) → length rows ≤ 4096 → RowsOf s.queue rows → noted_by (held_then now s) call s ≡ s.dropped ++ notes_at s.queue rows → NotedBack call (settled now s) rows
  noted-then rows few among e = record {
    few = few;
    among = subst (λ (ns : List Note). RowsOf ns rows) (sym (settled-as now s (λ (u : State). u.queue) refl)) among;
    noted = noted-same ∙ e ∙ sym (settled-as now s (λ (u : State). u.dropped ++ notes_at u.queue rows) refl);
  }

-- rows of the queue are noted, one after the other
module _ (rows : List ℕ) where
  -- those before row i
  abbrev pub noted_first : ℕ → State → State
  noted_first i s = with_dropped (s.dropped ++ notes_at s.queue (take i rows)) s

  pub first-all : (i : ℕ) → length rows ≤ i → (s : State) → standing (noted_first i s) ≡ noted_again rows s
  unfolding recorded_state
  first-all i w s = ap (λ (l : List ℕ). standing (with_dropped (s.dropped ++ notes_at s.queue l) s)) (take_all i rows w)

pub recorded-of : (t : State) (z : CodeSizes) → sizes_value z ≡ sizes_of t → z.dropped ≡ length t.dropped
unfolding sizes_of
recorded-of t z e = ap (λ (x : Sizes). x.recorded) e

pub recorded-same : (t : State) → sizes_of t ≡ sized_recorded (length t.dropped) (sizes_of t)
unfolding sizes_of
recorded-same t = refl
