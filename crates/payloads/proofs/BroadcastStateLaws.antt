-- A Swarm broadcast: what each of its steps asks, that together they are the broadcast, and the numbers of entries after it.
-- Assumes nothing.
use Rattle.payloads.proofs.Words.{◌≡◌, refl, sym, ap, ◌∙◌, true, ◌&&◌, not, ℕ, ◌+◌, ◌≤◌, ◌^◌, arith, length, List, [], ◌==◌, count_by, id_of, Id, holds, State, Limits, eager_targets, cached_in, settled, state_of, Head, sizes_value, links_from, Allowed, these_noted, Call, settled-as, same_dropped, rooms_of, links_of, AllBelow}
use Rattle.std.proofs.Math.Path.{subst}
use Rattle.protocol.specs.Whole.{content_held}
use Rattle.decide.specs.Sizes.{sizes_of}
use Rattle.decide.specs.StateAfter.{taken_state, lazy_state, pushed_state, recorded_state, broadcast_state}
use Rattle.decide.proofs.Broadcast.{holds-put}
use Rattle.steps.specs.Rooms.{rooms_in}
use Rattle.steps.specs.TakeIn.{Takes}
use Rattle.steps.specs.declared.Sizes.{Sizes as CodeSizes}
use Rattle.steps.proofs.TakeInLaws.{takes-later}
use Rattle.payloads.specs.Broadcast.{OwnPush, after_broadcast}
use Rattle.payloads.specs.EagerPush.Targets.{link_peers}
use Rattle.payloads.specs.EagerPush.Decided.{PushIs}
use Rattle.payloads.specs.declared.eager_push.Push.{Push}
use Rattle.payloads.proofs.EagerPushLaws.NoteLaws.{noted-back, these-length}
use Rattle.payloads.proofs.EagerPushLaws.SameLaws.{push-same}
use Rattle.payloads.proofs.PushedLaws.{queue-within, record-within, own-number, pushed_numbers, taken-recorded, taken-queued}

module _ (call : Call) (id : Id) (content : List ℕ) (s : State) where
  abbrev now : ℕ
  now = call.instant.0

  abbrev end : State
  end = after_broadcast call id content s

  abbrev taken : State
  taken = taken_state now (id_of id) content 0 s

  abbrev queued : ℕ → State
  queued me = lazy_state (id_of id) 0 me taken

  -- the steps are the broadcast, where the eager push goes to these peers
  steps_are : (ps : List ℕ) → eager_targets s.settings.me [] (queued s.settings.me) ≡ ps → pushed_state (rooms_of call (queued s.settings.me)) ps (record { id = id_of id; round = 0 }) (queued s.settings.me) ≡ end
  unfolding broadcast_state rooms_in taken_state lazy_state
  steps_are ps e = ap (λ (qs : List ℕ). pushed_state (rooms_of call (queued s.settings.me)) qs (record { id = id_of id; round = 0 }) (queued s.settings.me)) (sym e)

  queued-cached : (me : ℕ) → holds (id_of id) (queued me).cache ≡ true
  unfolding taken_state lazy_state
  queued-cached me = holds-put (id_of id) _ _ s.cache

  end-limits : end.limits ≡ s.limits
  unfolding broadcast_state pushed_state recorded_state lazy_state taken_state
  end-limits = refl

  end-received : end.received ≡ taken.received
  unfolding broadcast_state pushed_state recorded_state lazy_state
  end-received = refl

  end-cache : end.cache ≡ taken.cache
  unfolding broadcast_state pushed_state recorded_state lazy_state
  end-cache = refl

  end-queue : end.queue ≡ (queued s.settings.me).queue
  unfolding broadcast_state pushed_state recorded_state taken_state
  end-queue = refl

  taken-limits : taken.limits ≡ s.limits
  unfolding taken_state
  taken-limits = refl

  queued-limits : (me : ℕ) → (queued me).limits ≡ s.limits
  unfolding taken_state lazy_state
  queued-limits me = refl

  -- by what was decided
  module _ (push : Push) (d : OwnPush call (id_of id) s push) where
    abbrev pub ls : List ℕ
    ls = links_of push.noted

    queued-decided : PushIs call s.settings.me [] (id_of id) (queued s.settings.me) push
    unfolding taken_state lazy_state
    queued-decided = push-same s (queued s.settings.me) refl refl refl call s.settings.me [] (id_of id) push d

    notes-own : these_noted ls (id_of id) 0 (queued s.settings.me) ≡ end
    notes-own =
        noted-back call push.to (id_of id) 0 (queued s.settings.me) ls (queued-decided.noted.same (cached_in (queued s.settings.me).cache) 0 (queued-cached s.settings.me))
        ∙ steps_are (link_peers push.to (queued s.settings.me)) queued-decided.to.same

    record-long : length s.dropped + length ls ≡ length end.dropped
    unfolding taken_state lazy_state
    record-long = omega (arith, ap (λ (x : State). length x.dropped) notes-own, these-length ls (id_of id) 0 (queued s.settings.me))

  module _ (allowed : Allowed (after_broadcast call id content) s) where
    pub takes : now ≤ 2 ^ 62 → Takes now (id_of id) content 0 s
    takes early = takes-later now (id_of id) content 0 s end allowed.rest early allowed.fits end-limits end-received end-cache

    module _ (me : ℕ) (own : s.settings.me ≡ me) where
      pub lazy-asks : (u : State) → u ≡ taken → length (lazy_state (id_of id) 0 me u).queue ≤ u.limits.Q
      lazy-asks u e =
          omega (
            arith,
            queue-within end allowed.fits,
            ap length end-queue,
            ap (λ l. l.Q) end-limits,
            ap (λ l. l.Q) taken-limits,
            ap (λ (x : State). x.limits.Q) e,
            ap (λ (x : State). length (lazy_state (id_of id) 0 me x).queue) e,
            ap (λ m. length (queued m).queue) own,
          )

      -- by what was decided
      module _ (push : Push) (d : OwnPush call (id_of id) s push) where
        notes : (u : State) → u ≡ queued me → these_noted (links_of push.noted) (id_of id) 0 u ≡ end
        notes u e = ap (these_noted (links_of push.noted) (id_of id) 0) (e ∙ ap queued (sym own)) ∙ notes-own push d

        pub notes-below : (u : State) → u ≡ queued me → AllBelow push.noted (length u.links)
        notes-below u e = subst (λ (x : State). AllBelow push.noted (length x.links)) (sym (e ∙ ap queued (sym own))) (queued-decided push d).noted.below

        pub notes-room : (u : State) → u ≡ queued me → length u.dropped + length (links_of push.noted) ≤ u.limits.D
        notes-room u e =
            omega (
              arith,
              record-within end allowed.fits,
              ap (λ (l : Limits). l.D) end-limits,
              ap (λ (x : State). length x.dropped) (notes u e),
              these-length (links_of push.noted) (id_of id) 0 u,
              ap (λ (x : State). x.limits.D) e,
              ap (λ (l : Limits). l.D) (queued-limits me),
            )

        pub end-is : (u v : State) → u ≡ queued me → v ≡ these_noted (links_of push.noted) (id_of id) 0 u → v ≡ end
        end-is u v e f = f ∙ notes u e

-- the numbers of entries after it
module _ (call : Call) (id : Id) (content : List ℕ) (h : Head) (xs : List ℕ) where
  abbrev shown : State
  shown = state_of h xs

  abbrev t : State
  t = settled call.instant.0 shown

  same-me : t.settings.me ≡ h.settings.me
  same-me = settled-as call.instant.0 shown (λ (x : State). x.settings.me) refl ∙ own-number h xs

  module _ (z : CodeSizes) (e : sizes_value z ≡ sizes_of (taken_state call.instant.0 (id_of id) content 0 t))
      (count : ℕ) (c : count ≡ count_by (λ l. not l.eager && not (l.peer == h.settings.me)) (links_from 0 shown.links))
      (push : Push) (d : OwnPush call (id_of id) t push) where
    queue-is : z.queued + count ≡ length (end call id content t).queue
    queue-is = taken-queued call.instant.0 (id_of id) content 0 h xs z e h.settings.me count c ∙ sym (ap (λ me. length (queued call id content t me).queue) same-me) ∙ sym (ap length (end-queue call id content t))

    dropped-is : z.dropped + length (links_of push.noted) ≡ length (end call id content t).dropped
    dropped-is =
        omega (
          arith,
          taken-recorded call.instant.0 (id_of id) content 0 h xs z e,
          ap length (same_dropped call.instant.0 shown),
          record-long call id content t push d,
        )

    pub sizes-are : sizes_value (pushed_numbers z (z.queued + count) (z.dropped + length (links_of push.noted))) ≡ sizes_of (end call id content t)
    unfolding broadcast_state pushed_state recorded_state lazy_state sizes_of content_held
    sizes-are = λ p. record {
      links = (e p).links;
      received = (e p).received;
      received_expiry = (e p).received_expiry;
      cached = (e p).cached;
      cached_expiry = (e p).cached_expiry;
      content = (e p).content;
      grafted = (e p).grafted;
      grafted_expiry = (e p).grafted_expiry;
      missing = (e p).missing;
      timers = (e p).timers;
      queued = queue-is p;
      recorded = dropped-is p;
    }
