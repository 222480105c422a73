-- A call is answered 23 exactly where its bytes are those of a broadcast that is turned down: no other question has this number.
-- Assumes nothing.
use Rattle.std.proofs.Common.{ℕ, ◌≤◌, ◌≡◌, refl, sym, ap, ◌∙◌, Bool, true, false, List, leb, eqb, length, le-leb, eqb-true}
use Rattle.storage.proofs.ListsLaws.MapLaws.{cases, true≢}
use Rattle.postcard.specs.Message.{Event}
use Rattle.postcard.specs.Decode.{Decoded, decoded, faulty, decode_event}
use Rattle.postcard.proofs.Retired.{retired-is-exact}
use Rattle.protocol.specs.State.{State, Counts}
use Rattle.protocol.specs.Run.{Run, begin}
use Rattle.protocol.specs.Handle.{first_event, handle}
use Rattle.protocol.specs.Whole.{fits, whole}
use Rattle.protocol.specs.Answer.{Call, Answer, refuse, accept, message_fits, counts_stay, too_far, output_of, last_two, ask_of, ask_read, ask, ask_whole}
use Rattle.protocol.specs.RetiredBroadcasts.{RetiredBroadcasts}
use Rattle.protocol.specs.declared.TheConstants.{LATEST}

abbrev is-23 : Answer → Bool
is-23 (refuse n) = eqb n 23
is-23 (accept e r) = false

module _ (hash : List ℕ → ℕ) (s : State) (c : Counts) (k : Call) where
  -- no question behind it is answered so
  last-two-not : (e : Event) (r : Run) → is-23 (last_two k.output e r) ≡ false
  unfolding last_two
  last-two-not e r = cases (fits r.state) (λ t. cases (leb (length (output_of r)) k.output) (λ u. rw (t, u) refl) (λ u. rw (t, u) refl)) (λ t. rw t refl)

  behind-not : (e : Event) → is-23 (ask_of hash s c k e) ≡ false
  unfolding ask_of
  behind-not e =
      cases (message_fits s.settings.max_message_size k.event e)
      (λ a. cases (counts_stay e c)
      (λ b. cases (too_far hash e (first_event k.now (begin s c k.rooms)).state) (λ d. rw (a, b, d) refl) (λ d. rw (a, b, d) (last-two-not e (handle hash k.now e (begin s c k.rooms)))))
      (λ b. rw (a, b) refl))
      (λ a. rw a refl)

  read-faulty : (d : Decoded Event) → is-23 (ask_read hash s c k d) ≡ true → d ≡ faulty 23
  unfolding ask_read
  read-faulty (faulty n) h = ap faulty (eqb-true n 23 h)
  read-faulty (decoded e) h = true≢ (sym (behind-not e) ∙ h)

  asked-faulty : is-23 (ask_whole hash s c k) ≡ true → decode_event k.event ≡ faulty 23
  unfolding ask_whole ask
  asked-faulty h =
      cases (whole s)
      (λ w. cases (leb k.now LATEST.0) (λ t. read-faulty (decode_event k.event) (rw (w, t) at h)) (λ t. let z : false ≡ true = rw (w, t) at h in true≢ z))
      (λ w. let z : false ≡ true = rw w at h in true≢ z)

  answered-23 : whole s ≡ true → k.now ≤ LATEST.0 → decode_event k.event ≡ faulty 23 → ask_whole hash s c k ≡ refuse 23
  unfolding ask_whole ask ask_read
  answered-23 w t e = rw (w, le-leb k.now LATEST.0 t, e) refl

pub retired-broadcasts : (hash : List ℕ → ℕ) → RetiredBroadcasts hash
retired-broadcasts hash = record {
  answered = λ s c k w t r. answered-23 hash s c k w t (retired-is-exact.answered k.event r);
  no_other = λ s c k y h. retired-is-exact.no_other k.event y (asked-faulty hash s c k (ap is-23 h));
}
