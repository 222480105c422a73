-- The guarantee: "for every list of event calls (…; refused ones too) from a fresh panel, after it this holds".
use Rattle.std.proofs.Common.{ℕ, ◌≤◌, ◌≡◌, refl, sym, subst, ◌∙◌, Bool, true, false, List, [], ◌∷◌, ◌++◌, append_assoc, append-nil, inl, inr, arith, leb, leb-true}
use Rattle.storage.specs.Lists.Base.{any, count, ascending}
use Rattle.storage.specs.Lists.Map.{lookup, keys}
use Rattle.time_cache.specs.TimeCache.{get, value_of}
use Rattle.protocol.specs.Links.{is_eager, is_lazy, eager_peers, lazy_peers}
use Rattle.protocol.specs.State.{State, Counts, Settings, Limits, Note, created, not_created, create, fresh, zero_counts, size_in_range, durations_in_range, limits_in_range, block_need}
use Rattle.postcard.specs.Message.{Event}
use Rattle.protocol.specs.Run.{Run, Room}
use Rattle.protocol.specs.Ticks.{per_message}
use Rattle.protocol.specs.Gossips.{announcers, grafted_for, hops_of, peers_of}
use Rattle.protocol.specs.Answer.{Call, Answer, refuse, accept, ask_whole}
use Rattle.protocol.specs.Calls.{state_after, counts_after, prepend, run_calls}
use Rattle.protocol.specs.NoNeighbourPassedOver.{by_event, up_after_call, up_after, told_up, tells_down, took, is_of, fired, HoldsAfter, NoNeighbourPassedOver}
use Rattle.protocol.specs.Consistent.{Flagged}
use Rattle.storage.proofs.ListsLaws.MapLaws.{cases, true≢, and_left}
use Rattle.protocol.proofs.StepNeighbours.{member-marked, one_of, neither-of}
use Rattle.protocol.proofs.Accepted.{ask-cases}
use Rattle.protocol.proofs.Invariant.{Stands, Settled, queued_now, recorded_now, still_there, Does, Inv, inv-on}
use Rattle.protocol.proofs.Step.{ran_on, step}

-- the lists that stand
stands-flag : (ns : List Note) (flag : Bool) → Flagged ns flag → (ns ≡ [] → ⊥) → flag ≡ true
stands-flag [] flag h ne = absurd (ne refl)
stands-flag (n ∷ ns) flag h ne = h

settled-stands : {p id : ℕ} {a : Answer} {s : State} → Stands p id s → Settled p id a s
settled-stands (inl h) = queued_now h
settled-stands (inr h) = recorded_now h

-- what an accepted creation leaves
pub record Fresh (c : Settings) (l : Limits) (s : State) : Type 0 where
  pub state : s ≡ fresh c l
  pub size : 510 ≤ c.max_message_size

pub create-fresh : (c : Settings) (l : Limits) (b : ℕ) (s : State) (n : Counts) → create c l b ≡ created s n → Fresh c l s
unfolding create size_in_range
create-fresh c l b s n h =
    cases (size_in_range c) (λ p1. cases (durations_in_range c) (λ p2. cases (limits_in_range l) (λ p3. cases (leb (block_need l) b)
    (λ p4. record { state = made (rw (p1, p2, p3, p4) at h); size = leb-true 510 c.max_message_size (and_left (leb 510 c.max_message_size) (leb c.max_message_size 4094) p1) })
    (λ p4. not_made 4 (rw (p1, p2, p3, p4) at h)))
    (λ p3. not_made 3 (rw (p1, p2, p3) at h)))
    (λ p2. not_made 2 (rw (p1, p2) at h)))
    (λ p1. not_made 1 (rw p1 at h))
  where
    made : created (fresh c l) zero_counts ≡ created s n → s ≡ fresh c l
    made e = cc

    not_made : (k : ℕ) → not_created k ≡ created s n → Fresh c l s
    not_made k e = let z : false ≡ true = cc in true≢ z

module _ (hash : List ℕ → ℕ) where
  refused-does : (c : Settings) (s : State) (n : ℕ) → ascending (keys s.links) ≡ true → ascending (keys s.missing) ≡ true → Does hash c s (refuse n) s
  unfolding by_event up_after_call tells_down took is_of fired
  refused-does c s n o m = record {
    neighbours = λ p. refl;
    ordered = o;
    sorted = m;
    settings = refl;
    within = λ h. h;
    queue_flag = λ h. h;
    record_flag = λ h. h;
    dispatch_timer = λ h. inl (h, refl);
    announce_timer = λ h. inl (h, refl);
    announcing = λ p id h. (refl, inl h);
    grafting = λ p id h. (refl, inl h);
    messages = λ id h. still_there refl (λ v k. k) (λ p u d x. settled-stands x);
  }

  module _ (c : Settings) where
    pub fresh-inv : (l : Limits) → Inv hash c [] (fresh c l)
    unfolding fresh told_up up_after ascending lookup any count announcers grafted_for get value_of hops_of peers_of
    fresh-inv l = record {
      neighbours = λ p. refl;
      ordered = refl;
      sorted = refl;
      settings = refl;
      within = record { each = λ p. omega arith; in_all = omega arith };
      queue_flag = refl;
      record_flag = refl;
      dispatch_timer = λ h. true≢ h;
      announce_timer = λ h. true≢ h;
      announcing = λ p id h. true≢ h;
      grafting = λ p id h. true≢ h;
      messages = λ id h. true≢ h;
    }

    pub holds_after : (past : List Answer) (s : State) → Inv hash c past s → HoldsAfter hash c past s
    unfolding eager_peers lazy_peers
    holds_after past s v = record {
      neighbours = λ p h. one_of p s (lookup p s.links) (v.neighbours p ∙ h) (member-marked is_eager p s.links v.ordered) (member-marked is_lazy p s.links v.ordered);
      strangers = λ p h. neither-of p s (lookup p s.links) (v.neighbours p ∙ h) (member-marked is_eager p s.links v.ordered) (member-marked is_lazy p s.links v.ordered);
      record_each = v.within.each;
      record_all = v.within.in_all;
      messages = v.messages;
      queue_timer = λ ne. v.dispatch_timer (stands-flag s.queue s.timers.dispatch v.queue_flag ne);
      record_timer = λ ne. v.announce_timer (stands-flag s.dropped s.timers.announce v.record_flag ne);
    }

  module _ (c : Settings) (one : 1 ≤ per_message c.max_message_size) where
    -- one call more, refused
    pub refused-inv : (past : List Answer) (s : State) (m : ℕ) → Inv hash c past s → Inv hash c (past ++ (refuse m ∷ [])) s
    refused-inv past s m v = inv-on hash c v (refused-does c s m v.ordered v.sorted)

    -- one event more, run at any time, with any link room
    pub event-inv : (past : List Answer) (s : State) (n : Counts) (rooms : List Room) (now : ℕ) (e : Event) → Inv hash c past s →
        Inv hash c (past ++ (accept e (ran_on hash s n rooms now e) ∷ [])) (ran_on hash s n rooms now e).state
    event-inv past s n rooms now e v =
        inv-on hash c v (subst (λ (z : Settings). Does hash z s (accept e r) r.state) v.settings
        (step hash s n rooms now e v.ordered v.sorted (rw v.settings one)))
      where
        r : Run
        r = ran_on hash s n rooms now e

    call-inv : (past : List Answer) (s : State) (n : Counts) (k : Call) → Inv hash c past s →
        Inv hash c (past ++ (ask_whole hash s n k ∷ [])) (state_after s (ask_whole hash s n k))
    unfolding state_after
    call-inv past s n k v =
        ask-cases hash s n k (λ x. Inv hash c (past ++ (x ∷ [])) (state_after s x))
        (λ m. refused-inv past s m v) (λ e a. event-inv past s n k.rooms k.now e v)

    run-inv : (ks : List Call) (past : List Answer) (s : State) (n : Counts) → Inv hash c past s →
        Inv hash c (past ++ (run_calls hash s n ks).answers) (run_calls hash s n ks).state
    unfolding run_calls prepend
    run-inv [] past s n v = rw append-nil v
    run-inv (k ∷ ks) past s n v =
        let a = ask_whole hash s n k in
        let s' = state_after s (ask_whole hash s n k) in
        let n' = counts_after n (ask_whole hash s n k) in
        subst (λ (z : List Answer). Inv hash c z (run_calls hash s' n' ks).state) (append_assoc past (a ∷ []) (run_calls hash s' n' ks).answers)
        (run-inv ks (past ++ (a ∷ [])) s' n' (call-inv past s n k v))

pub no_neighbour_passed_over : (hash : List ℕ → ℕ) → NoNeighbourPassedOver hash
unfolding per_message
no_neighbour_passed_over hash = record {
  always = λ c l b s n h ks.
      let f : Fresh c l s = create-fresh c l b s n h in
      let one : 1 ≤ per_message c.max_message_size = omega (arith, f.size) in
      holds_after hash c (run_calls hash s n ks).answers (run_calls hash s n ks).state
      (run-inv hash c one ks [] s n (subst (λ (z : State). Inv hash c [] z) (sym f.state) (fresh-inv hash c l)));
}
