-- What the account says of one identifier and one peer (`Good`), kept by the steps that note: it lists what was handed back, and what it lists stands so.
use Rattle.std.proofs.Common.{ℕ, ◌≡◌, refl, sym, ap, subst, ◌∙◌, Bool, true, false, not, ◌&&◌, ◌||◌, List, [], ◌∷◌, ◌⊎◌, inl, inr, eqb, eqb-true, eq-eqb, if◌then◌else◌}
use borrow.Author.Tests.{not-true}
use Rattle.storage.specs.Lists.Base.{any, member}
use Rattle.time_cache.specs.TimeCache.{holds}
use Rattle.postcard.specs.Message.{Ihave, Message}
use Rattle.protocol.specs.Links.{is_neighbour}
use Rattle.protocol.specs.State.{State}
use Rattle.protocol.specs.Run.{Run, send, takes}
use Rattle.protocol.specs.Push.{notes, record_full, record_also, note_one, schedule_announce_dropped}
use Rattle.protocol.specs.NoNeighbourPassedOver.{lists, carries, left_out}
use Rattle.protocol.specs.Notings.{Coming, Account, plain, note_one', note_each', note_dropped', note_for_each'}
use Rattle.storage.proofs.ListsLaws.MapLaws.{cases, true≢, and_left, and_right, and_intro}
use Rattle.storage.proofs.ListsLaws.Lists.{or_cases, or_left, or_right, any_append, any_left, any-right, any_none, any-one}
use Rattle.protocol.proofs.RecordOnly.{only-note_one, only-note_dropped}
use Rattle.protocol.proofs.ReachSteps.{grows-note_one}
use Rattle.protocol.proofs.HandedBack.{back, Calm, back-send, calm-schedule_announce_dropped, silent-note_one, silent-note_dropped}
use Rattle.protocol.proofs.Notings.{run-note_dropped}

-- the step of a test, of which something holds either way
on-if : (P : Run → Type 0) (b : Bool) (x y : Run) → (b ≡ true → P x) → P y → P (if b then x else y)
on-if P true x y f g = f refl
on-if P false x y f g = g

module _ (p id : ℕ) where
  -- it came to this identifier for this peer
  abbrev pub came : Coming → Bool
  came c = eqb c.peer p && eqb c.id id

  -- while the record was full
  abbrev pub came_full : Coming → Bool
  came_full c = came c && record_full p c.state.dropped

  -- and left it out
  abbrev pub came_out : Coming → Bool
  came_out c = came c && left_out p id c.state

  -- it was recorded, or the record was full when it came
  abbrev pub Came : Account → Type 0
  Came a = (any (notes p id) a.run.state.dropped ≡ true) ⊎ (any came_full a.comings ≡ true)

  -- what the account says is so: what it left out is left out still, and what it came to was handed back
  pub record Sound (a : Account) : Type 0 where
    pub out : any came_out a.comings ≡ true → left_out p id a.run.state ≡ true
    pub handed : any came a.comings ≡ true → back p id a.run ≡ true

  -- and what was handed back it says
  pub record Good (a : Account) : Type 0 where
    pub sound : Sound a
    pub noted : back p id a.run ≡ true → holds id a.run.state.cache ≡ true → Came a

  -- the parts of `left_out`
  pub record Out (s : State) : Type 0 where
    pub held : holds id s.cache ≡ true
    pub absent : any (notes p id) s.dropped ≡ false
    pub full : record_full p s.dropped ≡ true

  pub is-out : (s : State) → left_out p id s ≡ true → Out s
  unfolding left_out
  is-out s l =
      let h : Bool = holds id s.cache in
      let n : Bool = not (any (notes p id) s.dropped) in
      let f : Bool = record_full p s.dropped in
      record { held = and_left h n (and_left (h && n) f l); absent = not-true _ (and_right h n (and_left (h && n) f l)); full = and_right (h && n) f l }

  pub out-is : (s : State) → Out s → left_out p id s ≡ true
  unfolding left_out
  out-is s o = rw (o.held, o.absent, o.full)

  -- `note_dropped` comes to one identifier

  left_out-note_one : (q : ℕ) (h : Ihave) (r : Run) → left_out p id r.state ≡ true → left_out p id (note_one q h r).state ≡ true
  left_out-note_one q h r l = out-is _ (record { held = rw (only-note_one q h r).cache o.held; absent = absent; full = (grows-note_one q h r).full p o.full })
    where
      o : Out r.state
      o = is-out r.state l

      another : record_full q r.state.dropped ≡ false → (eqb q p && eqb h.id id) ≡ false
      another f = cases (eqb q p) (λ e. true≢ (sym f ∙ rw (eqb-true q p e) o.full)) (λ e. rw e)

      absent : any (notes p id) (note_one q h r).state.dropped ≡ false
      absent = unfold note_one in (unfold record_also in (on-if (λ x. any (notes p id) x.state.dropped ≡ false)
          (not (record_full q r.state.dropped) && holds h.id r.state.cache && not (any (notes q h.id) r.state.dropped)) _ r
          (λ c. any_none (notes p id) r.state.dropped _ o.absent (any-one (notes p id) (record { peer = q; id = h.id; round = h.round }) ∙ another (not-true _ (and_left (not (record_full q r.state.dropped)) (holds h.id r.state.cache) (and_left _ _ c)))))
          o.absent))

  sound-note_one : (q : ℕ) (h : Ihave) (a : Account) → ((eqb q p && eqb h.id id) ≡ true → back p id a.run ≡ true) → Sound a → Sound (note_one' q h a)
  unfolding note_one'
  sound-note_one q h a b s = record {
    out = λ x. left_out-note_one q h a.run (out-or (or_cases (any came_out a.comings) _ (sym (any_append came_out a.comings (c ∷ [])) ∙ x)));
    handed = λ x. (silent-note_one p id q h a.run).same ∙ handed-or (or_cases (any came a.comings) _ (sym (any_append came a.comings (c ∷ [])) ∙ x));
  }
    where
      c : Coming
      c = record { peer = q; id = h.id; state = a.run.state }

      out-or : (any came_out a.comings ≡ true) ⊎ (any came_out (c ∷ []) ≡ true) → left_out p id a.run.state ≡ true
      out-or (inl x) = s.out x
      out-or (inr x) = and_right (came c) _ (sym (any-one came_out c) ∙ x)

      handed-or : (any came a.comings ≡ true) ⊎ (any came (c ∷ []) ≡ true) → back p id a.run ≡ true
      handed-or (inl x) = s.handed x
      handed-or (inr x) = b (sym (any-one came c) ∙ x)

  came-note_one : (q : ℕ) (h : Ihave) (a : Account) → Came a → Came (note_one' q h a)
  unfolding note_one'
  came-note_one q h a (inl x) = inl ((grows-note_one q h a.run).dropped (notes p id) x)
  came-note_one q h a (inr x) = inr (any_left came_full a.comings _ x)

  -- one that is not full records a cached identifier, or has it
  recorded-one : (h : Ihave) (r : Run) → record_full p r.state.dropped ≡ false → holds h.id r.state.cache ≡ true → any (notes p h.id) (note_one p h r).state.dropped ≡ true
  unfolding note_one record_also
  recorded-one h r f held =
      cases (any (notes p h.id) r.state.dropped) (λ q. rw (f, held, q) q)
      (λ q. rw (f, held, q) (any-right (notes p h.id) r.state.dropped _ (any-one (notes p h.id) (record { peer = p; id = h.id; round = h.round }) ∙ rw (eq-eqb p p refl, eq-eqb h.id h.id refl))))

  comes-one : (h : Ihave) (a : Account) → h.id ≡ id → holds id a.run.state.cache ≡ true → Came (note_one' p h a)
  unfolding note_one'
  comes-one h a e held =
      cases (record_full p a.run.state.dropped)
      (λ f. inr (any-right came_full a.comings _ (any-one came_full (record { peer = p; id = h.id; state = a.run.state }) ∙ rw (eq-eqb p p refl, eq-eqb h.id id e, f))))
      (λ f. inl (subst (λ (j : ℕ). any (notes p j) (note_one p h a.run).state.dropped ≡ true) e (recorded-one h a.run f (rw e held))))

  -- to each of a list

  sound-note_each : (q : ℕ) (hs : List Ihave) (a : Account) → ((eqb q p && lists id hs) ≡ true → back p id a.run ≡ true) → Sound a → Sound (note_each' q hs a)
  unfolding note_each' lists
  sound-note_each q [] a b s = s
  sound-note_each q (h ∷ hs) a b s = sound-note_each q hs (note_one' q h a) rest (sound-note_one q h a first s)
    where
      first : (eqb q p && eqb h.id id) ≡ true → back p id a.run ≡ true
      first x = b (and_intro (and_left (eqb q p) _ x) (unfold any in (rw (and_right (eqb q p) (eqb h.id id) x))))

      rest : (eqb q p && any (λ h. eqb h.id id) hs) ≡ true → back p id (note_one' q h a).run ≡ true
      rest x = unfold note_one' in ((silent-note_one p id q h a.run).same ∙ b (and_intro (and_left (eqb q p) _ x) (any-right (λ h. eqb h.id id) (h ∷ []) hs (and_right (eqb q p) _ x))))

  came-note_each : (q : ℕ) (hs : List Ihave) (a : Account) → Came a → Came (note_each' q hs a)
  unfolding note_each'
  came-note_each q [] a c = c
  came-note_each q (h ∷ hs) a c = came-note_each q hs (note_one' q h a) (came-note_one q h a c)

  comes-each : (hs : List Ihave) (a : Account) → lists id hs ≡ true → holds id a.run.state.cache ≡ true → Came (note_each' p hs a)
  unfolding note_each' lists any note_one'
  comes-each [] a l held = true≢ l
  comes-each (h ∷ hs) a l held =
      cases (eqb h.id id)
      (λ e. came-note_each p hs (note_one' p h a) (comes-one h a (eqb-true h.id id e) held))
      (λ e. comes-each hs (note_one' p h a) (rw e at l) (rw (only-note_one p h a.run).cache held))

  -- a step that leaves all of this alone

  sound-calm : (step : Run → Run) (a : Account) → Calm p id a.run (step a.run) → Sound a → Sound (plain step a)
  unfolding left_out
  sound-calm step a c s = record { out = λ x. rw (c.cache, c.dropped) (s.out x); handed = λ x. c.silent.same ∙ s.handed x }

  came-calm : (step : Run → Run) (a : Account) → Calm p id a.run (step a.run) → Came a → Came (plain step a)
  came-calm step a c (inl x) = inl (rw c.dropped x)
  came-calm step a c (inr x) = inr x

  pub good-calm : (step : Run → Run) (a : Account) → Calm p id a.run (step a.run) → Good a → Good (plain step a)
  good-calm step a c g = record {
    sound = sound-calm step a c g.sound;
    noted = λ b held. came-calm step a c (g.noted (sym c.silent.same ∙ b) (rw (← c.cache) held));
  }

  -- `note_dropped`, of a list for one peer, and of one identifier for each of the peers

  sound-note_dropped : (q : ℕ) (hs : List Ihave) (a : Account) → ((eqb q p && lists id hs) ≡ true → back p id a.run ≡ true) → Sound a → Sound (note_dropped' q hs a)
  unfolding note_dropped'
  sound-note_dropped q hs a b s =
      cases (is_neighbour q a.run.state.links)
      (λ n. rw n (sound-calm schedule_announce_dropped (note_each' q hs a) (calm-schedule_announce_dropped p id _) (sound-note_each q hs a b s)))
      (λ n. rw n s)

  came-note_dropped : (q : ℕ) (hs : List Ihave) (a : Account) → Came a → Came (note_dropped' q hs a)
  unfolding note_dropped'
  came-note_dropped q hs a c =
      cases (is_neighbour q a.run.state.links)
      (λ n. rw n (came-calm schedule_announce_dropped (note_each' q hs a) (calm-schedule_announce_dropped p id _) (came-note_each q hs a c)))
      (λ n. rw n c)

  comes-dropped : (hs : List Ihave) (a : Account) → is_neighbour p a.run.state.links ≡ true → lists id hs ≡ true → holds id a.run.state.cache ≡ true → Came (note_dropped' p hs a)
  unfolding note_dropped'
  comes-dropped hs a n l held = rw n (came-calm schedule_announce_dropped (note_each' p hs a) (calm-schedule_announce_dropped p id _) (comes-each hs a l held))

  back-note_dropped : (q : ℕ) (hs : List Ihave) (a : Account) → back p id (note_dropped' q hs a).run ≡ back p id a.run
  back-note_dropped q hs a = ap (back p id) (run-note_dropped q hs a) ∙ (silent-note_dropped p id q hs a.run).same

  pub sound-note_for_each : (qs : List ℕ) (h : Ihave) (a : Account) → (member p qs ≡ true → eqb h.id id ≡ true → back p id a.run ≡ true) → Sound a → Sound (note_for_each' qs h a)
  unfolding note_for_each' member lists any
  sound-note_for_each [] h a b s = s
  sound-note_for_each (q ∷ qs) h a b s =
      sound-note_for_each qs h (note_dropped' q (h ∷ []) a) (λ m e. back-note_dropped q (h ∷ []) a ∙ b (cases (eqb p q) (λ z. rw z) (λ z. rw z m)) e)
      (sound-note_dropped q (h ∷ []) a first s)
    where
      first : (eqb q p && (if eqb h.id id then true else false)) ≡ true → back p id a.run ≡ true
      first x = b (rw (eq-eqb p q (sym (eqb-true q p (and_left (eqb q p) _ x))))) (cases (eqb h.id id) (λ z. z) (λ z. true≢ (rw z at (and_right (eqb q p) _ x))))

  pub came-note_for_each : (qs : List ℕ) (h : Ihave) (a : Account) → Came a → Came (note_for_each' qs h a)
  unfolding note_for_each'
  came-note_for_each [] h a c = c
  came-note_for_each (q ∷ qs) h a c = came-note_for_each qs h (note_dropped' q (h ∷ []) a) (came-note_dropped q (h ∷ []) a c)

  pub comes-for_each : (qs : List ℕ) (h : Ihave) (a : Account) → member p qs ≡ true → eqb h.id id ≡ true → is_neighbour p a.run.state.links ≡ true → holds id a.run.state.cache ≡ true → Came (note_for_each' qs h a)
  unfolding note_for_each' member lists any
  comes-for_each [] h a m e n held = true≢ m
  comes-for_each (q ∷ qs) h a m e n held =
      cases (eqb p q)
      (λ z. rw (← eqb-true p q z) (came-note_for_each qs h (note_dropped' p (h ∷ []) a) (comes-dropped (h ∷ []) a n (rw e) held)))
      (λ z. comes-for_each qs h (note_dropped' q (h ∷ []) a) (rw z at m) e
      (ap (λ (r : Run). is_neighbour p r.state.links) (run-note_dropped q (h ∷ []) a) ∙ rw (only-note_dropped q (h ∷ []) a.run).links n)
      (ap (λ (r : Run). holds id r.state.cache) (run-note_dropped q (h ∷ []) a) ∙ rw (only-note_dropped q (h ∷ []) a.run).cache held))

  -- a message to one peer, noted if it is handed back

  pub good-sent : (q : ℕ) (m : Message) (hs : List Ihave) (a : Account) → carries id m ≡ lists id hs → is_neighbour q a.run.state.links ≡ true → Good a →
      Good (if takes q a.run then plain (send q m) a else note_dropped' q hs (plain (send q m) a))
  good-sent q m hs a e n g = cases (takes q a.run) (λ t. rw t (taken t)) (λ t. rw t (returned t))
    where
      was : Bool
      was = back p id a.run

      a₁ : Account
      a₁ = plain (send q m) a

      state-same : a₁.run.state ≡ a.run.state
      state-same = unfold send in refl

      taken : takes q a.run ≡ true → Good a₁
      taken t = good-calm (send q m) a (record { silent = record { same = back-send p id q m a.run ∙ rw t (none (eqb q p && carries id m) was) }; dropped = ap (λ (s : State). s.dropped) state-same; cache = ap (λ (s : State). s.cache) state-same }) g
        where
          none : (x y : Bool) → (y || (x && false)) ≡ y
          none true true = refl
          none true false = refl
          none false true = refl
          none false false = refl

      returned : takes q a.run ≡ false → Good (note_dropped' q hs a₁)
      returned t = record {
        sound = sound-note_dropped q hs a₁ (λ x. now ∙ or_right was _ (rw e x)) (record { out = λ x. rw state-same (g.sound.out x); handed = λ x. now ∙ or_left was _ (g.sound.handed x) });
        noted = λ b held. on (or_cases was _ (sym now ∙ sym (back-note_dropped q hs a₁) ∙ b)) (sym cached ∙ held);
      }
        where
          now : back p id a₁.run ≡ (was || (eqb q p && carries id m))
          now = back-send p id q m a.run ∙ rw t (same (eqb q p && carries id m))
            where
              same : (x : Bool) → (was || (x && true)) ≡ (was || x)
              same true = refl
              same false = refl

          cached : holds id (note_dropped' q hs a₁).run.state.cache ≡ holds id a.run.state.cache
          cached = ap (λ (r : Run). holds id r.state.cache) (run-note_dropped q hs a₁) ∙ rw (only-note_dropped q hs a₁.run).cache (rw state-same)

          on : (was ≡ true) ⊎ ((eqb q p && carries id m) ≡ true) → holds id a.run.state.cache ≡ true → Came (note_dropped' q hs a₁)
          on (inl b) held = came-note_dropped q hs a₁ (unfold send in (g.noted b held))
          on (inr b) held = rw (eqb-true q p (and_left (eqb q p) _ b)) (comes-dropped hs (plain (send p m) a) (unfold send in (rw (eqb-true q p (and_left (eqb q p) _ b)) at n)) (sym e ∙ and_right (eqb q p) _ b) (unfold send in held))
