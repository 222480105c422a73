-- An IHave from the neighbour of a link: what its entries add and schedule, counted and written one after the other.
-- Assumes nothing.
use Rattle.announcements.proofs.Words.{◌≡◌, ℕ, ◌+◌, ◌≤◌, length, refl, sym, ap, ◌∙◌, arith, Bool, true, false, not, List, [], ◌∷◌, ◌++◌, map, if◌then◌else◌, has, cases, append-nil, add-zero, length-append, Ihave, Scheduled, SendGraft, action_bytes, Run, begin, zero_counts, State, Sizes, sized_missing, sized_timers, filter-append, concat-append, concat-one, settled, settled-as, Intake, after_append, after_nil, AtRest}
use mir.Val.{bool_byte}
use Rattle.storage.specs.Lists.Base.{filter, member, concat_map}
use Rattle.decide.specs.Sizes.{sizes_of}
use Rattle.decide.specs.NewIds.{new_ids, known_missing, known_timer}
use Rattle.decide.proofs.SizesAfter.{ihave_sizes}
use Rattle.decide.specs.StateAfter.{ihave_state}
use Rattle.decide.specs.ActionsAfter.{ihave_actions}
use Rattle.decide.proofs.IHave.{ihave-sizes}
use Rattle.decide.proofs.StateAfterLaws.{ihave-state}
use Rattle.wire.specs.Encode.Intake.{after}
use Rattle.block.specs.View.{state_of}
use Rattle.block.specs.declared.head.Head.{Head}
use Rattle.announcements.specs.Ihaves.Entries.{new_entries}
use Rattle.announcements.specs.OnIhave.{received, new_missing, new_timers}
use Rattle.announcements.proofs.IhavesLaws.Entries.{ids-new}

-- an entry more that passes a test, or not
pub filter-next : (f : Ihave → Bool) (xs : List Ihave) (x : Ihave) → filter f (xs ++ (x ∷ [])) ≡ filter f xs ++ (if f x then x ∷ [] else [])
unfolding filter
filter-next f xs x = filter-append f xs (x ∷ [])

-- the numbers of entries, after entries that count
abbrev pub counted : State → List Ihave → Sizes
counted s hs = sized_missing (length s.missing + length (new_missing s hs)) (sized_timers (length s.timers.graft + length (new_timers s hs)) (sizes_of s))

length-ids : (hs : List Ihave) → length (map (λ h. h.id) hs) ≡ length hs
length-ids [] = refl
length-ids (h ∷ hs) = omega (arith, length-ids hs)

module _ (t : State) (hs : List Ihave) (own : hs ≡ new_entries (received t) [] hs) where
  missing-ids : new_ids (known_missing t) [] hs ≡ map (λ h. h.id) (new_missing t hs)
  unfolding known_missing
  missing-ids = ids-new (received t) (λ i. has i t.missing) hs ∙ ap (λ (l : List Ihave). map (λ h. h.id) (new_missing t l)) (sym own)

  timer-ids : new_ids (known_timer t) [] hs ≡ map (λ h. h.id) (new_timers t hs)
  unfolding known_timer
  timer-ids = ids-new (received t) (λ i. member i t.timers.graft) hs ∙ ap (λ (l : List Ihave). map (λ h. h.id) (new_timers t l)) (sym own)

  as-counted : counted t hs ≡ ihave_sizes hs t
  unfolding ihave_sizes
  as-counted =
      let m : length (new_missing t hs) ≡ length (new_ids (known_missing t) [] hs) = sym (ap length missing-ids ∙ length-ids (new_missing t hs)) in
      let g : length (new_timers t hs) ≡ length (new_ids (known_timer t) [] hs) = sym (ap length timer-ids ∙ length-ids (new_timers t hs)) in
      λ k. sized_missing (length t.missing + m k) (sized_timers (length t.timers.graft + g k) (sizes_of t))

  pub counted-end : AtRest t → (p : ℕ) → counted t hs ≡ sizes_of (ihave_state p hs t)
  counted-end r p =
      let run : Run = begin t zero_counts [] in
      as-counted ∙ sym (ihave-sizes p hs run r.consistent.core.missing_up r.consistent.core.timers_up) ∙ ap sizes_of (ihave-state p hs run)

pub counted-start : (t : State) → sizes_of t ≡ counted t []
unfolding filter sizes_of
counted-start t = λ k. sized_missing (sym (add-zero (length t.missing)) k) (sized_timers (sym (add-zero (length t.timers.graft)) k) (sizes_of t))

byte-length : (b : Bool) (x : Ihave) → bool_byte b ≡ length (if b then x ∷ [] else [])
byte-length true x = refl
byte-length false x = refl

module _ (t : State) (xs : List Ihave) (x : Ihave) where
  -- one more where the test says yes
  more : (f : Ihave → Bool) (n m : ℕ) (b : Bool) → n ≡ m + length (filter f xs) → b ≡ f x → n + bool_byte b ≡ m + length (filter f (xs ++ (x ∷ [])))
  more f n m b e q =
      omega (arith, e, ap length (filter-next f xs x), length-append (filter f xs) (if f x then x ∷ [] else []), ap bool_byte q, byte-length (f x) x)

  pub counted-next : (z : Sizes) (a b : Bool) → z ≡ counted t xs → a ≡ not (has x.id t.missing) → b ≡ not (member x.id t.timers.graft) →
      sized_missing (z.missing + bool_byte a) (sized_timers (z.timers + bool_byte b) z) ≡ counted t (xs ++ (x ∷ []))
  counted-next z a b e m g =
      let n = more (λ h. not (has h.id t.missing)) z.missing (length t.missing) a (ap (λ (y : Sizes). y.missing) e) m in
      let o = more (λ h. not (member h.id t.timers.graft)) z.timers (length t.timers.graft) b (ap (λ (y : Sizes). y.timers) e) g in
      λ k. sized_missing (n k) (sized_timers (o k) (e k))

  few-filter : (f : Ihave → Bool) (ys : List Ihave) → length (filter f ys) ≤ length ys
  unfolding filter
  few-filter f [] = omega arith
  few-filter f (y ∷ ys) = cases (f y) (λ e. rw e (omega (arith, few-filter f ys))) (λ e. rw e (omega (arith, few-filter f ys)))

-- no more than there are entries
pub counted-few : (t : State) (xs : List Ihave) (z : Sizes) → z ≡ counted t xs → (z.missing ≤ length t.missing + length xs) × (z.timers ≤ length t.timers.graft + length xs)
counted-few t xs z e = (
  omega (arith, ap (λ (y : Sizes). y.missing) e, few-filter t xs (record { id = 0; round = 0 }) (λ h. not (has h.id t.missing)) xs),
  omega (arith, ap (λ (y : Sizes). y.timers) e, few-filter t xs (record { id = 0; round = 0 }) (λ h. not (member h.id t.timers.graft)) xs),
)

pub byte-few : (b : Bool) → bool_byte b ≤ 1
byte-few true = omega arith
byte-few false = omega arith

-- the timers that entries schedule
abbrev timer_bytes : ℕ → Ihave → List ℕ
timer_bytes d h = action_bytes (Scheduled d (SendGraft h.id))

abbrev pub scheduled : State → List Ihave → List ℕ
scheduled t hs = concat_map (timer_bytes t.settings.graft_timeout_1) (new_timers t hs)

scheduled-ids : (d : ℕ) (hs : List Ihave) → concat_map action_bytes (map (λ i. Scheduled d (SendGraft i)) (map (λ h. h.id) hs)) ≡ concat_map (timer_bytes d) hs
unfolding concat_map
scheduled-ids d [] = refl
scheduled-ids d (h ∷ hs) = ap (λ (l : List ℕ). timer_bytes d h ++ l) (scheduled-ids d hs)

module _ (t : State) (hs : List Ihave) (own : hs ≡ new_entries (received t) [] hs) where
  pub scheduled-end : scheduled t hs ≡ concat_map action_bytes (ihave_actions hs t)
  unfolding ihave_actions
  scheduled-end =
      sym (scheduled-ids t.settings.graft_timeout_1 (new_timers t hs))
      ∙ ap (λ (l : List ℕ). concat_map action_bytes (map (λ i. Scheduled t.settings.graft_timeout_1 (SendGraft i)) l)) (sym (timer-ids t hs own))

pub scheduled-start : (t : State) (h : Intake) → h ≡ after (scheduled t []) h
unfolding filter concat_map
scheduled-start t h = sym (after_nil h)

module _ (t : State) (xs : List Ihave) (x : Ihave) (now h : Intake) (so : now ≡ after (scheduled t xs) h) where
  next : scheduled t (xs ++ (x ∷ [])) ≡ scheduled t xs ++ concat_map (timer_bytes t.settings.graft_timeout_1) (if not (member x.id t.timers.graft) then x ∷ [] else [])
  next =
      ap (concat_map (timer_bytes t.settings.graft_timeout_1)) (filter-next (λ y. not (member y.id t.timers.graft)) xs x)
      ∙ concat-append (timer_bytes t.settings.graft_timeout_1) (new_timers t xs) (if not (member x.id t.timers.graft) then x ∷ [] else [])

  pub scheduled-skip : false ≡ not (member x.id t.timers.graft) → now ≡ after (scheduled t (xs ++ (x ∷ []))) h
  unfolding concat_map
  scheduled-skip e =
      so ∙ ap (λ (l : List ℕ). after l h)
      (sym (next ∙ ap (λ (b : Bool). scheduled t xs ++ concat_map (timer_bytes t.settings.graft_timeout_1) (if b then x ∷ [] else [])) (sym e) ∙ append-nil (scheduled t xs)))

  pub scheduled-next : true ≡ not (member x.id t.timers.graft) → after (timer_bytes t.settings.graft_timeout_1 x) now ≡ after (scheduled t (xs ++ (x ∷ []))) h
  scheduled-next e =
      ap (after (timer_bytes t.settings.graft_timeout_1 x)) so
      ∙ after_append (scheduled t xs) (timer_bytes t.settings.graft_timeout_1 x) h
      ∙ ap (λ (l : List ℕ). after l h)
      (sym (next ∙ ap (λ (b : Bool). scheduled t xs ++ concat_map (timer_bytes t.settings.graft_timeout_1) (if b then x ∷ [] else [])) (sym e)
      ∙ ap (λ (l : List ℕ). scheduled t xs ++ l) (concat-one (timer_bytes t.settings.graft_timeout_1) x)))

-- a first event leaves the missing messages, the timers and the settings as they are
module _ (now : ℕ) (s : State) where
  pub then-missing : length (settled now s).missing ≡ length s.missing
  then-missing = settled-as now s (λ (u : State). length u.missing) refl

  pub then-timers : length (settled now s).timers.graft ≡ length s.timers.graft
  then-timers = settled-as now s (λ (u : State). length u.timers.graft) refl

  pub same-missing : (i : ℕ) → has i (settled now s).missing ≡ has i s.missing
  same-missing i = settled-as now s (λ (u : State). has i u.missing) refl

  pub same-marks : (i : ℕ) → member i (settled now s).timers.graft ≡ member i s.timers.graft
  same-marks i = settled-as now s (λ (u : State). member i u.timers.graft) refl

pub then-delay : (now : ℕ) (h : Head) (xs : List ℕ) → (settled now (state_of h xs)).settings.graft_timeout_1 ≡ h.settings.config.graft_timeout_1.0
unfolding state_of
then-delay now h xs = settled-as now (state_of h xs) (λ (u : State). u.settings.graft_timeout_1) refl

-- the limits that a header gives
pub missing-limit : (h : Head) (xs : List ℕ) → (state_of h xs).limits.S ≡ h.limits.missing
unfolding state_of
missing-limit h xs = refl
