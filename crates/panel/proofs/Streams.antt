-- A run of the program so far: what was taken from the input, and what was added to the output.
use Rattle.std.proofs.Common.{ℕ, zero, suc, ◌+◌, ◌-◌, ◌*◌, ◌^◌, ◌≤◌, arith, length-append, length-drop, ◌≡◌, refl, sym, ap, subst, ◌∙◌, IfSome, OnErr, Result, Ok, Err, Option, None, Some, List, [], ◌∷◌, ◌++◌, append-nil, append_assoc, length, drop}
use Rattle.std.specs.Io.KnownBytes.{Consumes, Appends, Keeps}
use Rattle.std.proofs.KnownBytes.{Consumes-nil, Consumes-trans, Consumes-kept, Appends-nil, Appends-trans}
use Rattle.blake3.specs.Blake3.{identifier}
use Rattle.protocol.specs.State.{State, Counts, created, not_created, create, fresh, zero_counts, size_in_range, durations_in_range, up_to, limits_in_range, block_need}
use Rattle.protocol.specs.Calls.{run_calls, state_after, counts_after}
use Rattle.protocol.specs.Panel.{panel_settings, panel_limits, panelrun}
use Rattle.block.specs.View.{settings_of, limits_of}
use Rattle.block.specs.declared.head.Settings.{Settings}
use Rattle.block.specs.declared.head.Limits.{Limits}
use Rattle.plumtree.specs.CallList.{CallList, fresh_list}
use Rattle.panel.specs.Records.Reading.{record_call, Whole, Never, Bad}
use Rattle.panel.specs.Records.Running.{writes, closing, end_bytes}
use Rattle.panel.proofs.RecordsLaws.Pieces.{record-stays}
use Rattle.panel.proofs.RecordsLaws.RunningLaws.{panelrun-writes, writes-record, writes-never, writes-bad}
use Rattle.panel.specs.Reading.{ReadOn}
use Rattle.panel.specs.Writing.{AppendsFront}
use Rattle.panel.specs.Causes.{Long}
use Rattle.panel.specs.Answering.{Started, ran, told, Answers, WritesFront}

-- what is written from the state that these calls lead to
abbrev pub from_here : CallList → List ℕ → List ℕ
from_here h input = writes identifier (ran h).state (ran h).counts input

pub record Sofar (past : CallList) (unread : List ℕ) (left left' held held' : Option (List ℕ)) : Type 0 where
  pub taken : List ℕ
  wrote : List ℕ
  pub given : Consumes left left' taken
  added : Appends held held' wrote
  same : (rest : List ℕ) → panelrun identifier (taken ++ rest) ≡ wrote ++ from_here past (unread ++ rest)

started-writes : (h : CallList) → Started h → (input : List ℕ) → from_here h input ≡ writes identifier (fresh panel_settings panel_limits) zero_counts input
unfolding run_calls
started-writes h s input = rw (s.calls, s.settings, s.limits) refl

pub sofar-start : {past : CallList} (left held : Option (List ℕ)) → Started past → Sofar past [] left left held held
sofar-start {past} left held s = record {
  taken = [];
  wrote = [];
  given = Consumes-nil left;
  added = Appends-nil held;
  same = λ rest. panelrun-writes identifier rest ∙ sym (started-writes past s rest);
}

-- a new panel of the program's settings and limits
pub started-new : {h : CallList} {c : Settings} {l : Limits} → h ≡ fresh_list c l → settings_of c ≡ panel_settings → limits_of l ≡ panel_limits → Started h
started-new e s n = record { settings = ap (λ (h : CallList). settings_of h.settings) e ∙ s; limits = ap (λ (h : CallList). limits_of h.limits) e ∙ n; calls = ap (λ (h : CallList). h.calls) e }

-- a creation in a block of 58,880 bytes is accepted
panel-made : create panel_settings panel_limits 58880 ≡ created (fresh panel_settings panel_limits) zero_counts
unfolding create panel_settings panel_limits size_in_range durations_in_range limits_in_range up_to block_need
panel-made = refl

pub never_refused : (c : Settings) (l : Limits) (long n : ℕ) → settings_of c ≡ panel_settings → limits_of l ≡ panel_limits → long ≡ 58880 → create (settings_of c) (limits_of l) long ≡ not_created n → ⊥
never_refused c l long n p q e r =
    let same : create (settings_of c) (limits_of l) long ≡ create panel_settings panel_limits 58880 = rw (p, q, e) refl in
    let z : created (fresh panel_settings panel_limits) zero_counts ≡ not_created n = sym panel-made ∙ sym same ∙ r in
    cc

-- a record is read, and then the rest
record-then : {past past' : CallList} {unread event bytes : List ℕ} {now used : ℕ} → Whole unread now event used
    → Answers (record_call now event) past past' bytes → (rest : List ℕ) → from_here past (unread ++ rest) ≡ bytes ++ from_here past' (drop used unread ++ rest)
record-then {past} {past'} {unread} {event} {bytes} {now} {used} w a rest =
    let k = record_call now event in
    let left_over = drop used unread ++ rest in
    writes-record identifier (ran past).state (ran past).counts (unread ++ rest) k left_over
    (record-stays unread rest w.reads)
    ∙ ap (λ (x : List ℕ). x ++ writes identifier (state_after (ran past).state (told past k)) (counts_after (ran past).counts (told past k)) left_over) (sym a.writes)
    ∙ ap (λ (x : State). bytes ++ writes identifier x (counts_after (ran past).counts (told past k)) left_over) (sym a.state)
    ∙ ap (λ (x : Counts). bytes ++ writes identifier (ran past').state x left_over) (sym a.counts)

-- bytes that are all written
pub whole-front : {held held' : Option (List ℕ)} {bytes : List ℕ} → Appends held held' bytes → AppendsFront held held' bytes
whole-front {held} {held'} {bytes} a = record { front = bytes; left_out = []; whole = sym (append-nil bytes); added = a }

module _ {past : CallList} {unread : List ℕ} {left left' held held' : Option (List ℕ)} (f : Sofar past unread left left' held held') where
  -- a record was answered
  pub sofar-answered : {past' : CallList} {event bytes : List ℕ} {now used : ℕ} {held'' : Option (List ℕ)} → Whole unread now event used
      → Answers (record_call now event) past past' bytes → Appends held' held'' bytes → Sofar past' (drop used unread) left left' held held''
  sofar-answered {past'} {event} {bytes} {now} {used} {held''} w a b = record {
    taken = f.taken;
    wrote = f.wrote ++ bytes;
    given = f.given;
    added = Appends-trans held held' held'' _ _ f.added b;
    same = λ rest.
        f.same rest ∙ ap (λ (x : List ℕ). f.wrote ++ x) (record-then w a rest)
        ∙ sym (append_assoc f.wrote bytes (from_here past' (drop used unread ++ rest)));
  }

  -- more was read
  pub sofar-read : {n : ℕ} {unread' : List ℕ} {left'' : Option (List ℕ)} → ReadOn n unread unread' left' left'' → Sofar past unread' left left'' held held'
  sofar-read {n} {unread'} {left''} r = record {
    taken = f.taken ++ r.came;
    wrote = f.wrote;
    given = Consumes-trans left left' left'' _ _ f.given r.taken;
    added = f.added;
    same = λ rest.
        ap (panelrun identifier) (append_assoc f.taken r.came rest) ∙ f.same (r.came ++ rest)
        ∙ ap (λ (x : List ℕ). f.wrote ++ from_here past x) (sym (append_assoc unread r.came rest) ∙ ap (λ (x : List ℕ). x ++ rest) (sym r.joined));
  }

  -- a read that failed took nothing
  pub sofar-unread : {left'' : Option (List ℕ)} → Keeps left' left'' → Sofar past unread left left'' held held'
  sofar-unread {left''} k = record { taken = f.taken; wrote = f.wrote; given = Consumes-kept left left' left'' _ f.given k; added = f.added; same = f.same }

  same-here : panelrun identifier f.taken ≡ f.wrote ++ from_here past unread
  same-here = ap (panelrun identifier) (sym (append-nil f.taken)) ∙ f.same [] ∙ ap (λ (x : List ℕ). f.wrote ++ from_here past x) (append-nil unread)

  -- a front of what comes next was written
  pub sofar-front : {held'' : Option (List ℕ)} (bytes behind : List ℕ) → from_here past unread ≡ bytes ++ behind → AppendsFront held' held'' bytes → WritesFront left left' held held''
  sofar-front {held''} bytes behind e a = record {
    taken = f.taken;
    given = f.given;
    wrote = record {
      front = f.wrote ++ a.front;
      left_out = a.left_out ++ behind;
      whole =
          same-here
          ∙ ap (λ (x : List ℕ). f.wrote ++ x) (e ∙ ap (λ (x : List ℕ). x ++ behind) a.whole ∙ append_assoc a.front a.left_out behind)
          ∙ sym (append_assoc f.wrote a.front (a.left_out ++ behind));
      added = Appends-trans held held' held'' _ _ f.added a.added;
    };
  }

  -- nothing more was written
  pub sofar-ends : WritesFront left left' held held'
  sofar-ends = sofar-front [] (from_here past unread) refl (whole-front (Appends-nil held'))

  -- a record's answer was written in part
  pub sofar-cut : {past' : CallList} {event bytes : List ℕ} {now used : ℕ} {held'' : Option (List ℕ)} → Whole unread now event used
      → Answers (record_call now event) past past' bytes → AppendsFront held' held'' bytes → WritesFront left left' held held''
  sofar-cut {past'} {event} {bytes} {now} {used} w a b =
      let next : from_here past unread ≡ bytes ++ from_here past' (drop used unread) =
      ap (from_here past) (sym (append-nil unread)) ∙ record-then w a [] ∙ ap (λ (x : List ℕ). bytes ++ from_here past' x) (append-nil (drop used unread)) in
      sofar-front bytes _ next b

  -- the end: no record is there
  pub sofar-never : {held'' : Option (List ℕ)} → Never unread → AppendsFront held' held'' (closing unread) → WritesFront left left' held held''
  sofar-never w a = sofar-front (closing unread) [] (writes-never identifier (ran past).state (ran past).counts unread w ∙ sym (append-nil (closing unread))) a

  -- bytes that begin no record
  pub sofar-bad : {held'' : Option (List ℕ)} → Bad unread → AppendsFront held' held'' end_bytes → WritesFront left left' held held''
  sofar-bad b a =
      sofar-front end_bytes []
      (ap (from_here past) (sym (append-nil unread)) ∙ writes-bad identifier (ran past).state (ran past).counts unread [] b ∙ sym (append-nil end_bytes)) a

-- nothing came, so the unread bytes are those that were
nothing-came : (came : List ℕ) → length came ≡ 0 → came ≡ []
nothing-came [] e = refl
nothing-came (b ∷ came) e = cc

pub none-read : {n : ℕ} {unread unread' : List ℕ} {left left' : Option (List ℕ)} → ReadOn n unread unread' left left' → n ≡ 0 → unread' ≡ unread
none-read {n} {unread} r z = r.joined ∙ ap (λ (x : List ℕ). unread ++ x) (nothing-came r.came (r.many ∙ z)) ∙ append-nil unread

-- the end of the input
pub sofar-closes : {past : CallList} {unread unread' : List ℕ} (left left' left'' held held' held'' : Option (List ℕ)) → {n : ℕ} → Sofar past unread left left' held held' → Never unread → ReadOn n unread unread' left' left'' → n ≡ 0
    → Appends held' held'' (closing unread') → IfSome left (λ xs. Appends held held'' (panelrun identifier xs))
sofar-closes None left' left'' held held' held'' f w r z a = tt
sofar-closes (Some xs) left' None held held' held'' f w r z a = absurd (sofar-read f r).given
sofar-closes {past} {unread} {unread'} (Some xs) left' (Some rest) held held' held'' f w r z a =
    let g = sofar-read f r in
    let all : xs ≡ g.taken = g.given ∙ ap (λ (x : List ℕ). g.taken ++ x) (r.ended z) ∙ append-nil g.taken in
    let wrote : g.wrote ++ closing unread' ≡ panelrun identifier xs =
    sym (ap (panelrun identifier) all ∙ same-here g ∙ ap (λ (x : List ℕ). g.wrote ++ x) (writes-never identifier (ran past).state (ran past).counts unread' (subst Never (sym (none-read r z)) w))) in
    subst (Appends held held'') wrote (Appends-trans held held' held'' _ _ g.added a)

-- bytes that begin no record
pub sofar-stops : {past : CallList} {unread : List ℕ} (left left' held held' held'' : Option (List ℕ)) → Sofar past unread left left' held held' → Bad unread
    → Appends held' held'' end_bytes → IfSome left (λ xs. Appends held held'' (panelrun identifier xs))
sofar-stops None left' held held' held'' f b a = tt
sofar-stops (Some xs) None held held' held'' f b a = absurd f.given
sofar-stops {past} {unread} (Some xs) (Some rest) held held' held'' f b a =
    subst (Appends held held'') (sym (ap (panelrun identifier) f.given ∙ f.same rest ∙ ap (λ (x : List ℕ). f.wrote ++ x) (writes-bad identifier (ran past).state (ran past).counts unread rest b)))
    (Appends-trans held held' held'' _ _ f.added a)

-- the same run, by other names
pub sofar-as : {past past' : CallList} {unread unread' : List ℕ} {left left' left'' held held' held'' : Option (List ℕ)} → past' ≡ past → unread' ≡ unread → left'' ≡ left' → held'' ≡ held'
    → Sofar past unread left left' held held' → Sofar past' unread' left left'' held held''
sofar-as p u l h f = rw (p, u, l, h) f

-- what holds anyhow holds where there is an error
pub on_err_always : {T E P : Type 0} (r : Result T E) → P → OnErr r P
on_err_always (Ok x) p = tt
on_err_always (Err e) p = p

-- a run so far, in n steps: each took bytes from the input, or used some of those that were unread
pub record Paced (n : ℕ) (past : CallList) (unread : List ℕ) (left left' held held' : Option (List ℕ)) : Type 0 where
  pub sofar : Sofar past unread left left' held held'
  pub pace : n + length unread ≤ 2 * length sofar.taken

pub paced-start : {past : CallList} (left held : Option (List ℕ)) → Started past → Paced 0 past [] left left held held
paced-start left held s = record { sofar = sofar-start left held s; pace = omega arith }

module _ {n : ℕ} {past : CallList} {unread : List ℕ} {left left' held held' : Option (List ℕ)} (f : Paced n past unread left left' held held') where
  pub paced-answered : {past' : CallList} {event bytes : List ℕ} {now used : ℕ} {held'' : Option (List ℕ)} → Whole unread now event used
      → Answers (record_call now event) past past' bytes → Appends held' held'' bytes → Paced (n + 1) past' (drop used unread) left left' held held''
  unfolding sofar-answered
  paced-answered {past'} {event} {bytes} {now} {used} {held''} w a b = record {
    sofar = sofar-answered f.sofar w a b;
    pace = omega (arith, f.pace, w.some, w.inside, length-drop used unread);
  }

  pub paced-read : {m : ℕ} {unread' : List ℕ} {left'' : Option (List ℕ)} → ReadOn m unread unread' left' left'' → (m ≡ 0 → ⊥) → Paced (n + 1) past unread' left left'' held held'
  unfolding sofar-read
  paced-read {m} {unread'} {left''} r some = record {
    sofar = sofar-read f.sofar r;
    pace = omega (arith, f.pace, r.many, ap length r.joined, length-append unread r.came, length-append f.sofar.taken r.came, some_of m some);
  }
    where
      some_of : (k : ℕ) → (k ≡ 0 → ⊥) → 1 ≤ k
      some_of zero h = absurd (h refl)
      some_of (suc k) h = omega arith

  -- all its steps are used up
  pub paced-long : 2 ^ 64 - 1 ≤ n → Long left left'
  paced-long e = (f.sofar.taken, f.sofar.given, omega (arith, f.pace, e))

-- the same run, by other names
pub paced-as : {n n' : ℕ} {past past' : CallList} {unread unread' : List ℕ} {left left' left'' held held' held'' : Option (List ℕ)} → n' ≡ n → past' ≡ past → unread' ≡ unread → left'' ≡ left' → held'' ≡ held'
    → Paced n past unread left left' held held' → Paced n' past' unread' left left'' held held''
paced-as m p u l h f = rw (m, p, u, l, h) f
