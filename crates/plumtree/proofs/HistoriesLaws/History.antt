-- The guarantees after savings and returns: block and counts of each panel, and of each state kept, are what its list of calls left (`From`), and so `guarantee` speaks of it.
-- Assumes nothing.
use Rattle.plumtree.proofs.Words.{ℕ, zero, suc, ◌+◌, ◌*◌, ◌≤◌, ◌≡◌, refl, sym, ap, subst, ◌∙◌, true, false, List, [], ◌∷◌, ◌++◌, map, eqb-true, le-leb, eqb, length, get_or, take, replicate, if◌then◌else◌, Some, cases, true≢, Counts, Created, created, not_created, create, zero_counts, Call, Outcome, refused, accepted, answer_block, settings_of, limits_of, Settings, Limits, identifier, Lent, Finds, Called}
use borrow.Author.Tests.{eqb-false}
use lib.ListN.{length-replicate}
use Rattle.storage.specs.Lists.Map.{Entry, lookup}
use Rattle.protocol.specs.State.{fresh, Settings as PanelSettings, Limits as PanelLimits}
use Rattle.protocol.specs.Whole.{whole}
use Rattle.protocol.proofs.CreatedWhole.{created-whole}
use Rattle.protocol.proofs.NeverFive.{never-five}
use Rattle.whole.specs.Held.{held, whole_held, whole_block}
use Rattle.whole.proofs.WholeLaws.{held-round}
use Rattle.whole.specs.Creation.{Creates}
use Rattle.whole.specs.States.Kept.{Kept, keep}
use Rattle.whole.specs.States.Area.{slots, kept, kept_in, area_holds, InWidth, LeftBy, zeros}
use Rattle.whole.specs.States.Calls.{Saves, Returns}
use Rattle.whole.proofs.StatesLaws.LeftBy.{area-exact}
use Rattle.whole.proofs.StatesLaws.Accepted.{kept-after, left_after, saved-not, Found, brought, returned-there, returned-not}
use Rattle.output_size.specs.OutputSize.{AllBytes}
use Rattle.plumtree.specs.Calls.{Made, counts_left}
use Rattle.plumtree.specs.Chain.{Seen, Chain, done, next, Guaranteed}
use Rattle.plumtree.specs.OutputSize.{size_of, EachEnough}
use Rattle.plumtree.proofs.CreationLaws.{made}
use Rattle.plumtree.proofs.Guarantee.{created-holds, guarantee}
use Rattle.plumtree.proofs.OutputSizeLaws.{output-size-of-blocks}
use Rattle.plumtree.specs.CallList.{CallList, fresh_list, with_call}
use Rattle.plumtree.specs.Histories.History.{Panel, Saved, Area, kept_of, was_accepted, saved_as, list_saved, list_returned, Step, creates, calls, saves, returns, History, begins, opens, joins, goes, Histories}

-- block and counts are what this list of calls left, from an accepted creation; the block has n bytes
record From (n : ℕ) (s : CallList) (block : List ℕ) (counts : Counts) : Type 0 where
  before : List ℕ
  old : Counts
  first : List ℕ
  zeroed : Counts
  long : ℕ
  made : Made s.settings s.limits before old first zeroed 0 long
  chain : Chain first zeroed s.calls s.seen block counts
  size : length block ≡ n

-- the same block and counts, by other names
same_from : (n : ℕ) (s : CallList) {block block' : List ℕ} {counts counts' : Counts} → block' ≡ block → counts' ≡ counts → From n s block counts → From n s block' counts'
same_from n s {block} {block'} {counts} {counts'} b c f = subst (λ (x : List ℕ). From n s x counts') (sym b) (subst (From n s block) (sym c) f)

-- a fresh panel
fresh-from : (n : ℕ) (c : Settings) (l : Limits) (before : List ℕ) (old : Counts) (block : List ℕ) (counts : Counts) (long : ℕ) → Made c l before old block counts 0 long → length block ≡ n → From n (fresh_list c l) block counts
fresh-from n c l before old block counts long m e = record { before = before; old = old; first = block; zeroed = counts; long = long; made = m; chain = done block counts; size = e }

module _ (n : ℕ) (s : CallList) (block : List ℕ) (counts : Counts) (g : From n s block counts) where
  -- the guarantees hold of the list
  from-guaranteed : Guaranteed s.settings s.limits s.calls s.seen block counts
  from-guaranteed = guarantee.always s.settings s.limits g.before g.old g.first g.zeroed g.long g.made s.calls s.seen block counts g.chain

  -- an output of `size_of` bytes was enough for each of its calls
  from-enough : AllBytes s.calls → EachEnough (size_of s.settings s.limits) s.calls s.seen
  from-enough y = output-size-of-blocks.always s.settings s.limits g.before g.old g.first g.zeroed g.long g.made s.calls s.seen block counts g.chain y

  -- and the block is whole
  from-whole : whole_block block ≡ true
  unfolding whole_block whole_held fresh
  from-whole =
      let c : PanelSettings = settings_of s.settings in
      let l : PanelLimits = limits_of s.limits in
      let h = created-holds s.settings s.limits g.before g.first g.made.creation in
      let w : whole (fresh c l) ≡ true =
      created-whole c l (length g.before) (fresh c l) zero_counts (made s.settings s.limits g.before g.first g.made.creation)
      (le-leb c.optimization_threshold 65535 (held-round g.first (fresh c l) h.state)) in
      ap whole_held from-guaranteed.state ∙ (never-five identifier (fresh c l) zero_counts s.calls w).1

-- one call more at the end of a chain
snoc : (block : List ℕ) (counts : Counts) (ks : List Call) (seen : List Seen) (last : List ℕ) (n : Counts) → Chain block counts ks seen last n →
    (k : Call) (output : List ℕ) (after : Lent) (number long : ℕ) → Called k (record { block = last; counts = n; output = output }) after number long →
    Chain block counts (ks ++ (k ∷ [])) (seen ++ (record { number = number; bytes = take long after.output } ∷ [])) after.block after.counts
snoc _ _ _ _ _ _ (done block counts) k output after number long f = next block counts k output after number long f [] [] after.block after.counts (done after.block after.counts)
snoc _ _ _ _ _ _ (next block counts j out mid m w g ks seen last n more) k output after number long f =
    next block counts j out mid m w g (ks ++ (k ∷ [])) (seen ++ (record { number = number; bytes = take long after.output } ∷ [])) after.block after.counts
    (snoc mid.block mid.counts ks seen last n more k output after number long f)

-- a call keeps the block's length
same-long : (k : Call) (before after : Lent) (number long : ℕ) → Called k before after number long → length after.block ≡ length before.block
same-long k before after number long f = by (answer_block identifier (length before.block) (held before.block) before.counts k) f.finds
  where
    by : (o : Outcome) → Finds o before after number long → length after.block ≡ length before.block
    by (refused n) g = ap length g.block
    by (accepted s c bytes) g = g.block_long

called-from : (n : ℕ) (s : CallList) (block : List ℕ) (counts : Counts) → From n s block counts → (k : Call) (output : List ℕ) (after : Lent) (number long : ℕ) →
    Called k (record { block = block; counts = counts; output = output }) after number long → From n (with_call k (record { number = number; bytes = take long after.output }) s) after.block after.counts
called-from n s block counts g k output after number long f = record {
  before = g.before;
  old = g.old;
  first = g.first;
  zeroed = g.zeroed;
  long = g.long;
  made = g.made;
  chain = snoc _ _ _ _ _ _ g.chain k output after number long f;
  size = same-long k (record { block = block; counts = counts; output = output }) after number long f ∙ g.size;
}

-- a creation keeps the block's length; a refused one leaves block and counts
made-long : (c : Settings) (l : Limits) (block : List ℕ) (counts : Counts) (block' : List ℕ) (counts' : Counts) (answer long : ℕ) → Made c l block counts block' counts' answer long → length block' ≡ length block
made-long c l block counts block' counts' answer long m = by (create (settings_of c) (limits_of l) (length block)) m.creation
  where
    by : (a : Created) → Creates a block block' answer → length block' ≡ length block
    by (not_created n) g = ap length g.block
    by (created s z) g = g.long

made-not : (c : Settings) (l : Limits) (block : List ℕ) (counts : Counts) (block' : List ℕ) (counts' : Counts) (answer long : ℕ) → (answer ≡ 0 → ⊥) → Made c l block counts block' counts' answer long →
    (block' ≡ block) × (counts' ≡ counts)
unfolding counts_left
made-not c l block counts block' counts' answer long ne m = by (create (settings_of c) (limits_of l) (length block)) m.creation m.left
  where
    by : (a : Created) → Creates a block block' answer → counts' ≡ counts_left a counts → (block' ≡ block) × (counts' ≡ counts)
    by (not_created n) g e = (g.block, e)
    by (created s z) g e = absurd (ne g.number)

-- each state kept is what its list left
data Each (n : ℕ) : List (Entry Saved) → Type 0 where
  no_more : Each n []
  one_more : (s : Entry Saved) (ss : List (Entry Saved)) → From n s.value.list s.value.kept.block s.value.kept.counts → Each n ss → Each n (s ∷ ss)

each_keep : (n : ℕ) (x : Entry Saved) (ss : List (Entry Saved)) → From n x.value.list x.value.kept.block x.value.kept.counts → Each n ss → Each n (keep x ss)
unfolding keep
each_keep n x [] f no_more = one_more x [] f no_more
each_keep n x (s ∷ ss) f (one_more _ _ g e) = cases (eqb x.key s.key) (λ t. rw t (one_more x ss f e)) (λ t. rw t (one_more s (keep x ss) g (each_keep n x ss f e)))

map-keep : (x : Entry Saved) (ss : List (Entry Saved)) → keep (kept_of x) (map kept_of ss) ≡ map kept_of (keep x ss)
unfolding keep
map-keep x [] = refl
map-keep x (s ∷ ss) = cases (eqb x.key s.key) (λ t. rw t refl) (λ t. rw t (ap (λ (l : List (Entry Kept)). kept_of s ∷ l) (map-keep x ss)))

-- the state under a name has its list, which led to it
record Stored (n name : ℕ) (ss : List (Entry Saved)) (k : Kept) : Type 0 where
  it : Saved
  there : lookup name ss ≡ Some it
  same : k ≡ it.kept
  from : From n it.list it.kept.block it.kept.counts

stored : (n name : ℕ) (ss : List (Entry Saved)) (k : Kept) → Each n ss → lookup name (map kept_of ss) ≡ Some k → Stored n name ss k
unfolding lookup
stored n name [] k no_more e = let z : false ≡ true = cc in true≢ z
stored n name (s ∷ ss) k (one_more _ _ g more) e =
    cases (eqb name s.key)
    (λ t. let a : Some s.value.kept ≡ Some k = rw t at e in
    let b : k ≡ s.value.kept = cc in
    record { it = s.value; there = rw t refl; same = b; from = g })
    (λ t. let m = stored n name ss k more (rw t at e) in record { it = m.it; there = rw t m.there; same = m.same; from = m.from })

lookup-kept : (name : ℕ) (ss : List (Entry Saved)) (s : Saved) → lookup name ss ≡ Some s → lookup name (map kept_of ss) ≡ Some s.kept
unfolding lookup
lookup-kept name [] s e = let z : false ≡ true = cc in true≢ z
lookup-kept name (x ∷ ss) s e =
    cases (eqb name x.key) (λ t. let a : Some x.value ≡ Some s = rw t at e in let b : x.value ≡ s = cc in rw t (ap (λ (y : Saved). Some y.kept) b)) (λ t. rw t (lookup-kept name ss s (rw t at e)))

-- each of a list has it
data All {A : Type 0} (P : A → Type 0) : List A → Type 0 where
  none_left : All P []
  and : (x : A) (xs : List A) → P x → All P xs → All P (x ∷ xs)

module _ {A : Type 0} (P : A → Type 0) where
  one : (front : List A) (x : A) (behind : List A) → All P (front ++ (x ∷ behind)) → P x
  one [] x behind (and _ _ p more) = p
  one (y ∷ front) x behind (and _ _ p more) = one front x behind more

  with-one : (front : List A) (x x' : A) (behind : List A) → All P (front ++ (x ∷ behind)) → P x' → All P (front ++ (x' ∷ behind))
  with-one [] x x' behind (and _ _ p more) q = and x' behind q more
  with-one (y ∷ front) x x' behind (and _ _ p more) q = and y (front ++ (x' ∷ behind)) p (with-one front x x' behind more q)

-- a panel is what its list left
abbrev Left : ℕ → Panel → Type 0
Left n p = From n p.list p.block p.counts

-- what holds of the area
record Keeps (n : ℕ) (a : Area) : Type 0 where
  each : Each n a.saved
  same : kept_in n a.bytes ≡ map kept_of a.saved
  left : 256 + n * 4 ≤ length a.bytes → LeftBy n a.bytes

-- zeros keep nothing
nothing-kept : (long i : ℕ) → get_or (replicate {A = ℕ} long 0) i 0 ≡ 0
nothing-kept zero i = refl
nothing-kept (suc long) zero = refl
nothing-kept (suc long) (suc i) = nothing-kept long i

zeros-kept : (n long : ℕ) → kept_in n (replicate long 0) ≡ []
unfolding kept_in kept slots
zeros-kept n long = rw (nothing-kept long 255) refl

-- a saving
saved-keeps : (n : ℕ) (p : Panel) (a : Area) → From n p.list p.block p.counts → Keeps n a → (name : ℕ) (area' : List ℕ) (answer long : ℕ) → InWidth name p.counts →
    Saves p.block p.counts a.bytes name area' answer long → Keeps n (record { bytes = area'; saved = if was_accepted answer then keep (saved_as name p) a.saved else a.saved })
saved-keeps n p a f k name area' answer long w s = cases (eqb answer 0) on-yes on-no
  where
    Kept' : Type 0
    Kept' = Keeps n (record { bytes = area'; saved = if eqb answer 0 then keep (saved_as name p) a.saved else a.saved })

    on-yes : eqb answer 0 ≡ true → Kept'
    on-yes t =
        let z : Saves p.block p.counts a.bytes name area' 0 long = subst (λ (x : ℕ). Saves p.block p.counts a.bytes name area' x long) (eqb-true answer 0 t) s in
        rw t (record {
          each = each_keep n (saved_as name p) a.saved f k.each;
          same = ap (λ (m : ℕ). kept_in m area') (sym f.size) ∙ kept-after p.block p.counts a.bytes name area' long w z
              ∙ ap (keep (kept_of (saved_as name p))) (ap (λ (m : ℕ). kept_in m a.bytes) f.size ∙ k.same) ∙ map-keep (saved_as name p) a.saved;
          left = λ l. subst (λ (m : ℕ). LeftBy m area') f.size (left_after p.block p.counts a.bytes name area' long w z);
        })

    on-no : eqb answer 0 ≡ false → Kept'
    on-no t =
        let u : area' ≡ a.bytes = saved-not p.block p.counts a.bytes name area' answer long (eqb-false answer 0 t) s in
        rw t (record { each = k.each; same = ap (kept_in n) u ∙ k.same; left = subst (λ (x : List ℕ). 256 + n * 4 ≤ length x → LeftBy n x) (sym u) k.left })

-- what an accepted return brings back has its list
returned-stored : (n : ℕ) (p : Panel) (a : Area) → From n p.list p.block p.counts → Keeps n a → (name : ℕ) {block' : List ℕ} {counts' : Counts} →
    (b : Found p.block a.bytes name block' counts') → Stored n name a.saved b.it
returned-stored n p a f k name b = stored n name a.saved b.it k.each (ap (lookup name) (sym k.same ∙ ap (λ (m : ℕ). kept_in m a.bytes) (sym f.size)) ∙ b.there)

-- a return
returned-from : (n : ℕ) (p : Panel) (a : Area) → From n p.list p.block p.counts → Keeps n a → (name : ℕ) (block' : List ℕ) (counts' : Counts) (answer long : ℕ) →
    Returns p.block p.counts a.bytes name block' counts' answer long → From n (list_returned answer name a.saved p.list) block' counts'
returned-from n p a f k name block' counts' answer long r = cases (eqb answer 0) on-yes on-no
  where
    From' : Type 0
    From' = From n (if eqb answer 0 then list_saved (lookup name a.saved) p.list else p.list) block' counts'

    on-yes : eqb answer 0 ≡ true → From'
    on-yes t =
        let b : Found p.block a.bytes name block' counts' =
        brought p.block p.counts a.bytes name block' counts' long (subst (λ (x : ℕ). Returns p.block p.counts a.bytes name block' counts' x long) (eqb-true answer 0 t) r) in
        let z = returned-stored n p a f k name b in
        rw (t, z.there) (same_from n z.it.list (b.block-is ∙ ap (λ (x : Kept). x.block) z.same) (b.counts-is ∙ ap (λ (x : Kept). x.counts) z.same) z.from)

    on-no : eqb answer 0 ≡ false → From'
    on-no t = let u = returned-not p.block p.counts a.bytes name block' counts' answer long (eqb-false answer 0 t) r in rw t (same_from n p.list u.0 u.1 f)

-- a creation in the panel's block
created-from : (n : ℕ) (p : Panel) → From n p.list p.block p.counts → (c : Settings) (l : Limits) (block' : List ℕ) (counts' : Counts) (answer long : ℕ) →
    Made c l p.block p.counts block' counts' answer long → From n (if was_accepted answer then fresh_list c l else p.list) block' counts'
created-from n p f c l block' counts' answer long m = cases (eqb answer 0) on-yes on-no
  where
    From' : Type 0
    From' = From n (if eqb answer 0 then fresh_list c l else p.list) block' counts'

    on-yes : eqb answer 0 ≡ true → From'
    on-yes t =
        rw t (fresh-from n c l p.block p.counts block' counts' long (subst (λ (x : ℕ). Made c l p.block p.counts block' counts' x long) (eqb-true answer 0 t) m)
        (made-long c l p.block p.counts block' counts' answer long m ∙ f.size))

    on-no : eqb answer 0 ≡ false → From'
    on-no t = let u = made-not c l p.block p.counts block' counts' answer long (eqb-false answer 0 t) m in rw t (same_from n p.list u.0 u.1 f)

-- one step
step : (n : ℕ) {p : Panel} {a : Area} {p' : Panel} {a' : Area} → Left n p → Keeps n a → Step p a p' a' → Left n p' × Keeps n a'
step n f k (creates p a c l block' counts' answer long m) = (created-from n p f c l block' counts' answer long m, k)
step n f k (calls p a j output after answer long g) = (called-from n p.list p.block p.counts f j output after answer long g, k)
step n f k (saves p a name area' answer long w s) = (f, saved-keeps n p a f k name area' answer long w s)
step n f k (returns p a name block' counts' answer long r) = (returned-from n p a f k name block' counts' answer long r, k)

-- after every history
inv : (n : ℕ) {ps : List Panel} {areas : List Area} → History n ps areas → All (Left n) ps × All (Keeps n) areas
inv n begins = (none_left, none_left)
inv n (opens ps areas h long) =
    let i = inv n h in
    let z : Keeps n (record { bytes = replicate long 0; saved = [] }) = record {
      each = no_more;
      same = zeros-kept n long;
      left = λ l. zeros long (subst (λ (m : ℕ). 256 + n * 4 ≤ m) (length-replicate long 0) l);
    } in
    (i.0, and _ areas z i.1)
inv n (joins ps areas h c l before old block counts long m e) =
    let i = inv n h in
    (and (record { block = block; counts = counts; list = fresh_list c l }) ps (fresh-from n c l before old block counts long m e) i.0, i.1)
inv n (goes front p behind left a right h p' a' g) =
    let i = inv n h in
    let s = step n (one (Left n) front p behind i.0) (one (Keeps n) left a right i.1) g in
    (with-one (Left n) front p p' behind i.0 s.0, with-one (Keeps n) left a a' right i.1 s.1)

pub histories : Histories
histories = record {
  always = λ n front p behind areas h. from-guaranteed n p.list p.block p.counts (one (Left n) front p behind (inv n h).0);
  enough = λ n front p behind areas h. from-enough n p.list p.block p.counts (one (Left n) front p behind (inv n h).0);
  whole = λ n front p behind areas h. from-whole n p.list p.block p.counts (one (Left n) front p behind (inv n h).0);
  kept = λ n ps left a right h. (one (Keeps n) left a right (inv n h).1).same;
  holds = λ n ps left a right h l. (area-exact.exactly n a.bytes).only_when ((one (Keeps n) left a right (inv n h).1).left l);
  found = λ n front p behind left a right h name block' counts' long r.
      let i = inv n h in
      let b = brought p.block p.counts a.bytes name block' counts' long r in
      let z = returned-stored n p a (one (Left n) front p behind i.0) (one (Keeps n) left a right i.1) name b in
      (z.it, z.there, b.block-is ∙ ap (λ (k : Kept). k.block) z.same, b.counts-is ∙ ap (λ (k : Kept). k.counts) z.same);
  taken = λ n front p behind left a right h l name s e block' counts' answer long r.
      let i = inv n h in
      let g = one (Left n) front p behind i.0 in
      let k = one (Keeps n) left a right i.1 in
      returned-there p.block p.counts a.bytes name block' counts' answer long s.kept (from-whole n p.list p.block p.counts g)
      (ap (λ (m : ℕ). area_holds m a.bytes) g.size ∙ (area-exact.exactly n a.bytes).only_when (k.left l))
      (ap (λ (m : ℕ). lookup name (kept_in m a.bytes)) g.size ∙ ap (lookup name) k.same ∙ lookup-kept name a.saved s e) r;
}
