-- What is decided of an IHave, entry by entry: the entries that count, and their numbers in the order of their identifiers.
-- Assumes nothing.
use Rattle.announcements.proofs.Words.{◌≡◌, refl, sym, ap, ◌∙◌, subst, Bool, true, false, ◌||◌, List, [], ◌∷◌, ◌++◌, map, ℕ, ◌+◌, ◌≤◌, ◌<◌, arith, length, length-append, append-nil, take, drop, take-map, get_or, get_or-map, eqb, eqb-true, if◌then◌else◌, Option, Some, None, is_some, cases, true≢, All, All-head, All-tail, All-take, All-drop, All-push, All-weaker, member, Ihave, State}
use Rattle.std.proofs.Common.{take-append-drop, length-take}
use Rattle.std.proofs.lemmas.List.{take_more, map-append, drop-map, get_or_default, get_or_append_left}
use Rattle.std.proofs.lemmas.List.Elements.{All-append, All-cons}
use Rattle.std.proofs.lemmas.List.Edits.{length-insert}
use Rattle.std.proofs.Math.Seq.{get_or-append_seam}
use lib.ListN.{length-map}
use Rattle.storage.specs.Lists.Base.{ascending}
use Rattle.storage.specs.Rows.Sorted.{Between}
use Rattle.protocol.proofs.ConsistentTables.{ascending-insert_key}
use Rattle.block.proofs.KeyPlaces.{insert_key-between}
use Rattle.block.proofs.KeyMembers.{member-between}
use Rattle.announcements.specs.Ihaves.Entries.{new_entries, round_of}
use Rattle.announcements.specs.Ihaves.Heard.{ihave}
use Rattle.announcements.specs.declared.on_ihave.Unreceived.{Unreceived}
use Rattle.announcements.specs.OnIhave.{entry_value, entries_value, entries_at, ids, received, Adds, IhaveDecided}
use Rattle.announcements.proofs.IhavesLaws.Entries.{entries-more, entries-rounds}
use Rattle.announcements.proofs.IhavesLaws.Merged.{members-rounds}

-- the identifier at a place of the order
pub id-at : (hs : List Ihave) (ns : List ℕ) (i : ℕ) → i < length ns → get_or (ids (entries_at hs ns)) i 0 ≡ (get_or hs (get_or ns i 0) (ihave 0 0)).id
id-at hs ns i w =
    let f : ℕ → Ihave = λ n. get_or hs n (ihave 0 0) in
    get_or-map (λ (h : Ihave). h.id) (map f ns) i (ihave 0 0)
    ∙ ap (λ (h : Ihave). h.id) (get_or_default (map f ns) i (ihave 0 0) (f 0) (omega (arith, w, length-map ns f)) ∙ get_or-map f ns i 0)

-- entries more at the end change none at these numbers
at-same : (hs : List Ihave) (x : Ihave) (ns : List ℕ) → All (λ n. n < length hs) ns → entries_at (hs ++ (x ∷ [])) ns ≡ entries_at hs ns
at-same hs x [] a = refl
at-same hs x (n ∷ ns) a =
    let one : get_or (hs ++ (x ∷ [])) n (ihave 0 0) ≡ get_or hs n (ihave 0 0) = get_or_append_left hs (x ∷ []) (ihave 0 0) n (All-head (λ m. m < length hs) n ns a) in
    let more : entries_at (hs ++ (x ∷ [])) ns ≡ entries_at hs ns = at-same hs x ns (All-tail (λ m. m < length hs) n ns a) in
    (λ k. one k ∷ more k)

-- the order with the number of one more before a place
at-more : (hs : List Ihave) (x : Ihave) (ns : List ℕ) (i : ℕ) → All (λ n. n < length hs) ns → entries_at (hs ++ (x ∷ [])) (take i ns ++ (length hs ∷ drop i ns)) ≡ take i (entries_at hs ns) ++ (x ∷ drop i (entries_at hs ns))
at-more hs x ns i a =
    let f : ℕ → Ihave = λ n. get_or (hs ++ (x ∷ [])) n (ihave 0 0) in
    let g : ℕ → Ihave = λ n. get_or hs n (ihave 0 0) in
    map-append f (take i ns) (length hs ∷ drop i ns)
    ∙ (λ k. at-same hs x (take i ns) (All-take (λ n. n < length hs) i ns a) k ++ (get_or-append_seam hs x [] (ihave 0 0) k ∷ at-same hs x (drop i ns) (All-drop (λ n. n < length hs) i ns a) k))
    ∙ (λ k. sym (take-map g i ns) k ++ (x ∷ sym (drop-map g i ns) k))

-- the round of the first of two lists that has the identifier
or_else : Option ℕ → Option ℕ → Option ℕ
or_else None o = o
or_else (Some r) o = Some r

none-after : (o : Option ℕ) → or_else o None ≡ o
unfolding or_else
none-after None = refl
none-after (Some r) = refl

round-append : (j : ℕ) (xs ys : List Ihave) → round_of j (xs ++ ys) ≡ or_else (round_of j xs) (round_of j ys)
unfolding round_of or_else
round-append j [] ys = refl
round-append j (x ∷ xs) ys = cases (eqb j x.id) (λ e. rw e refl) (λ e. rw e (round-append j xs ys))

first-none : (a b : Option ℕ) → or_else a b ≡ None → a ≡ None
unfolding or_else
first-none None b e = refl
first-none (Some r) b e = e

-- one more, wherever it stands, is found where none was
round-more : (j : ℕ) (xs ys hs : List Ihave) (x : Ihave) → round_of x.id (xs ++ ys) ≡ None → round_of x.id hs ≡ None → round_of j (xs ++ ys) ≡ round_of j hs → round_of j (xs ++ (x ∷ ys)) ≡ round_of j (hs ++ (x ∷ []))
unfolding round_of
round-more j xs ys hs x n m e =
    round-append j xs (x ∷ ys)
    ∙ cases (eqb j x.id)
    (λ q. rw q
    (ap (λ (o : Option ℕ). or_else o (Some x.round)) (ap (λ (i : ℕ). round_of i xs) (eqb-true j x.id q) ∙ first-none (round_of x.id xs) (round_of x.id ys) (sym (round-append x.id xs ys) ∙ n))
    ∙ sym (round-append j hs (x ∷ []) ∙ rw q (ap (λ (o : Option ℕ). or_else o (Some x.round)) (ap (λ (i : ℕ). round_of i hs) (eqb-true j x.id q) ∙ m)))))
    (λ q. rw q (sym (round-append j xs ys) ∙ e ∙ sym (round-append j hs (x ∷ []) ∙ rw q (none-after (round_of j hs)))))

-- the identifiers still ascend
ids-more : (xs : List Ihave) (x : Ihave) (i : ℕ) → ascending (ids xs) ≡ true → Between (ids xs) x.id i → ascending (ids (take i xs ++ (x ∷ drop i xs))) ≡ true
ids-more xs x i u b =
    ap ascending
    (map-append (λ (h : Ihave). h.id) (take i xs) (x ∷ drop i xs)
    ∙ (λ k. sym (take-map (λ (h : Ihave). h.id) i xs) k ++ (x.id ∷ sym (drop-map (λ (h : Ihave). h.id) i xs) k))
    ∙ sym (insert_key-between x.id i (ids xs) b))
    ∙ ascending-insert_key x.id (ids xs) u

some-none : (o : Option ℕ) → is_some o ≡ false → o ≡ None
some-none None e = refl
some-none (Some r) e = true≢ (sym e)

pub decided-start : (s : State) (es : List Unreceived) (ns : List ℕ) → es ≡ [] → ns ≡ [] → IhaveDecided s [] es ns
decided-start s es ns e n =
    subst (λ (l : List Unreceived). IhaveDecided s [] l ns) (sym e) (subst (λ (l : List ℕ). IhaveDecided s [] [] l) (sym n)
    (record {
      count = unfold new_entries in refl;
      adds = λ k d w. absurd (omega arith);
      all = refl;
      there = λ k d w. absurd (omega arith);
      ascend = unfold ascending in refl;
      same = λ j. refl;
    }))

module _ (s : State) (hs : List Ihave) (es : List Unreceived) (ns : List ℕ) (d : IhaveDecided s hs es ns) (x : Ihave) where
  abbrev known : ℕ → Bool
  known = received s

  counts : (b : Bool) → (known x.id || is_some (round_of x.id hs)) ≡ b → new_entries known [] (hs ++ (x ∷ [])) ≡ new_entries known [] hs ++ (if b then [] else x ∷ [])
  counts b e = entries-more known x hs ∙ ap (λ (c : Bool). new_entries known [] hs ++ (if c then [] else x ∷ [])) e

  still : (known x.id || is_some (round_of x.id hs)) ≡ true → IhaveDecided s (hs ++ (x ∷ [])) es ns
  still e = record {
    count = d.count ∙ sym (append-nil (new_entries known [] hs)) ∙ sym (counts true e);
    adds = d.adds;
    all = d.all;
    there = d.there;
    ascend = d.ascend;
    same = d.same;
  }

  -- its message is received
  decided-received : known x.id ≡ true → IhaveDecided s (hs ++ (x ∷ [])) es ns
  decided-received e = still (ap (λ (b : Bool). b || is_some (round_of x.id hs)) e)

  -- else it is among the entries where it is among the announcements
  among : known x.id ≡ false → member x.id (ids (entries_at (entries_value es) ns)) ≡ is_some (round_of x.id hs)
  among n =
      members-rounds x.id (entries_at (entries_value es) ns)
      ∙ ap is_some (d.same x.id ∙ ap (round_of x.id) d.count ∙ entries-rounds known x.id hs ∙ ap (λ (b : Bool). if b then None else round_of x.id hs) n)

  either : (b : Bool) → known x.id ≡ false → is_some (round_of x.id hs) ≡ b → (known x.id || is_some (round_of x.id hs)) ≡ b
  either b n e = ap (λ (c : Bool). c || is_some (round_of x.id hs)) n ∙ e

  pub decided-known : (known x.id || member x.id (ids (entries_at (entries_value es) ns))) ≡ true → IhaveDecided s (hs ++ (x ∷ [])) es ns
  decided-known e =
      cases (known x.id) decided-received
      (λ n. still (either true n (sym (among n) ∙ sym (ap (λ (b : Bool). b || member x.id (ids (entries_at (entries_value es) ns))) n) ∙ e)))

  module _ (n : known x.id ≡ false) (i : ℕ) (b : Between (ids (entries_at (entries_value es) ns)) x.id i) (e : Unreceived) (is : entry_value e ≡ x) (adds : Adds s e) where
    none : is_some (round_of x.id hs) ≡ false
    none = sym (among n) ∙ member-between x.id i (ids (entries_at (entries_value es) ns)) b

    all-value : entries_value (es ++ (e ∷ [])) ≡ entries_value es ++ (x ∷ [])
    all-value = map-append entry_value es (e ∷ []) ∙ ap (λ (y : Ihave). entries_value es ++ (y ∷ [])) is

    below : All (λ m. m < length (entries_value es)) ns
    below = All-weaker (λ m. m < length es) (λ m. m < length (entries_value es)) (λ m w. omega (arith, w, length-map es entry_value)) ns d.there

    within : i ≤ length ns
    within = omega (arith, b.within, length-map (entries_at (entries_value es) ns) (λ (h : Ihave). h.id), length-map ns (λ m. get_or (entries_value es) m (ihave 0 0)))

    in-order : entries_at (entries_value (es ++ (e ∷ []))) (take i ns ++ (length es ∷ drop i ns)) ≡ take i (entries_at (entries_value es) ns) ++ (x ∷ drop i (entries_at (entries_value es) ns))
    in-order =
        (λ k. entries_at (all-value k) (take i ns ++ (sym (length-map es entry_value) k ∷ drop i ns)))
        ∙ at-more (entries_value es) x ns i below

    absent : round_of x.id (entries_at (entries_value es) ns) ≡ None
    absent = some-none (round_of x.id (entries_at (entries_value es) ns)) (sym (members-rounds x.id (entries_at (entries_value es) ns)) ∙ member-between x.id i (ids (entries_at (entries_value es) ns)) b)

    -- a number more
    more-there : All (λ m. m < length (es ++ (e ∷ []))) (take i ns ++ (length es ∷ drop i ns))
    more-there =
        let wide : All (λ m. m < length (es ++ (e ∷ []))) ns = All-weaker (λ m. m < length es) (λ m. m < length (es ++ (e ∷ []))) (λ m w. omega (arith, w, length-append es (e ∷ []))) ns d.there in
        All-append (λ m. m < length (es ++ (e ∷ []))) (take i ns) (length es ∷ drop i ns) (All-take (λ m. m < length (es ++ (e ∷ []))) i ns wide)
        (All-cons (λ m. m < length (es ++ (e ∷ []))) (length es) (drop i ns) (omega (arith, length-append es (e ∷ []))) (All-drop (λ m. m < length (es ++ (e ∷ []))) i ns wide))

    pub decided-more : IhaveDecided s (hs ++ (x ∷ [])) (es ++ (e ∷ [])) (take i ns ++ (length es ∷ drop i ns))
    decided-more =
        let l : List Ihave = entries_at (entries_value es) ns in
        let whole : take i l ++ drop i l ≡ l = take-append-drop i l in
        record {
          count = all-value ∙ ap (λ (y : List Ihave). y ++ (x ∷ [])) d.count ∙ sym (counts false (either false n none));
          adds = All-push (Adds s) es e d.adds adds;
          all = omega (arith, length-insert ns i (length es) within, length-append es (e ∷ []), d.all);
          there = more-there;
          ascend = ap (λ (y : List Ihave). ascending (ids y)) in-order ∙ ids-more l x i d.ascend b;
          same = λ j.
              ap (round_of j) in-order
              ∙ round-more j (take i l) (drop i l) (entries_value es) x (ap (round_of x.id) whole ∙ absent) (sym (d.same x.id) ∙ absent) (ap (round_of j) whole ∙ d.same j)
              ∙ sym (ap (round_of j) all-value);
        }

-- what a read past the end of the entries is taken for
abbrev pub nothing : Unreceived
nothing = record { id = record { w0 = 0; w1 = 0; w2 = 0; w3 = 0 }; round = record { 0 = 0 }; adds_missing = false; adds_timer = false }

-- the first entries, with one more
pub value-more : (es : List Unreceived) (i : ℕ) → i < length es → entries_value (take (i + 1) es) ≡ entries_value (take i es) ++ (entry_value (get_or es i nothing) ∷ [])
value-more es i w = ap entries_value (take_more es i nothing w) ∙ map-append entry_value (take i es) (get_or es i nothing ∷ [])

pub few-taken : (i : ℕ) (es : List Unreceived) → length (entries_value (take i es)) ≤ length es
few-taken i es = omega (arith, length-map (take i es) entry_value, length-take i es)
