-- What is handed back of an eager push and noted, link by link.
-- Assumes nothing.
use Rattle.payloads.proofs.Words.{◌≡◌, refl, sym, ap, ◌∙◌, Bool, true, false, not, ◌&&◌, ◌||◌, List, [], ◌∷◌, ◌++◌, ℕ, ◌+◌, ◌≤◌, ◌<◌, arith, length, length-append, map, append-nil, append_assoc, le-leb, eqb, leb, if◌then◌else◌, cases, true≢, and_left, and_right, count-append, Ihave, State, Note, with_dropped, for_peer, cached_in, Batch, peer_at, AtRest, note_of, with_these, these_noted, Call, rooms_of, links_of, AllBelow, LinkSet, below-wider}
use Rattle.std.proofs.lemmas.List.{map-append, length-map}
use borrow.Author.Tests.{not-true, not-false, lt-leb}
use Rattle.storage.specs.Lists.Base.{member, any, count}
use Rattle.storage.proofs.ListsLaws.KeyLaws.{eqb-sym}
use Rattle.storage.proofs.ListsLaws.Lists.{any_append, or-false-left, or-false-right}
use Rattle.protocol.specs.Push.{notes, record_full}
use Rattle.decide.specs.RecordGrowth.{add_note, add_notes, add_batches, batches_for}
use Rattle.decide.specs.StateAfter.{recorded_state, pushed_state}
use Rattle.decide.proofs.RecordGrowthLaws.{Agree}
use Rattle.block.specs.NoteSteps.{note, standing}
use Rattle.payloads.specs.Eager.Targets.{hands_back}
use Rattle.payloads.specs.Eager.Scan.{wants_note}
use Rattle.payloads.specs.EagerPush.Targets.{link_peers, push_backs}
use Rattle.payloads.specs.EagerPush.Notes.{record_back, NotedAre}
use Rattle.payloads.proofs.EagerLaws.TargetLaws.{Roomed, backs_to, backs-none, backs-yes, backs-no, backs-all, backs-apart}
use Rattle.payloads.proofs.EagerPushLaws.TargetLaws.{rest-roomed}

-- batches one after the other, and one alone

module _ (c : ℕ → Bool) where
  batches-then : (bs cs : List Batch) (ds : List Note) → add_batches c (bs ++ cs) ds ≡ add_batches c cs (add_batches c bs ds)
  unfolding add_batches
  batches-then [] cs ds = refl
  batches-then (b ∷ bs) cs ds = batches-then bs cs (add_notes c b.peer b.ihaves ds)

  for-append : (h : Ihave) (ps qs : List ℕ) → batches_for h (ps ++ qs) ≡ batches_for h ps ++ batches_for h qs
  unfolding batches_for
  for-append h [] qs = refl
  for-append h (p ∷ ps) qs = ap (λ (l : List Batch). record { peer = p; ihaves = h ∷ [] } ∷ l) (for-append h ps qs)

  pub for-then : (h : Ihave) (ps qs : List ℕ) (ds : List Note) → add_batches c (batches_for h (ps ++ qs)) ds ≡ add_batches c (batches_for h qs) (add_batches c (batches_for h ps) ds)
  for-then h ps qs ds = ap (λ (bs : List Batch). add_batches c bs ds) (for-append h ps qs) ∙ batches-then (batches_for h ps) (batches_for h qs) ds

  pub for-one : (h : Ihave) (p : ℕ) (ds : List Note) → add_batches c (batches_for h (p ∷ [])) ds ≡ add_note c p h ds
  unfolding add_batches batches_for add_notes
  for-one h p ds = refl

  pub for-none : (h : Ihave) (ds : List Note) → add_batches c (batches_for h []) ds ≡ ds
  unfolding add_batches batches_for
  for-none h ds = refl

  -- a record only grows

  note-apart : (q p : ℕ) (h : Ihave) (ds : List Note) → eqb q p ≡ false → Agree q ds (add_note c p h ds)
  unfolding add_note
  note-apart q p h ds e = on (not (record_full p ds) && c h.id && not (any (notes p h.id) ds))
    where
      other : eqb p q ≡ false
      other = eqb-sym p q ∙ e

      or-false : (b : Bool) → (b || false) ≡ b
      or-false true = refl
      or-false false = refl

      none : (i : ℕ) → any (notes q i) (record { peer = p; id = h.id; round = h.round } ∷ []) ≡ false
      none i = unfold any in (rw other refl)

      zero_of : count (for_peer q) (record { peer = p; id = h.id; round = h.round } ∷ []) ≡ 0
      zero_of = unfold count in (rw other refl)

      plain : (n : ℕ) → n + 0 ≡ n
      plain n = omega arith

      on : (b : Bool) → Agree q ds (if b then ds ++ (record { peer = p; id = h.id; round = h.round } ∷ []) else ds)
      on false = record { noted = λ i. refl; counted = refl }
      on true = record {
        noted = λ i. any_append (notes q i) ds (record { peer = p; id = h.id; round = h.round } ∷ []) ∙ ap (λ (b : Bool). any (notes q i) ds || b) (none i) ∙ or-false (any (notes q i) ds);
        counted = count-append (for_peer q) ds (record { peer = p; id = h.id; round = h.round } ∷ []) ∙ ap (λ (n : ℕ). count (for_peer q) ds + n) zero_of ∙ plain (count (for_peer q) ds);
      }

  pub for-apart : (q : ℕ) (h : Ihave) (ps : List ℕ) (ds : List Note) → member q ps ≡ false → Agree q ds (add_batches c (batches_for h ps) ds)
  unfolding add_batches batches_for add_notes member
  for-apart q h [] ds m = record { noted = λ i. refl; counted = refl }
  for-apart q h (p ∷ ps) ds m =
      cases (eqb q p) (λ e. true≢ (sym (rw e at m)))
      (λ e.
      let a = note-apart q p h ds e in
      let b = for-apart q h ps (add_note c p h ds) (rw e at m) in
      record { noted = λ i. b.noted i ∙ a.noted i; counted = b.counted ∙ a.counted })

-- the test of `note_dropped`, given its parts

picked : (full held there : Bool) (ds more : List Note) → (full || there) ≡ true → (if not full && held && not there then more else ds) ≡ ds
picked true held there ds more h = refl
picked false true true ds more h = refl
picked false false true ds more h = refl
picked false held false ds more h = true≢ h

or-in : (a b c : Bool) → (a || b) ≡ true → (a || c || b) ≡ true
or-in true b c h = refl
or-in false b true h = refl
or-in false b false h = h

-- after i links the record has the notes of those among the first i that handed it back
module _ (held : ℕ → Bool) (call : Call) (to : LinkSet) (id round : ℕ) (s : State) (at_rest : AtRest s) (cached : held id ≡ true) where
  abbrev ih : Ihave
  ih = record { id = id; round = round }

  abbrev kept : ℕ → List Note
  kept i = add_batches held (batches_for ih (backs_to to call s i)) s.dropped

  rooms : Roomed s call
  rooms = rest-roomed s call at_rest

  none-kept : kept 0 ≡ s.dropped
  none-kept = ap (λ (ps : List ℕ). add_batches held (batches_for ih ps) s.dropped) (backs-none to call s) ∙ for-none held ih s.dropped

  all-kept : (i : ℕ) → i ≡ length s.links → length s.links ≤ 32 → AllBelow to (length s.links) → record_back held call to id round s ≡ kept i
  all-kept i e q b = ap (λ (ps : List ℕ). add_batches held (batches_for ih ps) s.dropped) (sym (backs-all to call s i e q b))

  module _ (i : ℕ) (q : i < length s.links) where
    abbrev p : ℕ
    p = peer_at s i

    agree : Agree p s.dropped (kept i)
    agree = for-apart held p ih (backs_to to call s i) s.dropped (backs-apart to call s at_rest.consistent.core.links_up i q)

    after-yes : hands_back to call.rooms.now.links i ≡ true → kept (i + 1) ≡ add_note held p ih (kept i)
    after-yes e =
        ap (λ (ps : List ℕ). add_batches held (batches_for ih ps) s.dropped) (backs-yes to call s rooms i q e)
        ∙ for-then held ih (backs_to to call s i) (p ∷ []) s.dropped
        ∙ for-one held ih p (kept i)

    after-no : hands_back to call.rooms.now.links i ≡ false → kept (i + 1) ≡ kept i
    after-no e = ap (λ (ps : List ℕ). add_batches held (batches_for ih ps) s.dropped) (backs-no to call s rooms i q e)

    -- it gets a note

    pub after-want : wants_note to call.rooms.now.links id s i ≡ true → length (kept i) < 4096 → kept (i + 1) ≡ kept i ++ (note p id round ∷ [])
    unfolding wants_note add_note record_full
    after-want w short =
        let b : Bool = hands_back to call.rooms.now.links i in
        let full : Bool = leb 256 (count (for_peer p) s.dropped) in
        let there : Bool = any (notes p id) s.dropped in
        let n : full || there ≡ false = not-true (full || there) (and_right b (not (full || there)) w) in
        after-yes (and_left b (not (full || there)) w)
        ∙ (λ k. if not ((ap (leb 256) agree.counted ∙ or-false-left full there n) k || lt-leb 4096 (length (kept i)) short k) && cached k && not ((agree.noted id ∙ or-false-right full there n) k)
        then kept i ++ (note p id round ∷ []) else kept i)

    -- or none

    pub after-full : 4096 ≤ length (kept i) → kept (i + 1) ≡ kept i
    unfolding add_note record_full
    after-full long =
        cases (hands_back to call.rooms.now.links i)
        (λ e. after-yes e ∙ picked (record_full p (kept i)) (held id) (any (notes p id) (kept i)) (kept i) _ (on (leb 256 (count (for_peer p) (kept i))) (any (notes p id) (kept i)) (le-leb 4096 (length (kept i)) long)))
        after-no
      where
        on : (a d : Bool) → leb 4096 (length (kept i)) ≡ true → ((a || leb 4096 (length (kept i))) || d) ≡ true
        on true d e = refl
        on false d e = ap (λ (x : Bool). x || d) e

    pub after-pass : wants_note to call.rooms.now.links id s i ≡ false → kept (i + 1) ≡ kept i
    unfolding wants_note add_note record_full
    after-pass w =
        let full : Bool = leb 256 (count (for_peer p) s.dropped) in
        let there : Bool = any (notes p id) s.dropped in
        cases (hands_back to call.rooms.now.links i)
        (λ e.
        let o : full || there ≡ true = not-false (full || there) (sym (ap (λ (b : Bool). b && not (full || there)) e) ∙ w) in
        let o' : leb 256 (count (for_peer p) (kept i)) || any (notes p id) (kept i) ≡ true = (λ k. leb 256 (agree.counted k) || agree.noted id k) ∙ o in
        after-yes e ∙ picked (record_full p (kept i)) (held id) (any (notes p id) (kept i)) (kept i) _ (or-in (leb 256 (count (for_peer p) (kept i))) (any (notes p id) (kept i)) (leb 4096 (length (kept i))) o'))
        after-no

-- after i links these get a note
abbrev pub Noted : Call → LinkSet → ℕ → State → ℕ → List ℕ → Type 0
Noted call to id s i ls = (held : ℕ → Bool) (round : ℕ) → held id ≡ true → add_batches held (batches_for (record { id = id; round = round }) (backs_to to call s i)) s.dropped ≡ with_these ls id round s

module _ (call : Call) (to : LinkSet) (id : ℕ) (s : State) (rest : AtRest s) where
  pub noted-none : Noted call to id s 0 []
  noted-none held round c = none-kept held call to id round s rest c ∙ sym (append-nil s.dropped)

  module _ (i : ℕ) (ls : List ℕ) (so : Noted call to id s i ls) where
    long : (held : ℕ → Bool) (round : ℕ) → held id ≡ true → length (add_batches held (batches_for (record { id = id; round = round }) (backs_to to call s i)) s.dropped) ≡ length s.dropped + length ls
    long held round c = ap length (so held round c) ∙ omega (arith, length-append s.dropped (map (note_of s id round) ls), length-map ls (note_of s id round))

    module _ (q : i < length s.links) where
      pub noted-more : wants_note to call.rooms.now.links id s i ≡ true → length s.dropped + length ls < 4096 → Noted call to id s (i + 1) (ls ++ (i ∷ []))
      noted-more w r held round c =
          after-want held call to id round s rest c i q w (omega (arith, long held round c))
          ∙ ap (λ (ds : List Note). ds ++ (note_of s id round i ∷ [])) (so held round c)
          ∙ append_assoc s.dropped (map (note_of s id round) ls) (note_of s id round i ∷ [])
          ∙ ap (λ (ds : List Note). s.dropped ++ ds) (sym (map-append (note_of s id round) ls (i ∷ [])))

      pub noted-full : 4096 ≤ length s.dropped + length ls → Noted call to id s (i + 1) ls
      noted-full r held round c = after-full held call to id round s rest c i q (omega (arith, long held round c)) ∙ so held round c

      pub noted-pass : wants_note to call.rooms.now.links id s i ≡ false → Noted call to id s (i + 1) ls
      noted-pass w held round c = after-pass held call to id round s rest c i q w ∙ so held round c

    pub noted-all : i ≡ length s.links → length s.links ≤ 32 → AllBelow to (length s.links) → (held : ℕ → Bool) (round : ℕ) → held id ≡ true → record_back held call to id round s ≡ with_these ls id round s
    noted-all e q b held round c = all-kept held call to id round s rest c i e q b ∙ so held round c

-- where none hands it back, the record stays
module _ (call : Call) (to : LinkSet) (s : State) where
  -- those among the first i links that hand it back
  abbrev pub first_backs : ℕ → List ℕ
  first_backs i = backs_to to call s i

  pub no-backs-start : first_backs 0 ≡ []
  no-backs-start = backs-none to call s

  pub no-backs-more : AtRest s → (i : ℕ) → i < length s.links → hands_back to call.rooms.now.links i ≡ false → first_backs i ≡ [] → first_backs (i + 1) ≡ []
  no-backs-more rest i q e none = backs-no to call s (rest-roomed s call rest) i q e ∙ none

  pub no-backs-all : (i : ℕ) → i ≡ length s.links → length s.links ≤ 32 → AllBelow to (length s.links) → first_backs i ≡ [] → push_backs call to s ≡ []
  no-backs-all i e q b none = sym (backs-all to call s i e q b) ∙ none

  pub none-back : (id : ℕ) (noted : LinkSet) → links_of noted ≡ [] → AllBelow noted 0 → push_backs call to s ≡ [] → NotedAre call to id s noted
  none-back id noted e b none = record {
    below = below-wider noted 0 (length s.links) b (omega arith);
    same = λ held round _.
        ap (λ (ps : List ℕ). add_batches held (batches_for (record { id = id; round = round }) ps) s.dropped) none
        ∙ for-none held (record { id = id; round = round }) s.dropped
        ∙ sym (append-nil s.dropped) ∙ ap (λ (ls : List ℕ). with_these ls id round s) (sym e);
  }

-- what a push leaves is what is noted
pub noted-back : (call : Call) (to : LinkSet) (id round : ℕ) (s : State) (ls : List ℕ)
    → record_back (cached_in s.cache) call to id round s ≡ with_these ls id round s → these_noted ls id round s ≡ pushed_state (rooms_of call s) (link_peers to s) (record { id = id; round = round }) s
unfolding pushed_state recorded_state
noted-back call to id round s ls f = ap (λ (ds : List Note). standing (with_dropped ds s)) (sym f)

pub these-length : (ls : List ℕ) (id round : ℕ) (s : State) → length (with_these ls id round s) ≡ length s.dropped + length ls
these-length ls id round s = omega (arith, length-append s.dropped (map (note_of s id round) ls), length-map ls (note_of s id round))
