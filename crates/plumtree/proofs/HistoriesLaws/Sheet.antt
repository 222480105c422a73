-- The commissioning sheet over blocks: each chain goes through the states of the definitions, and these answer the same.
-- Assumes nothing.
use Rattle.plumtree.proofs.Words.{ℕ, ◌≡◌, refl, sym, ap, subst, ◌∙◌, Bool, true, false, ◌&&◌, List, [], ◌∷◌, map, length, if◌then◌else◌, Option, Some, None, cases, true≢, and_left, and_right, and_intro, identifier, State, Counts, Call, Answer, refuse, accept}
use Rattle.storage.specs.Lists.Base.{concat_map}
use Rattle.postcard.specs.Message.{action_bytes}
use Rattle.protocol.specs.Whole.{whole, long_enough, whole_state}
use Rattle.protocol.specs.Answer.{output_of}
use Rattle.protocol.specs.Calls.{Ran, run_calls}
use Rattle.protocol.specs.Alike.{alike, likeness, likeness_of, alike_blocks}
use Rattle.whole.specs.Held.{held}
use Rattle.plumtree.specs.Chain.{Seen, Chain, seen_of}
use Rattle.plumtree.proofs.Guarantee.{Holds, ended}
use Rattle.protocol.specs.AlikeCalls.CommissioningSheet.{number_of, actions_of}
use Rattle.protocol.proofs.AlikeCallsLaws.LikeCalls.{commissioning-sheet}
use Rattle.plumtree.specs.Histories.Sheet.{ToldAlike, SameSeen, CommissioningSheetOfBlocks}

-- what is seen of a call is its number and the bytes of its actions
seen_by : (a : Answer) → seen_of a ≡ record { number = number_of a; bytes = concat_map action_bytes (actions_of a) }
unfolding seen_of number_of actions_of output_of concat_map
seen_by (refuse n) = refl
seen_by (accept e r) = refl

seen_same : (xs ys : List Answer) → map number_of xs ≡ map number_of ys → map actions_of xs ≡ map actions_of ys → map seen_of xs ≡ map seen_of ys
seen_same [] [] m l = refl
seen_same [] (b ∷ ys) m l = let z : false ≡ true = cc in true≢ z
seen_same (a ∷ xs) [] m l = let z : false ≡ true = cc in true≢ z
seen_same (a ∷ xs) (b ∷ ys) m l =
    let n : number_of a ≡ number_of b = cc in
    let x : actions_of a ≡ actions_of b = cc in
    let one : seen_of a ≡ seen_of b = seen_by a ∙ (λ k. record { number = n k; bytes = concat_map action_bytes (x k) }) ∙ sym (seen_by b) in
    let more : map seen_of xs ≡ map seen_of ys = seen_same xs ys (cc) (cc) in
    λ k. one k ∷ more k

-- a block that holds a whole state
record HoldsWhole (block : List ℕ) (s : State) : Type 0 where
  holds : Holds block s
  whole : whole s ≡ true

holds-whole : (block : List ℕ) (o : Option State) (s : State) → held block ≡ o → whole_state (length block) o ≡ Some s → HoldsWhole block s
unfolding whole_state
holds-whole block None s e h = let z : false ≡ true = cc in true≢ z
holds-whole block (Some t) s e h =
    cases (long_enough (length block) t && whole t)
    (λ w. let k : Some t ≡ Some s = rw w at h in
    let q : t ≡ s = cc in
    rw (← q) (record { holds = record { state = e; long = and_left (long_enough (length block) t) (whole t) w }; whole = and_right (long_enough (length block) t) (whole t) w }))
    (λ w. let k : None ≡ Some s = rw w at h in let z : false ≡ true = cc in true≢ z)

whole-held : (block : List ℕ) (s : State) → HoldsWhole block s → whole_state (length block) (held block) ≡ Some s
unfolding whole_state
whole-held block s h =
    ap (whole_state (length block)) h.holds.state
    ∙ ap (λ (b : Bool). if b then Some s else None) (and_intro {a = long_enough (length block) s} {b = whole s} h.holds.long h.whole)

-- the two states of blocks that are told alike, and back
record Pair (a b : List ℕ) : Type 0 where
  first : State
  second : State
  one : HoldsWhole a first
  two : HoldsWhole b second
  same : alike first second ≡ true

pair : (a b : List ℕ) (x y : Option State) → whole_state (length a) (held a) ≡ x → whole_state (length b) (held b) ≡ y → likeness_of x y ≡ likeness true → Pair a b
unfolding likeness_of
pair a b None y e f h = let z : false ≡ true = cc in true≢ z
pair a b (Some s) None e f h = let z : false ≡ true = cc in true≢ z
pair a b (Some s) (Some t) e f h = record { first = s; second = t; one = holds-whole a (held a) s refl e; two = holds-whole b (held b) t refl f; same = let k : alike s t ≡ true = cc in k }

told : (a b : List ℕ) → Pair a b → ToldAlike a b
unfolding alike_blocks likeness_of
told a b p = (λ k. likeness_of (whole-held a p.first p.one k) (whole-held b p.second p.two k)) ∙ ap likeness p.same

sheets : (a b : List ℕ) (c : Counts) → Pair a b → (ks : List Call) (seen seen' : List Seen) (last last' : List ℕ) (n n' : Counts) → Chain a c ks seen last n → Chain b c ks seen' last' n' →
    SameSeen seen seen' last last' n n'
sheets a b c p ks seen seen' last last' n n' x y =
    let u = ended a p.first c ks seen last n p.one.holds x in
    let v = ended b p.second c ks seen' last' n' p.two.holds y in
    let w = (commissioning-sheet identifier).always p.first p.second c c p.one.whole p.two.whole p.same refl ks in
    let r : Ran = run_calls identifier p.first c ks in
    let q : Ran = run_calls identifier p.second c ks in
    record {
      seen = u.answers ∙ seen_same r.answers q.answers w.numbers w.actions ∙ sym v.answers;
      counts = u.counts ∙ w.counts ∙ sym v.counts;
      blocks = told last last' (record {
        first = r.state;
        second = q.state;
        one = record { holds = u.holds; whole = w.first };
        two = record { holds = v.holds; whole = w.second };
        same = w.states;
      });
    }

-- the sheet
pub commissioning-sheet-of-blocks : CommissioningSheetOfBlocks
unfolding alike_blocks
commissioning-sheet-of-blocks = record {
  always = λ a b c d h e ks seen seen' last last' n n' x y.
      sheets a b c (pair a b (whole_state (length a) (held a)) (whole_state (length b) (held b)) refl refl h) ks seen seen' last last' n n' x (subst (λ (z : Counts). Chain b z ks seen' last' n') (sym e) y);
}
