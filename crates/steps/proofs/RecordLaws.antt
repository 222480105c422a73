-- `note_dropped` of one cached identifier.
-- Assumes nothing.
use Rattle.steps.proofs.Words.{◌≡◌, ℕ, ◌≤◌, ◌<◌, length, sym, ◌∙◌, ap, refl, Bool, true, false, not, ◌&&◌, ◌||◌, List, [], ◌∷◌, ◌++◌, le-leb, leb, if◌then◌else◌, Option, Some, None, any, count, true≢, lookup, Timed, Cache, holds, State, Note, with_dropped, peer_at, note, drop_also, standing}
use Rattle.std.proofs.Common.{is_some}
use borrow.Author.Tests.{lt-leb}
use Rattle.time_cache.specs.TimeCache.{get, value_of}
use Rattle.protocol.specs.Push.{for_peer, notes, record_full}
use Rattle.decide.specs.RecordGrowth.{add_note}
use Rattle.decide.specs.StateAfter.{recorded_state}
use Rattle.steps.specs.Pushes.Noted.{noted, noted_state}
use Rattle.steps.specs.Record.{takes_note}

-- the tests, one by one
module _ (p id : ℕ) (ds : List Note) where
  or-true : (a : Bool) → (a || true) ≡ true
  or-true true = refl
  or-true false = refl

  pub takes-open : count (for_peer p) ds < 256 → length ds < 4096 → takes_note p id ds ≡ not (any (notes p id) ds)
  unfolding record_full
  takes-open c l = λ k. not (lt-leb 256 (count (for_peer p) ds) c k || lt-leb 4096 (length ds) l k) && not (any (notes p id) ds)

  pub takes-peer : 256 ≤ count (for_peer p) ds → takes_note p id ds ≡ false
  unfolding record_full
  takes-peer c = λ k. not (le-leb 256 (count (for_peer p) ds) c k || leb 4096 (length ds)) && not (any (notes p id) ds)

  pub takes-all : 4096 ≤ length ds → takes_note p id ds ≡ false
  unfolding record_full
  takes-all l = ap (λ (b : Bool). not (leb 256 (count (for_peer p) ds) || b) && not (any (notes p id) ds)) (le-leb 4096 (length ds) l) ∙ ap (λ (b : Bool). not b && not (any (notes p id) ds)) (or-true (leb 256 (count (for_peer p) ds)))

-- what is found is there
pub holds_found : {A : Type 0} (id : ℕ) (c : Cache A) (x : A) → get id c ≡ Some x → holds id c ≡ true
unfolding get value_of
holds_found {A} id c x e = on (lookup id c.entries) e
  where
    on : (o : Option (Timed A)) → value_of o ≡ Some x → is_some o ≡ true
    on None e = true≢ (ap is_some e)
    on (Some t) e = refl

and-mid : (a b : Bool) → (a && true && b) ≡ (a && b)
and-mid true b = refl
and-mid false b = refl

-- the record then
module _ (l id round : ℕ) (s : State) (cached : holds id s.cache ≡ true) where
  pub noted-yes : takes_note (peer_at s l) id s.dropped ≡ true → noted l id round s ≡ s.dropped ++ (note (peer_at s l) id round ∷ [])
  unfolding add_note
  noted-yes t = (λ k. if not (record_full (peer_at s l) s.dropped) && cached k && not (any (notes (peer_at s l) id) s.dropped) then s.dropped ++ (note (peer_at s l) id round ∷ []) else s.dropped)
      ∙ ap (λ (b : Bool). if b then s.dropped ++ (note (peer_at s l) id round ∷ []) else s.dropped) (and-mid (not (record_full (peer_at s l) s.dropped)) (not (any (notes (peer_at s l) id) s.dropped)))
      ∙ ap (λ (b : Bool). if b then s.dropped ++ (note (peer_at s l) id round ∷ []) else s.dropped) t

  pub noted-no : takes_note (peer_at s l) id s.dropped ≡ false → noted l id round s ≡ s.dropped
  unfolding add_note
  noted-no t = (λ k. if not (record_full (peer_at s l) s.dropped) && cached k && not (any (notes (peer_at s l) id) s.dropped) then s.dropped ++ (note (peer_at s l) id round ∷ []) else s.dropped)
      ∙ ap (λ (b : Bool). if b then s.dropped ++ (note (peer_at s l) id round ∷ []) else s.dropped) (and-mid (not (record_full (peer_at s l) s.dropped)) (not (any (notes (peer_at s l) id) s.dropped)))
      ∙ ap (λ (b : Bool). if b then s.dropped ++ (note (peer_at s l) id round ∷ []) else s.dropped) t

  -- and the state
  as_standing : noted_state l id round s ≡ standing (with_dropped (noted l id round s) s)
  unfolding noted_state recorded_state
  as_standing = refl

  pub state-yes : takes_note (peer_at s l) id s.dropped ≡ true → standing (drop_also l id round s) ≡ noted_state l id round s
  state-yes t = sym (as_standing ∙ ap (λ (ds : List Note). standing (with_dropped ds s)) (noted-yes t))

  pub state-no : takes_note (peer_at s l) id s.dropped ≡ false → standing s ≡ noted_state l id round s
  state-no t = sym (as_standing ∙ ap (λ (ds : List Note). standing (with_dropped ds s)) (noted-no t))
