-- The record gets a note of an identifier for each of some links, one after the other.
-- Assumes nothing.
use Rattle.steps.proofs.Words.{◌≡◌, ℕ, ◌+◌, ◌<◌, ◌≤◌, [], ◌∷◌, ◌++◌, length, ap, sym, ◌∙◌, arith, List, map, true, false, length-append, append-nil, append_assoc, map-append, State, Note, with_dropped, note, peer_at}
use Rattle.std.proofs.lemmas.List.{length-map}
use Rattle.steps.specs.LinkSets.{has_link, links_below, links_of, AllBelow}
use Rattle.steps.specs.Record.{note_of, with_these}
use Rattle.steps.specs.declared.link_set.LinkSet.{LinkSet}
use Rattle.steps.proofs.LinkSetLaws.{below-start, below-in, below-out, below-of, below-few}

-- the notes alone
abbrev pub noting : List ℕ → ℕ → ℕ → State → State
noting ls id round s = with_dropped (with_these ls id round s) s

module _ (set : LinkSet) (id round : ℕ) (s : State) where
  -- those of the first i links
  abbrev pub noted_to : ℕ → State
  noted_to i = noting (links_below set i) id round s

  pub noting-none : s ≡ noted_to 0
  noting-none = sym (ap (λ (ls : List ℕ). noting ls id round s) (below-start set) ∙ ap (λ (ds : List Note). with_dropped ds s) (append-nil s.dropped))

  pub noting-out : (i : ℕ) → has_link set i ≡ false → noted_to i ≡ noted_to (i + 1)
  noting-out i e = ap (λ (ls : List ℕ). noting ls id round s) (sym (below-out set i e))

  pub noting-in : (i : ℕ) → has_link set i ≡ true → with_dropped ((noted_to i).dropped ++ (note (peer_at s i) id round ∷ [])) s ≡ noted_to (i + 1)
  noting-in i e =
      ap (λ (ds : List Note). with_dropped ds s)
      (append_assoc s.dropped (map (note_of s id round) (links_below set i)) (note_of s id round i ∷ [])
      ∙ ap (λ (ds : List Note). s.dropped ++ ds) (sym (map-append (note_of s id round) (links_below set i) (i ∷ []))))
      ∙ ap (λ (ls : List ℕ). noting ls id round s) (sym (below-in set i e))

  pub noting-all : (n : ℕ) → AllBelow set n → n ≤ 32 → noted_to n ≡ noting (links_of set) id round s
  noting-all n b q = ap (λ (ls : List ℕ). noting ls id round s) (below-of set n b q)

  pub record-room : (i : ℕ) → i < 32 → has_link set i ≡ true → length s.dropped + length (links_of set) ≤ s.limits.D → length (noted_to i).dropped < s.limits.D
  record-room i q e r =
      omega (
        arith,
        r,
        length-append s.dropped (map (note_of s id round) (links_below set i)),
        length-map (links_below set i) (note_of s id round),
        ap length (below-in set i e),
        length-append (links_below set i) (i ∷ []),
        below-few set (i + 1) (omega (arith, q)),
      )
