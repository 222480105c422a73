-- The notes of a lazy push, link by link, and how many they are.
-- Assumes nothing.
use Rattle.steps.proofs.Words.{◌≡◌, ℕ, suc, ◌+◌, ◌<◌, ◌≤◌, length, sym, ◌∙◌, ap, refl, arith, get_or, Bool, true, false, List, [], ◌∷◌, ◌++◌, take, map, append_assoc, length-append, add-one, drop, not, ◌&&◌, if◌then◌else◌, ◌==◌, count_by, cond, eqb, map-append, take-append-drop, Entry, entry, Mark, Links, eager, lazy, quiet, is_lazy, State, Note, with_queue, with_dispatch_scheduled, link_at, queue_also, numbered_link}
use Rattle.std.proofs.Common.{filter}
use lib.ListN.{get_or-map}
use Rattle.std.proofs.lemmas.List.Sums.{sum_by-cons}
use Rattle.std.proofs.lemmas.List.Elements.{filter-append}
use Rattle.storage.specs.Lists.Base.{filter as filter_of}
use Rattle.decide.specs.StateAfter.{lazy_state}
use Rattle.protocol.specs.Push.{note_for}
use Rattle.std.proofs.Math.Seq.{take-suc, take_all}
use Rattle.std.proofs.lemmas.Grind.{common_steps}
use Rattle.protocol.specs.Links.{lazy_peers, peers_marked}
use Rattle.steps.specs.LazyPush.{lazy_target}
use Rattle.block.specs.Views.{links_from}
use Rattle.block.specs.declared.links.NumberedLink.{NumberedLink}

-- the note of a link
abbrev note_of : ℕ → ℕ → Entry Mark → Note
note_of id round e = record { peer = e.key; id = id; round = round }

-- the notes of those links to which the push goes
abbrev lazy_notes : ℕ → ℕ → ℕ → Links → List Note
lazy_notes id round sender l = map (note_of id round) (filter (lazy_target sender) l)

-- they stand behind the queue
abbrev pub lazy_queued : ℕ → ℕ → ℕ → Links → State → State
lazy_queued id round sender l s = with_queue (s.queue ++ lazy_notes id round sender l) s

module _ (id round sender : ℕ) where
  pub lazy-more : (l : Links) (i : ℕ) → i < length l → lazy_target sender (get_or l i (entry 0 eager)) ≡ true
      → lazy_notes id round sender (take (i + 1) l) ≡ lazy_notes id round sender (take i l) ++ (note_of id round (get_or l i (entry 0 eager)) ∷ [])
  lazy-more l i q t = rw (add-one, take-suc l i (entry 0 eager) q) (grind (arith, common_steps))

  pub lazy-same : (l : Links) (i : ℕ) → i < length l → lazy_target sender (get_or l i (entry 0 eager)) ≡ false
      → lazy_notes id round sender (take (i + 1) l) ≡ lazy_notes id round sender (take i l)
  lazy-same l i q t = rw (add-one, take-suc l i (entry 0 eager) q) (grind (arith, common_steps))

  -- no more notes for some of the links than for all
  fewer : (l : Links) (i : ℕ) → length (lazy_notes id round sender (take i l)) ≤ length (lazy_notes id round sender l)
  fewer l i = omega (
    arith,
    ap (λ (m : Links). length (lazy_notes id round sender m)) (take-append-drop i l),
    ap (λ (m : Links). length (map (note_of id round) m)) (filter-append (lazy_target sender) (take i l) (drop i l)),
    ap length (map-append (note_of id round) (filter (lazy_target sender) (take i l)) (filter (lazy_target sender) (drop i l))),
    length-append (lazy_notes id round sender (take i l)) (lazy_notes id round sender (drop i l)),
  )

  -- they are those of the definition
  lazy-all : (l : Links) → lazy_notes id round sender l ≡ note_for (filter_of (λ p. not (eqb p sender)) (lazy_peers l)) id round
  unfolding lazy_peers peers_marked note_for filter_of
  lazy-all [] = refl
  lazy-all (e ∷ l) = each (lazy-all l) e.key e.value
    where
      one : lazy_notes id round sender l ≡ note_for (filter_of (λ p. not (eqb p sender)) (lazy_peers l)) id round → (k : ℕ) (m : Mark) (b : Bool) → map (note_of id round) (if not b then entry k m ∷ filter (lazy_target sender) l else filter (lazy_target sender) l)
          ≡ note_for (if not b then k ∷ filter_of (λ p. not (eqb p sender)) (lazy_peers l) else filter_of (λ p. not (eqb p sender)) (lazy_peers l)) id round
      one all k m true = all
      one all k m false = ap (λ (ns : List Note). record { peer = k; id = id; round = round } ∷ ns) all

      each : lazy_notes id round sender l ≡ note_for (filter_of (λ p. not (eqb p sender)) (lazy_peers l)) id round → (k : ℕ) (m : Mark) → lazy_notes id round sender (entry k m ∷ l) ≡ note_for (filter_of (λ p. not (eqb p sender)) (peers_marked is_lazy (entry k m ∷ l))) id round
      each all k eager = all
      each all k lazy = one all k lazy (eqb k sender)
      each all k quiet = one all k quiet (eqb k sender)

  queue_all : (s : State) → (lazy_state id round sender s).queue ≡ s.queue ++ lazy_notes id round sender s.links
  unfolding lazy_state
  queue_all s = ap (λ (ns : List Note). s.queue ++ ns) (sym (lazy-all s.links))

  queue-longer : (s : State) → length (lazy_state id round sender s).queue ≡ length s.queue + length (lazy_notes id round sender s.links)
  queue-longer s = ap (λ (ns : List Note). length ns) (queue_all s) ∙ length-append s.queue (lazy_notes id round sender s.links)

  -- after the first i links the state t
  module _ (s t : State) (i : ℕ) (e : t ≡ lazy_queued id round sender (take i s.links) s) (b : i < length s.links) where
    same-link : link_at t i ≡ link_at s i
    same-link = ap (λ (t : State). link_at t i) e

    pub lazy-room : lazy_target sender (link_at t i) ≡ true → length (lazy_state id round sender s).queue ≤ s.limits.Q → length t.queue < t.limits.Q
    lazy-room y r = omega (
      arith,
      r,
      queue-longer s,
      ap (λ (t : State). length t.queue) e,
      ap (λ (t : State). t.limits.Q) e,
      length-append s.queue (lazy_notes id round sender (take i s.links)),
      ap length (lazy-more s.links i b (ap (lazy_target sender) (sym same-link) ∙ y)),
      length-append (lazy_notes id round sender (take i s.links)) (note_of id round (link_at s i) ∷ []),
      fewer s.links (i + 1),
    )

    pub lazy-take : lazy_target sender (link_at t i) ≡ true → queue_also i id round t ≡ lazy_queued id round sender (take (i + 1) s.links) s
    lazy-take y = ap (queue_also i id round) e ∙ ap (λ (q : List Note). with_queue q s) (append_assoc s.queue (lazy_notes id round sender (take i s.links)) _
        ∙ ap (λ (q : List Note). s.queue ++ q) (ap (λ (p : ℕ). lazy_notes id round sender (take i s.links) ++ (record { peer = p; id = id; round = round } ∷ [])) (get_or-map (λ (e : Entry Mark). e.key) s.links i (entry 0 eager))
        ∙ sym (lazy-more s.links i b (ap (lazy_target sender) (sym same-link) ∙ y))))

    pub lazy-skip : lazy_target sender (link_at t i) ≡ false → t ≡ lazy_queued id round sender (take (i + 1) s.links) s
    lazy-skip y = e ∙ ap (λ (q : List Note). with_queue (s.queue ++ q) s) (sym (lazy-same s.links i b (ap (lazy_target sender) (sym same-link) ∙ y)))

  pub lazy-end : (s t : State) (i : ℕ) → t ≡ lazy_queued id round sender (take i s.links) s → length s.links ≤ i → with_dispatch_scheduled true t ≡ lazy_state id round sender s
  unfolding lazy_state
  lazy-end s t i e b = ap (with_dispatch_scheduled true) (e ∙ ap (λ (l : Links). lazy_queued id round sender l s) (take_all i s.links b) ∙ ap (λ (ns : List Note). with_queue (s.queue ++ ns) s) (lazy-all s.links))

  -- how many they are
  count-notes : (i : ℕ) (l : Links) → count_by (λ k. not k.eager && not (k.peer == sender)) (links_from i l) ≡ length (lazy_notes id round sender l)
  unfolding links_from
  count-notes i [] = refl
  count-notes i (e ∷ l) = sum_by-cons (λ (k : NumberedLink). cond (not k.eager && not (k.peer == sender)) 1 0) (numbered_link i e) (links_from (suc i) l) ∙ on (lazy_target sender e) (count-notes (suc i) l)
    where
      on : (b : Bool) → count_by (λ k. not k.eager && not (k.peer == sender)) (links_from (suc i) l) ≡ length (lazy_notes id round sender l)
          → cond b 1 0 + count_by (λ k. not k.eager && not (k.peer == sender)) (links_from (suc i) l) ≡ length (map (note_of id round) (if b then e ∷ filter (lazy_target sender) l else filter (lazy_target sender) l))
      on true h = omega (arith, h)
      on false h = omega (arith, h)

  pub lazy-more-queued : (s : State) → length s.queue + count_by (λ k. not k.eager && not (k.peer == sender)) (links_from 0 s.links) ≡ length (lazy_state id round sender s).queue
  lazy-more-queued s = omega (arith, queue-longer s, count-notes 0 s.links)
