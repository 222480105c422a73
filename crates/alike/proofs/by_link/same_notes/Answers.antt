-- `by_link::same_notes`: the notes of the first l links agree.
use Rattle.alike.proofs.Words.{not, ◌≡◌, sym, ap, ◌∙◌, true, List, ℕ, ◌<◌, arith, below_more, length, get_or, rules, no, yes, Entry, Note, shown, peer_at, notes_of}
use lib.ListN.{length-map}
use Rattle.protocol.specs.Links.{Mark}
use Rattle.alike.specs.NoteTable.{same_for}
use Rattle.alike.proofs.ByLink.{notes-no, notes-yes}
use Rattle.alike.proofs.by_link.same_notes.Goals as goal
use Rattle.alike.proofs.by_link.same_notes.Goals.{Start}

-- the links are the same
module _ (s : Start) where
  abbrev xs : List Note
  xs = notes_of s.args.table (shown s.args.x.now)

  abbrev ys : List Note
  ys = notes_of s.args.table (shown s.args.y.now)

  same-many : length (shown s.args.x.now).links ≡ length (shown s.args.y.now).links
  same-many = sym (length-map (shown s.args.x.now).links (λ (e : Entry Mark). e.key)) ∙ ap length s.requires.same_links ∙ length-map (shown s.args.y.now).links (λ (e : Entry Mark). e.key)

  same-peer : (l : ℕ) → peer_at (shown s.args.x.now) l ≡ peer_at (shown s.args.y.now) l
  same-peer l = ap (λ (ks : List ℕ). get_or ks l 0) s.requires.same_links

pub same_for-requires : goal.same_for-requires
same_for-requires c =
    let s = (goal.at.same_for-requires c).Start in
    let h : c.loop-link.link < length (shown c.args.x.now).links = omega (arith, c.loop-link-test.true, c.link_count-link-end.ensures) in
    record { up = c.requires.up; there = (h, omega (arith, h, same-many s)); same_peer = same-peer s c.loop-link.link }

pub returns-then-not-same_for : goal.returns-then-not-same_for
returns-then-not-same_for c =
    sym (notes-no (peer_at (shown c.args.x.now) c.loop-link.link) (xs (goal.at.returns-then-not-same_for c).Start) (ys (goal.at.returns-then-not-same_for c).Start) (no c.same_for.ensures (ap not c.if-not-same_for.true)))

pub loop-link-preserved : goal.loop-link-preserved
loop-link-preserved c =
    (search rules, below_more (λ (k : ℕ). same_for (peer_at (shown c.args.x.now) k) (xs (goal.at.loop-link-preserved c).Start) (ys (goal.at.loop-link-preserved c).Start) ≡ true) c.loop-link.link c.loop-link.invariant.1 (yes c.same_for.ensures (ap not c.if-not-same_for.false)))

pub returns : goal.returns
returns c =
    let all : (k : ℕ) → k < length (shown c.args.x.now).links → same_for (peer_at (shown c.args.x.now) k) (xs (goal.at.returns c).Start) (ys (goal.at.returns c).Start) ≡ true =
    λ k h. c.loop-link.invariant.1 k (omega (arith, h, c.loop-link-test.false, c.link_count-link-end.ensures)) in
    sym (notes-yes c.args.table c.args.x.now c.args.y.now all
    (λ k h. ap (λ (q : ℕ). same_for q (xs (goal.at.returns c).Start) (ys (goal.at.returns c).Start)) (sym (same-peer (goal.at.returns c).Start k)) ∙ all k (omega (arith, h, same-many (goal.at.returns c).Start))))
