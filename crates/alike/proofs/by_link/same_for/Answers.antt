-- `by_link::same_for`: the notes before the two cursors agree. The measure is n - i.
use Rattle.alike.proofs.Words.{not, ◌≡◌, sym, ap, ◌∙◌, subst, List, ℕ, ◌+◌, ◌<◌, arith, leb, length, get_or, no, yes, State, Note, same_note, shown, peer_at, note, notes_of, count_of}
use Rattle.block.specs.declared.note.Note.{Note as LinkNote}
use Rattle.block.proofs.NoteLaws.{count-notes}
use Rattle.alike.specs.NoteTable.{NextOf}
use Rattle.alike.proofs.ByLink.{Cursors, cursors-short, cursors-differ, cursors-more, cursors-end, same-inside}
use Rattle.alike.proofs.by_link.same_for.Goals as goal
use Rattle.alike.proofs.by_link.same_for.Goals.{After-same_note, At-loop-i, In-loop-i, Start}

-- the two lists, their lengths, and the peer
module _ (s : Start) where
  abbrev sa : State
  sa = shown s.args.x.now

  abbrev sb : State
  sb = shown s.args.y.now

  abbrev p : ℕ
  p = peer_at sa s.args.of.link

  abbrev xs : List Note
  xs = notes_of s.args.of.table sa

  abbrev ys : List Note
  ys = notes_of s.args.of.table sb

  many_xs : length xs ≡ count_of s.args.of.table s.args.x.now.head.now.live
  many_xs = count-notes s.args.x.now.head.now s.args.x.now.block.now s.args.x.now.sound s.args.of.table

  many-ys : length ys ≡ count_of s.args.of.table s.args.y.now.head.now.live
  many-ys = count-notes s.args.y.now.head.now s.args.y.now.block.now s.args.y.now.sound s.args.of.table

  -- what was found in the second list, of the one peer
  in-second : (from r : ℕ) → NextOf (peer_at sb s.args.of.link) from ys r → NextOf p from ys r
  in-second from r h = subst (λ (q : ℕ). NextOf q from ys r) (sym s.requires.same_peer) h

-- in the loop
module _ (d : In-loop-i) where
  abbrev l : At-loop-i
  l = (goal.at.In-loop-i d).At-loop-i

  abbrev s₁ : Start
  s₁ = (goal.at.At-loop-i l).Start

  n-is : l.count-n.result ≡ count_of s₁.args.of.table s₁.args.x.now.head.now.live
  n-is = l.count-n.ensures

  m-is : l.count-m.result ≡ count_of s₁.args.of.table s₁.args.y.now.head.now.live
  m-is = l.count-m.ensures

  more-xs : l.loop-i.i < length (xs s₁)
  more-xs = omega (arith, many_xs s₁, n-is, d.loop-i-test.true)

pub returns-then-m-j : goal.returns-then-m-j
returns-then-m-j c =
    let s = s₁ (goal.at.returns-then-m-j c).In-loop-i in
    cursors-short (p s) (xs s) (ys s) c.loop-i.i c.loop-i.j c.loop-i.invariant (more-xs (goal.at.returns-then-m-j c).In-loop-i) (omega (arith, many-ys s, m-is (goal.at.returns-then-m-j c).In-loop-i, c.if-m-j.true))

pub note_at-requires : goal.note_at-requires
note_at-requires c = omega (arith, many_xs (goal.at.note_at-requires c).Start, c.count-n.ensures, c.loop-i-test.true)

pub note_at-requires-in-loop-i : goal.note_at-requires-in-loop-i
note_at-requires-in-loop-i c = omega (arith, many-ys (goal.at.note_at-requires-in-loop-i c).Start, c.count-m.ensures, c.if-m-j.false)

pub next_of-i-requires-in-loop-i : goal.next_of-i-requires-in-loop-i
next_of-i-requires-in-loop-i c = (c.requires.up.0, c.requires.there.0, omega (arith, many_xs (goal.at.next_of-i-requires-in-loop-i c).Start, c.count-n.ensures, c.loop-i-test.true))

pub next_of-j-requires-in-loop-i : goal.next_of-j-requires-in-loop-i
next_of-j-requires-in-loop-i c = (c.requires.up.1, c.requires.there.1, omega (arith, many-ys (goal.at.next_of-j-requires-in-loop-i c).Start, c.count-m.ensures, c.if-m-j.false))

-- the two notes that were read
module _ (e : After-same_note) where
  abbrev d₁ : In-loop-i
  d₁ = (goal.at.After-same_note e).In-loop-i

  abbrev s₂ : Start
  s₂ = s₁ d₁

  abbrev i₁ : ℕ
  i₁ = d₁.loop-i.i

  abbrev j₁ : ℕ
  j₁ = d₁.loop-i.j

  abbrev inv : Cursors (p s₂) (xs s₂) (ys s₂) i₁ j₁
  inv = d₁.loop-i.invariant

  more-ys : j₁ < length (ys s₂)
  more-ys = omega (arith, many-ys s₂, m-is d₁, e.if-m-j.false)

  compared : same_note (get_or (xs s₂) i₁ (note 0 0 0)) (get_or (ys s₂) j₁ (note 0 0 0)) ≡ e.same_note.result
  compared =
      let x : LinkNote = e.note_at.result in
      let y : LinkNote = e.note_at-in-loop-i.result in
      let u = e.note_at.ensures.same in
      let v = e.note_at-in-loop-i.ensures.same in
      same-inside (p s₂) (get_or (xs s₂) i₁ (note 0 0 0)) (get_or (ys s₂) j₁ (note 0 0 0)) x y (inv.at_first (more-xs d₁)) (inv.at_second more-ys)
      (ap (λ (n : Note). n.id) u) (ap (λ (n : Note). n.round) u) (ap (λ (n : Note). n.id) v) (ap (λ (n : Note). n.round) v)
      ∙ sym e.same_note.ensures

pub returns-then-not-same_note : goal.returns-then-not-same_note
returns-then-not-same_note c =
    let s = s₂ (goal.at.returns-then-not-same_note c).After-same_note in
    cursors-differ (p s) (xs s) (ys s) (i₁ (goal.at.returns-then-not-same_note c).After-same_note) (j₁ (goal.at.returns-then-not-same_note c).After-same_note) (inv (goal.at.returns-then-not-same_note c).After-same_note) (more-xs (d₁ (goal.at.returns-then-not-same_note c).After-same_note)) (more-ys (goal.at.returns-then-not-same_note c).After-same_note) (no (sym (compared (goal.at.returns-then-not-same_note c).After-same_note)) (ap not c.if-not-same_note.true))

pub loop-i-preserved : goal.loop-i-preserved
loop-i-preserved c =
    let s = s₂ (goal.at.loop-i-preserved c).After-same_note in
    cursors-more (p s) (xs s) (ys s) (i₁ (goal.at.loop-i-preserved c).After-same_note) (j₁ (goal.at.loop-i-preserved c).After-same_note) (inv (goal.at.loop-i-preserved c).After-same_note) (more-xs (d₁ (goal.at.loop-i-preserved c).After-same_note)) (more-ys (goal.at.loop-i-preserved c).After-same_note) (yes (sym (compared (goal.at.loop-i-preserved c).After-same_note)) (ap not c.if-not-same_note.false)) c.next_of-i-in-loop-i.result c.next_of-j-in-loop-i.result
    c.next_of-i-in-loop-i.ensures (in-second s (j₁ (goal.at.loop-i-preserved c).After-same_note + 1) c.next_of-j-in-loop-i.result c.next_of-j-in-loop-i.ensures)

pub returns : goal.returns
returns c =
    let n = c.count-n.ensures in
    let m = c.count-m.ensures in
    ap (λ (k : ℕ). leb k c.loop-i.j) (m ∙ sym (many-ys (goal.at.returns c).Start))
    ∙ cursors-end (p (goal.at.returns c).Start) (xs (goal.at.returns c).Start) (ys (goal.at.returns c).Start) c.loop-i.i c.loop-i.j c.loop-i.invariant (omega (arith, many_xs (goal.at.returns c).Start, n, c.loop-i-test.false))
