-- `by_link::next_of`: no note from `from` up to i is for the link.
use Rattle.alike.proofs.Words.{◌≡◌, refl, sym, ap, ◌∙◌, true, false, List, ℕ, ◌<◌, arith, eq-eqb, ne_eqb, length, drop, get_or, rules, Entry, keys, State, Note, shown, peer_at, note, notes_of, count_of}
use lib.ListN.{length-map}
use Rattle.storage.specs.Lists.Base.{filter}
use Rattle.time_cache.proofs.Orders.{up_of}
use Rattle.protocol.specs.Links.{Mark}
use Rattle.protocol.specs.Push.{for_peer}
use Rattle.block.specs.declared.note.NoteTable.{NoteTable}
use Rattle.block.specs.declared.panel.View.{View}
use Rattle.block.proofs.NoteLaws.{count-notes}
use Rattle.block.proofs.Scans.{keys-apart}
use Rattle.alike.proofs.ByLink.{other-first}
use Rattle.alike.proofs.by_link.next_of.Goals as goal
use Rattle.alike.proofs.by_link.next_of.Goals.{After-count-n, After-note_link, Start}

-- how many notes there are
count : (v : View) (of : NoteTable) → length (notes_of of (shown v)) ≡ count_of of v.head.now.live
count v of = count-notes v.head.now v.block.now v.sound of

pub loop-i-init : goal.loop-i-init
loop-i-init c = (omega arith, omega (arith, c.requires.2, count c.args.view.now c.args.of.table, c.count-n.ensures), refl)

pub note_link-requires : goal.note_link-requires
note_link-requires c = omega (arith, count c.args.view.now c.args.of.table, c.loop-i-test.true, c.count-n.ensures)

-- note i, whose link number was read
module _ (d : After-note_link) where
  abbrev f : After-count-n
  f = (goal.at.After-note_link d).After-count-n

  abbrev s : Start
  s = (goal.at.After-count-n f).Start

  abbrev st : State
  st = shown s.args.view.now

  abbrev ns : List Note
  ns = notes_of s.args.of.table st

  abbrev p : ℕ
  p = peer_at st s.args.of.link

  abbrev i : ℕ
  i = d.loop-i.i

  abbrev e : Note
  e = get_or ns i (note 0 0 0)

  here : i < length ns
  here = omega (arith, count s.args.view.now s.args.of.table, d.loop-i-test.true, f.count-n.ensures)

  is-for : d.note_link.result ≡ s.args.of.link → for_peer p e ≡ true
  is-for t = eq-eqb e.peer p (d.note_link.ensures.peer ∙ ap (peer_at st) t)

  is-not : (d.note_link.result ≡ s.args.of.link → ⊥) → for_peer p e ≡ false
  is-not t =
      let k : length (keys st.links) ≡ length st.links = length-map st.links (λ (x : Entry Mark). x.key) in
      let r : d.note_link.result < length st.links = d.note_link.ensures.below in
      ne_eqb e.peer p (λ z. keys-apart (keys st.links) d.note_link.result s.args.of.link (up_of (keys st.links) s.requires.0) (omega arith) (omega (arith, s.requires.1)) t (sym d.note_link.ensures.peer ∙ z))

pub returns-then-note_link-of : goal.returns-then-note_link-of
returns-then-note_link-of c =
    let v = c.loop-i.invariant in
    let w = here (goal.at.returns-then-note_link-of c).After-note_link in
    record { after = v.0; within = omega (arith, w); passed = v.2; found = λ h. is-for (goal.at.returns-then-note_link-of c).After-note_link c.if-note_link-of.true }

pub loop-i-preserved : goal.loop-i-preserved
loop-i-preserved c =
    let v = c.loop-i.invariant in
    (search rules, search rules, v.2 ∙ other-first (p (goal.at.loop-i-preserved c).After-note_link) (ns (goal.at.loop-i-preserved c).After-note_link) (i (goal.at.loop-i-preserved c).After-note_link) (here (goal.at.loop-i-preserved c).After-note_link) (is-not (goal.at.loop-i-preserved c).After-note_link c.if-note_link-of.false))

pub returns : goal.returns
returns c =
    let l = c.loop-i in
    let a = c.args in
    let n = count a.view.now a.of.table in
    let at : l.i ≡ c.count-n.result = omega (arith, c.loop-i-test.false, l.invariant.1) in
    record {
      after = omega (arith, l.invariant.0, l.invariant.1);
      within = omega (arith, n, c.count-n.ensures);
      passed = l.invariant.2 ∙ ap (λ (k : ℕ). filter (for_peer (peer_at (shown a.view.now) a.of.link)) (drop k (notes_of a.of.table (shown a.view.now)))) at;
      found = λ h. absurd (omega (arith, n, c.count-n.ensures, h));
    }
