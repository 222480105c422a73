-- Count and answer are those of the rows passed.
use Rattle.block.proofs.Words.{◌≡◌, refl, sym, ap, ◌∙◌, Bool, true, false, ◌&&◌, ℕ, ◌+◌, ◌<◌, eq-eqb, ne_eqb, eqb, length, take, get_or, take_all, arith, rules, id_of, keys, State, Note, up_of}
use lib.ListN.{length-map}
use Rattle.storage.specs.Lists.Base.{count, any}
use Rattle.protocol.specs.Push.{for_peer, notes}
use Rattle.block.specs.LinkSteps.{peer_at}
use Rattle.block.specs.NoteSteps.{note}
use Rattle.block.specs.Views.{shown}
use Rattle.storage.proofs.ListsLaws.Firsts.{count-keep, count-drop}
use Rattle.block.proofs.Scans.{keys-apart, any-keep, any-drop}
use Rattle.block.proofs.panel.View.scan_dropped.Goals as goal
use Rattle.block.proofs.panel.View.scan_dropped.Goals.{Joined-note_link-link, then-note_link-link+then-eq, then-note_link-link+else-eq, else-note_link-link}

pub loop-row-init : goal.loop-row-init
unfolding count any
loop-row-init c = record { within = search rules; count = refl; noted = refl }

both : (a b : Bool) (t : Bool) → a ≡ true → b ≡ t → (a && b) ≡ t
both a b t x y = (λ k. x k && y k)

neither : (a b : Bool) → a ≡ false → (a && b) ≡ false
neither a b x = (λ k. x k && b)

-- the row whose link number was read, and the two tests of it
module _ (d : Joined-note_link-link) where
  abbrev s : State
  s = shown d.args.self.now

  abbrev p : ℕ
  p = peer_at s d.args.link

  abbrev who : ℕ
  who = id_of d.args.id

  abbrev i : ℕ
  i = d.loop-row.row

  abbrev e : Note
  e = get_or s.dropped i (note 0 0 0)

  here : i < length s.dropped
  here = omega (arith, d.record_len-row-end.ensures.long, d.loop-row-test.true)

  is-for : d.note_link.result ≡ d.args.link → eqb e.peer p ≡ true
  is-for t = eq-eqb e.peer p (d.note_link.ensures.peer ∙ ap (peer_at s) t)

  is-not : (d.note_link.result ≡ d.args.link → ⊥) → eqb e.peer p ≡ false
  is-not t =
      let k : length (keys s.links) ≡ length s.links = length-map s.links (λ x. x.key) in
      let r : d.note_link.result < length s.links = d.note_link.ensures.below in
      ne_eqb e.peer p (λ z. keys-apart (keys s.links) d.note_link.result d.args.link (up_of (keys s.links) d.requires.0) (omega arith) (omega (arith, d.requires.1)) t (sym d.note_link.ensures.peer ∙ z))

  -- one note more for the link, and none more
  one-more : d.note_link.result ≡ d.args.link → d.loop-row.count + 1 ≡ count (for_peer p) (take (i + 1) s.dropped)
  one-more t = ap (λ (n : ℕ). n + 1) d.loop-row.invariant.count ∙ sym (count-keep (for_peer p) i (note 0 0 0) s.dropped here (is-for t))

  no-more : (d.note_link.result ≡ d.args.link → ⊥) → d.loop-row.count ≡ count (for_peer p) (take (i + 1) s.dropped)
  no-more t = d.loop-row.invariant.count ∙ sym (count-drop (for_peer p) i (note 0 0 0) s.dropped here (is-not t))

  -- no note of the identifier more
  as-noted : notes p who e ≡ false → d.loop-row.noted ≡ any (notes p who) (take (i + 1) s.dropped)
  as-noted t = d.loop-row.invariant.noted ∙ sym (any-drop (notes p who) i (note 0 0 0) s.dropped here t)

pub loop-row-preserved : goal.loop-row-preserved
loop-row-preserved c =
    elim c.if-note_link-link.branch [
      | then-note_link-link+then-eq w ↦
          let t : eqb (e c).id (who c) ≡ true = (λ k. eqb (w.recorded.ensures.same k).id (who c)) ∙ sym w.eq.ensures ∙ w.if-eq.true in
          record {
            within = omega (arith, w.count-is, c.loop-row.invariant.within);
            count = w.count-is ∙ one-more c w.if-note_link-link.true;
            noted = w.noted-is ∙ sym (any-keep (notes (p c) (who c)) (i c) (note 0 0 0) (s c).dropped (here c) (both (eqb (e c).peer (p c)) (eqb (e c).id (who c)) true (is-for c w.if-note_link-link.true) t));
          }
      | then-note_link-link+else-eq w ↦
          let t : eqb (e c).id (who c) ≡ false = (λ k. eqb (w.recorded.ensures.same k).id (who c)) ∙ sym w.eq.ensures ∙ w.if-eq.false in
          record {
            within = omega (arith, w.count-is, c.loop-row.invariant.within);
            count = w.count-is ∙ one-more c w.if-note_link-link.true;
            noted = w.noted-is ∙ as-noted c (both (eqb (e c).peer (p c)) (eqb (e c).id (who c)) false (is-for c w.if-note_link-link.true) t);
          }
      | else-note_link-link w ↦
          record {
            within = omega (arith, w.count-is, c.loop-row.invariant.within);
            count = w.count-is ∙ no-more c w.if-note_link-link.false;
            noted = w.noted-is ∙ as-noted c (neither (eqb (e c).peer (p c)) (eqb (e c).id (who c)) (is-not c w.if-note_link-link.false));
          }
    ]

pub returns : goal.returns
returns c =
    let s = shown c.args.self.now in
    let p = peer_at s c.args.link in
    let l = c.loop-row in
    let all : take l.row s.dropped ≡ s.dropped = take_all l.row s.dropped (omega (arith, c.record_len-row-end.ensures.long, c.loop-row-test.false)) in
    record { count = l.invariant.count ∙ ap (count (for_peer p)) all; noted = l.invariant.noted ∙ ap (any (notes p (id_of c.args.id))) all }
