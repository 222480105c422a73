-- `once_of_link`: the chain of a link has all its rows.
use Rattle.std.proofs.Common.{◌≡◌, sym, ◌∙◌, subst, ℕ, ◌-◌, ◌<◌, get_or, take, length-set, arith}
use Rattle.std.proofs.lemmas.List.{length-replicate, length-take-le, get_or-take}
use Rattle.storage.specs.declared.rows.id.Id.{Id}
use Rattle.storage.specs.Buckets.{id_at, Latest}
use Rattle.storage.specs.Rows.Ident.{id_of}
use Rattle.storage.proofs.NotesLaws.Links.{Collected, collected-start, collected-more, tells-link, too-many, once-none}
use Rattle.storage.proofs.notes.Columns.once_of_link.Goals as goal

pub loop-j-init : goal.loop-j-init
loop-j-init c = (collected-start c.args.self.links.now c.args.self.rows.now c.args.n c.args.link c.args.from _ c.requires.3, length-replicate {A = Id} 256 record { w0 = 0; w1 = 0; w2 = 0; w3 = 0 })

pub loop-j-preserved : goal.loop-j-preserved
unfolding id_at
loop-j-preserved c =
    let l = c.loop-j in
    let cs = c.args.self.links.now in
    let b = c.args.self.rows.now in
    let v = c.load_id.result in
    let p = l.j - 1 in
    let e : id_of v ≡ id_at b p = c.load_id.ensures in
    let some : 0 < l.j = c.loop-j-test.true in
    let r : Latest (λ q. get_or cs q 0) p (get_or cs p 0) c.wide-j.result = subst (λ (x : ℕ). Latest (λ q. get_or cs q 0) p (get_or cs p 0) x) (sym c.wide-j.ensures) (c.requires.4.each p (omega (arith, l.invariant.0.within))) in (
      collected-more cs b c.args.n c.args.link l.j l.count c.wide-j.result l.ids v l.invariant.0 e some (omega (arith, l.invariant.0.room, l.invariant.1, c.if-count-eq-MAX_ROWS_OF_A_LINK.false)) r,
      length-set l.ids l.count v ∙ l.invariant.1,
    )

pub returns-clause-told : goal.returns-clause-told
returns-clause-told c =
    let l = c.loop-j in
    let z : l.j ≡ 0 = omega (arith, c.loop-j-test.false) in
    let a : Collected c.args.self.links.now c.args.self.rows.now c.args.n c.args.link 0 l.count l.ids = subst (λ (j : ℕ). Collected c.args.self.links.now c.args.self.rows.now c.args.n c.args.link j l.count l.ids) z l.invariant.0 in
    tells-link c.args.self.links.now c.args.self.rows.now c.args.n c.args.link l.count l.ids (take l.count l.ids) a (length-take-le l.count l.ids a.room) (λ k d h. get_or-take l.count l.ids k d h) record { w0 = 0; w1 = 0; w2 = 0; w3 = 0 } c.all_differ.result c.all_differ.ensures

pub returns-then-count-eq-MAX_ROWS_OF_A_LINK-clause-many : goal.returns-then-count-eq-MAX_ROWS_OF_A_LINK-clause-many
returns-then-count-eq-MAX_ROWS_OF_A_LINK-clause-many c =
    let l = c.loop-j in
    let cs = c.args.self.links.now in
    let b = c.args.self.rows.now in
    too-many cs b c.args.n c.args.link l.j l.ids (subst (λ (k : ℕ). Collected cs b c.args.n c.args.link l.j k l.ids) c.if-count-eq-MAX_ROWS_OF_A_LINK.true l.invariant.0) c.loop-j-test.true

pub returns-then-from-eq0-clause-told : goal.returns-then-from-eq0-clause-told
returns-then-from-eq0-clause-told c = once-none c.args.self.links.now c.args.self.rows.now c.args.n c.args.link c.args.from c.requires.3 c.if-from-eq0.true
