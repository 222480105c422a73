-- `tables::same_link`: peer and mark; two marks are equal exactly if those of the definitions are.
use Rattle.alike.proofs.Words.{◌≡◌, ℕ, refl, sym, ap, ◌∙◌, Bool, ◌&&◌, eqb, eq-eqb, ne_eqb, State, shown, numbered_link, mark_value, link_at}
use denote.Enum.Bare.{sameb}
use Rattle.block.specs.declared.links.NumberedLink.{NumberedLink}
use Rattle.protocol.specs.Alike.{same_mark}
use Rattle.alike.proofs.Lists.{and-no-left}
use Rattle.block.specs.contracts.links.Mark.{the_type}
use Rattle.block.specs.declared.links.Mark.{Mark}
use Rattle.block.specs.declared.links.Mark.TheVariants.{Eager, Lazy, Quiet}
use Rattle.alike.proofs.tables.same_link.Goals as goal

same_marks : (x y : Mark) → sameb the_type x y ≡ same_mark (mark_value x) (mark_value y)
unfolding same_mark
same_marks Eager Eager = refl
same_marks Eager Lazy = refl
same_marks Eager Quiet = refl
same_marks Lazy Eager = refl
same_marks Lazy Lazy = refl
same_marks Lazy Quiet = refl
same_marks Quiet Eager = refl
same_marks Quiet Lazy = refl
same_marks Quiet Quiet = refl

-- the peers that were read
same-peers : (s t : State) (i : ℕ) (x y : NumberedLink) → x ≡ numbered_link i (link_at s i) → y ≡ numbered_link i (link_at t i) → eqb x.peer y.peer ≡ eqb (link_at s i).key (link_at t i).key
same-peers s t i x y e f = λ k. eqb (e k).peer (f k).peer

pub returns-else-link : goal.returns-else-link
returns-else-link c =
    let s = shown c.args.x.now in
    let t = shown c.args.y.now in
    let x = link_at s c.args.i in
    let y = link_at t c.args.i in
    let apart = ne_eqb _ _ c.if-link.false in
    apart ∙ sym (and-no-left (eqb x.key y.key) (same_mark x.value y.value) (sym (same-peers s t c.args.i c.link.result c.link-2.result c.link.ensures c.link-2.ensures) ∙ apart))

pub returns-then-link : goal.returns-then-link
returns-then-link c =
    let s = shown c.args.x.now in
    let t = shown c.args.y.now in
    let x = link_at s c.args.i in
    let y = link_at t c.args.i in
    c.eq.ensures
    ∙ same_marks c.mark_at.result c.mark_at-then-link.result
    ∙ (λ z. same_mark (c.mark_at.ensures z) (c.mark_at-then-link.ensures z))
    ∙ sym (ap (λ (b : Bool). b && same_mark x.value y.value) (sym (same-peers s t c.args.i c.link.result c.link-2.result c.link.ensures c.link-2.ensures) ∙ eq-eqb _ _ c.if-link.true))
