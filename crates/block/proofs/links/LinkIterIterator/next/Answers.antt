use Rattle.std.proofs.Common.{rules, ◌∙◌, ap, sym, arith, ◌∷◌, [], ◌≡◌, ◌+◌, drop}
use Rattle.block.specs.Views.{links_left, links_from, shown}
use Rattle.block.specs.declared.links.NumberedLink.{NumberedLink}
use Rattle.block.proofs.ViewLaws.{left-none, left-more}
use Rattle.block.proofs.links.LinkIterIterator.next.Goals as goal

pub returns-then-link_count-self-clause-steps : goal.returns-then-link_count-self-clause-steps
unfolding links_left
returns-then-link_count-self-clause-steps c = let h : links_left c.args.self.now ≡ [] = left-none (shown c.args.self.now.view).links c.args.self.now.next (omega (arith, c.link_count.ensures, c.if-link_count-self.true)) in (h, h)

pub returns-clause-steps : goal.returns-clause-steps
unfolding links_left
returns-clause-steps c = left-more (shown c.args.self.now.view).links c.args.self.now.next (omega (arith, c.link_count.ensures, c.if-link_count-self.false)) ∙ ap (λ (x : NumberedLink). x ∷ links_from (c.args.self.now.next + 1) (drop (c.args.self.now.next + 1) (shown c.args.self.now.view).links)) (sym c.link-link.ensures)

pub returns-clause-goes : goal.returns-clause-goes
returns-clause-goes c = let h = returns-clause-steps c in search rules
