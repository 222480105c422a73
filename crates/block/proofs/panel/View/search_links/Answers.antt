-- The search goes on until a peer that is not below the one sought.
use Rattle.block.proofs.Words.{◌≡◌, ℕ, List, length, get_or, sym, ap, ◌∙◌, arith, keys, up_of}
use lib.ListN.{length-map}
use Rattle.block.specs.Views.{shown}
use Rattle.block.specs.declared.links.NumberedLink.{NumberedLink}
use Rattle.block.proofs.PanelLaws.{link-key}
use Rattle.block.proofs.Scans.{scan-more, scan-above, scan-end}
use Rattle.block.proofs.panel.View.search_links.Goals as goal
use Rattle.block.proofs.panel.View.search_links.Goals.{Start, After-link-other}

-- the peers of the links, as many as the links
abbrev peers : Start → List ℕ
peers s = keys (shown s.args.self.now).links

as_many : (s : Start) → length (peers s) ≡ length (shown s.args.self.now).links
as_many s = length-map (shown s.args.self.now).links (λ e. e.key)

-- the peer read
read : (c : After-link-other) → c.link-other.result.peer ≡ get_or (peers (goal.at.After-link-other c).Start) c.loop-i.i 0
read c = ap (λ (l : NumberedLink). l.peer) c.link-other.ensures ∙ sym (link-key (shown c.args.self.now) c.loop-i.i)

pub loop-i-preserved : goal.loop-i-preserved
loop-i-preserved c =
    let s = goal.at.loop-i-preserved c in
    scan-more (peers s.Start) c.args.peer c.loop-i.i c.link-other.result.peer c.loop-i.invariant (read s.After-link-other) (omega (arith, c.if-other-peer.false, c.if-peer-other.false))

pub returns-then-other-peer : goal.returns-then-other-peer
returns-then-other-peer c =
    let s = goal.at.returns-then-other-peer c in
    record { within = omega (arith, as_many s.Start, c.loop-i-test.true, c.link_count-i-end.ensures); same = sym (read s.After-link-other) ∙ c.if-other-peer.true }

pub returns-then-peer-other : goal.returns-then-peer-other
returns-then-peer-other c =
    let s = goal.at.returns-then-peer-other c in
    scan-above (peers s.Start) c.args.peer c.loop-i.i c.link-other.result.peer (up_of (peers s.Start) c.requires)
    (omega (arith, as_many s.Start, c.loop-i-test.true, c.link_count-i-end.ensures)) c.loop-i.invariant (read s.After-link-other) c.if-peer-other.true

pub returns : goal.returns
returns c =
    let s = goal.at.returns c in
    scan-end (peers s.Start) c.args.peer c.link_count.result (omega (arith, as_many s.Start, c.link_count.ensures)) (omega (arith, as_many s.Start, c.link_count.ensures))
    (λ j below. c.loop-i.invariant j (omega (arith, below, c.loop-i-test.false)))
