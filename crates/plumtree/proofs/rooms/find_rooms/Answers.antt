-- `find_rooms`: without entries no peer has a bound; else by those to whom the call can send.
use Rattle.std.proofs.Common.{sym, length, ◌∙◌, eqb-true}
use Rattle.plumtree.proofs.RoomLaws.{found-none, found-unsent, found-links, found-all}
use Rattle.plumtree.proofs.rooms.find_rooms.Goals as goal

pub returns-then-is_empty : goal.returns-then-is_empty
returns-then-is_empty c =
    found-none c.args.block.now c.args.event.now c.args.rooms.now _ (eqb-true (length c.args.rooms.now) 0 (sym c.is_empty.ensures ∙ c.if-is_empty.true)) c.requires

pub returns-in-Nobody : goal.returns-in-Nobody
returns-in-Nobody c = found-unsent c.args.block.now c.args.event.now c.args.rooms.now _ c.in-Nobody.ensures

pub returns-in-Links : goal.returns-in-Links
returns-in-Links c = found-links c.args.block.now c.args.event.now c.args.rooms.now _ _ c.link_count.ensures c.in-Links.ensures c.look_up.ensures

pub returns-in-LinksAndSender : goal.returns-in-LinksAndSender
returns-in-LinksAndSender c =
    found-all c.args.block.now c.args.event.now c.args.rooms.now _ _ c.link_count-in-LinksAndSender.ensures c.in-LinksAndSender.sender c.in-LinksAndSender.ensures c.look_up-in-LinksAndSender.ensures
