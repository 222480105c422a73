-- `look_up`: few entries are gone over for each peer; of others the first ones together, then the rest for the few peers that have no room yet.
use Rattle.plumtree.proofs.Words.{refl}
use Rattle.plumtree.proofs.RoomLaws.{begun-none, looked-up, rest-drop}
use Rattle.plumtree.proofs.rooms.look_up.Goals as goal

pub returns-then-rooms-le-FEW_ENTRIES : goal.returns-then-rooms-le-FEW_ENTRIES
returns-then-rooms-le-FEW_ENTRIES c =
    let a = c.args in
    looked-up a.block.now a.count a.sender a.rooms.now a.rooms.now 0 a.found.now c.finish.new.found refl (begun-none a.block.now a.count a.sender a.rooms.now a.found.now c.requires.0.few c.requires.1) c.finish.ensures

pub returns : goal.returns
returns c =
    let a = c.args in
    looked-up a.block.now a.count a.sender a.rooms.now _ c.begin-seen.result c.begin-seen.new.found c.finish-2.new.found (rest-drop a.rooms.now c.begin-seen.result) c.begin-seen.ensures c.finish-2.ensures
