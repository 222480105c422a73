-- `tables::same_received`: key and expiry.
use Rattle.alike.proofs.Words.{sym, ◌∙◌, shown}
use Rattle.block.specs.TimeCaches.{received_cache}
use Rattle.protocol.specs.Alike.{same_unit}
use Rattle.alike.proofs.Lists.{and_yes}
use Rattle.alike.specs.Rows.{received_at}
use Rattle.alike.specs.Elements.{same_element}
use Rattle.alike.proofs.BlockReads.{key_of, key-read}
use Rattle.alike.proofs.Entries.{entry-same, asked, no_received, received-named}
use Rattle.alike.proofs.tables.same_received.Goals as goal

pub same_key-requires-clause-lies : goal.same_key-requires-clause-lies
same_key-requires-clause-lies c = let a = c.args in asked c.table.result (received_cache a.x.now.head.now) a.x.now.block.now (shown a.x.now).received a.i c.table.ensures.stands c.table.ensures.at (received-named a.x.now) c.requires.0

pub same_key-requires-clause-lies_2 : goal.same_key-requires-clause-lies_2
same_key-requires-clause-lies_2 c = let a = c.args in asked c.table-2.result (received_cache a.y.now.head.now) a.y.now.block.now (shown a.y.now).received a.i c.table-2.ensures.stands c.table-2.ensures.at (received-named a.y.now) c.requires.1

pub returns : goal.returns
unfolding same_unit
returns c =
    let a = c.args in
    let x = key-read c.table.result a.x.now.block.now (shown a.x.now).received c.table.ensures.stands a.i no_received c.requires.0 in
    let y = key-read c.table-2.result a.y.now.block.now (shown a.y.now).received c.table-2.ensures.stands a.i no_received c.requires.1 in
    let p = received_at (shown a.x.now) a.i in
    let q = received_at (shown a.y.now) a.i in
    c.same_key.ensures ∙ (λ k. same_element (x k) (y k)) ∙ sym (entry-same same_unit p q ∙ and_yes (same_element (key_of p) (key_of q)))
