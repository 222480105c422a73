-- `find`: lo and hi bracket the key; the key that the middle names settles one side. The measure is hi - lo.
use Rattle.std.proofs.Common.{◌≡◌, sym, ◌∙◌, subst, List, ℕ, ◌+◌, ◌-◌, ◌/◌, ◌≤◌, ◌<◌, get_or, Less, Equal, Greater, arith}
use Rattle.storage.specs.Rows.Ident.{id_of}
use Rattle.storage.proofs.RowsLaws.Sorted.{bracket-start, bracket-up, bracket-down}
use Rattle.std.proofs.lemmas.Cmp.{ranked}
use Rattle.time_cache.proofs.NamedLaws.{keys_in, length-named, named-below, named-key}
use Rattle.time_cache.proofs.named.find.Goals as goal
use Rattle.time_cache.proofs.named.find.Goals.{After-key-found, In-loop-lo}

-- in a turn: the middle, and the keys
abbrev mid : In-loop-lo → ℕ
mid c = c.loop-lo.lo + (c.loop-lo.hi - c.loop-lo.lo) / 2

abbrev ks : In-loop-lo → List ℕ
ks c = let a = c.args in keys_in a.places.stride a.places.len a.places.bytes.now a.expiry.stride a.expiry.len a.expiry.bytes.now

spot : (c : In-loop-lo) → (c.loop-lo.lo ≤ mid c) × (mid c < c.loop-lo.hi) × (mid c < c.args.places.len)
spot c =
    let a = c.args in
    let h : c.loop-lo.hi ≤ a.places.len = omega (arith, length-named a.places.stride a.places.len a.places.bytes.now a.expiry.stride a.expiry.len a.expiry.bytes.now, c.loop-lo.invariant.hi-end) in
    (omega arith, omega arith, omega arith)

-- the key that was read is the one that the middle names
read : (c : After-key-found) → id_of c.key-found.result ≡ get_or (ks (goal.at.After-key-found c).In-loop-lo) (mid (goal.at.After-key-found c).In-loop-lo) 0
read c =
    let a = c.args in
    let i = (goal.at.After-key-found c).In-loop-lo in
    named-key a.places.stride a.places.len a.places.bytes.now a.expiry.stride a.expiry.len a.expiry.bytes.now (mid i) c.place.result c.place.ensures (spot i).2 (id_of c.key-found.result) c.key-found.ensures

pub loop-lo-init : goal.loop-lo-init
loop-lo-init c =
    let a = c.args in
    bracket-start (keys_in a.places.stride a.places.len a.places.bytes.now a.expiry.stride a.expiry.len a.expiry.bytes.now) (id_of a.key) a.places.len (length-named a.places.stride a.places.len a.places.bytes.now a.expiry.stride a.expiry.len a.expiry.bytes.now)

pub place-requires : goal.place-requires
place-requires c = (c.requires.0.entry_wide, (spot (goal.at.place-requires c).In-loop-lo).2, c.requires.0.entries)

pub key-found-requires : goal.key-found-requires
key-found-requires c =
    let a = c.args in
    let i = (goal.at.key-found-requires c).In-loop-lo in (
      c.requires.0.expiry_wide,
      named-below a.places.stride a.places.len a.places.bytes.now a.expiry.stride a.expiry.len a.expiry.bytes.now (mid i) c.place.result c.place.ensures (spot i).2 c.requires.0,
      c.requires.0.rows,
    )

pub loop-lo-preserved-in-Less : goal.loop-lo-preserved-in-Less
loop-lo-preserved-in-Less c =
    let l = c.loop-lo in
    let i = (goal.at.loop-lo-preserved-in-Less c).In-loop-lo in
    let o = ranked (id_of c.key-found.result) (id_of c.args.key) Less (sym c.in-Less.is ∙ c.cmp.ensures) in
    bracket-up (ks i) (id_of c.args.key) l.lo l.hi (mid i) c.requires.1 l.invariant (spot i).0 (spot i).1 (subst (λ (n : ℕ). n < id_of c.args.key) (read (goal.at.loop-lo-preserved-in-Less c).After-key-found) o)

pub returns-in-Equal : goal.returns-in-Equal
returns-in-Equal c =
    let a = c.args in
    record {
      within = omega (arith, (spot (goal.at.returns-in-Equal c).In-loop-lo).2, length-named a.places.stride a.places.len a.places.bytes.now a.expiry.stride a.expiry.len a.expiry.bytes.now);
      same = sym (read (goal.at.returns-in-Equal c).After-key-found) ∙ ranked (id_of c.key-found.result) (id_of a.key) Equal (sym c.in-Equal.is ∙ c.cmp.ensures);
    }

pub loop-lo-preserved : goal.loop-lo-preserved
loop-lo-preserved c =
    let l = c.loop-lo in
    let i = (goal.at.loop-lo-preserved c).In-loop-lo in
    let o = ranked (id_of c.key-found.result) (id_of c.args.key) Greater (sym c.in-Greater.is ∙ c.cmp.ensures) in
    bracket-down (ks i) (id_of c.args.key) l.lo l.hi (mid i) c.requires.1 l.invariant (spot i).0 (spot i).1 (subst (λ (n : ℕ). id_of c.args.key < n) (read (goal.at.loop-lo-preserved c).After-key-found) o)
