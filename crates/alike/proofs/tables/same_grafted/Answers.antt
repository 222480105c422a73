-- `tables::same_grafted`: key and expiry, `first`, `kept`, peers.
use Rattle.alike.proofs.Words.{◌≡◌, ℕ, refl, sym, ◌∙◌, Bool, true, false, ◌&&◌, eqb, Option, Some, None, shown, same_map, same_hop, Entry, Timed, Grafts}
use Rattle.std.specs.Option.{option_eq}
use Rattle.protocol.specs.Alike.{same_option, same_grafts}
use Rattle.alike.proofs.Lists.{list_grafts}
use Rattle.alike.specs.Elements.{same_element}
use Rattle.alike.specs.Rows.{same_entry, same_timed}
use Rattle.alike.proofs.BlockReads.{key_of, key-read}
use Rattle.alike.proofs.Entries.{entry-same, asked, no_grafted, grafted-named}
use Rattle.block.specs.TimeCaches.{grafted_cache}
use Rattle.block.specs.Caches.GraftSteps.{grafted_at}
use Rattle.alike.proofs.tables.same_grafted.Goals as goal
use Rattle.alike.proofs.tables.same_grafted.Goals.{Joined-same_first, then-same_key, else-same_key, then-same_first, else-same_first}

-- the parts in their order
assoc : (e f k m : Bool) → (((e && f) && k) && m) ≡ (e && (f && k && m))
assoc true true k m = refl
assoc true false k m = refl
assoc false f k m = refl

-- two peers that are kept, or that none is
same-kept : (x y : Option ℕ) → option_eq eqb x y ≡ same_option eqb x y
unfolding same_option
same-kept None None = refl
same-kept None (Some q) = refl
same-kept (Some p) None = refl
same-kept (Some p) (Some q) = refl

-- what the tests told
module _ (d : Joined-same_first) where
  abbrev p : Entry (Timed Grafts)
  p = grafted_at (shown d.args.x.now) d.args.i

  abbrev q : Entry (Timed Grafts)
  q = grafted_at (shown d.args.y.now) d.args.i

  -- the parts of the value
  abbrev E : Bool
  E = same_element (key_of p) (key_of q)

  abbrev F : Bool
  F = same_option same_hop p.value.value.first q.value.value.first

  abbrev K : Bool
  K = same_option eqb p.value.value.kept q.value.value.kept

  abbrev M : Bool
  M = same_map eqb p.value.value.peers q.value.value.peers

  key-told : d.same_key.result ≡ E
  key-told =
      let a = d.args in
      let x = key-read d.table.result a.x.now.block.now (shown a.x.now).grafted d.table.ensures.stands a.i no_grafted d.requires.0 in
      let y = key-read d.table-2.result a.y.now.block.now (shown a.y.now).grafted d.table-2.ensures.stands a.i no_grafted d.requires.1 in
      d.same_key.ensures ∙ (λ k. same_element (x k) (y k))

  two-told : d.if-same_key.value ≡ (E && F)
  two-told =
      elim d.if-same_key.branch [
        | then-same_key w ↦
            let e : E ≡ true = sym key-told ∙ w.if-same_key.true in
            w.value-is ∙ w.same_first.ensures ∙ (λ k. same_option same_hop (w.first_copy.ensures k) (w.first_copy-then-same_key.ensures k)) ∙ sym (λ k. e k && F)
        | else-same_key w ↦
            let e : E ≡ false = sym key-told ∙ w.if-same_key.false in
            w.value-is ∙ key-told ∙ e ∙ sym (λ k. e k && F)
      ]

  three-told : d.if-same_first.value ≡ ((E && F) && K)
  three-told =
      elim d.if-same_first.branch [
        | then-same_first w ↦
            let e : (E && F) ≡ true = sym two-told ∙ w.if-same_first.true in
            let x = w.kept_sender in
            let y = w.kept_sender-then-same_first in
            w.value-is ∙ w.eq.ensures ∙ same-kept x.result y.result ∙ (λ k. same_option eqb (x.ensures k) (y.ensures k)) ∙ sym (λ k. e k && K)
        | else-same_first w ↦
            let e : (E && F) ≡ false = sym two-told ∙ w.if-same_first.false in
            w.value-is ∙ two-told ∙ e ∙ sym (λ k. e k && K)
      ]

  told : (((E && F) && K) && M) ≡ same_entry (same_timed same_grafts) p q
  unfolding same_grafts
  told = assoc E F K M ∙ sym (entry-same same_grafts p q)

pub same_key-requires-clause-lies : goal.same_key-requires-clause-lies
same_key-requires-clause-lies c = let a = c.args in asked c.table.result (grafted_cache a.x.now.head.now) a.x.now.block.now (shown a.x.now).grafted a.i c.table.ensures.stands c.table.ensures.at (grafted-named a.x.now) c.requires.0

pub same_key-requires-clause-lies_2 : goal.same_key-requires-clause-lies_2
same_key-requires-clause-lies_2 c = let a = c.args in asked c.table-2.result (grafted_cache a.y.now.head.now) a.y.now.block.now (shown a.y.now).grafted a.i c.table-2.ensures.stands c.table-2.ensures.at (grafted-named a.y.now) c.requires.1

pub returns-then-eq : goal.returns-then-eq
returns-then-eq c =
    let d = (goal.at.returns-then-eq c).Joined-same_first in
    let e : ((E d && F d) && K d) ≡ true = sym (three-told d) ∙ c.if-eq.true in
    c.same_sequence.ensures ∙ list_grafts (p d).value.value.peers (q d).value.value.peers ∙ sym (λ k. e k && M d) ∙ told d

pub returns-else-eq : goal.returns-else-eq
returns-else-eq c =
    let d = (goal.at.returns-else-eq c).Joined-same_first in
    let e : ((E d && F d) && K d) ≡ false = sym (three-told d) ∙ c.if-eq.false in
    three-told d ∙ e ∙ sym (λ k. e k && M d) ∙ told d
