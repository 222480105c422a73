-- `tables::same_cached`: key and expiry, round, content.
use Rattle.alike.proofs.Words.{◌≡◌, refl, sym, ◌∙◌, Bool, true, false, ◌&&◌, eqb, shown, same_list, Entry, Timed, Cached}
use Rattle.protocol.specs.Alike.{same_cached}
use Rattle.alike.specs.Rows.{same_entry, same_timed, cached_entry}
use Rattle.alike.specs.Elements.{same_element}
use Rattle.alike.proofs.BlockReads.{key_of, key-read}
use Rattle.alike.proofs.Entries.{entry-same, asked, no_cached, cached-named}
use Rattle.block.specs.TimeCaches.{cached_cache}
use Rattle.alike.proofs.tables.same_cached.Goals as goal
use Rattle.alike.proofs.tables.same_cached.Goals.{Joined-same_key, then-same_key, else-same_key}

-- the round is compared before the content
swap : (e r m : Bool) → ((e && r) && m) ≡ (e && (m && r))
swap true true true = refl
swap true true false = refl
swap true false true = refl
swap true false false = refl
swap false r m = refl

-- what the tests told
module _ (d : Joined-same_key) where
  abbrev p : Entry (Timed Cached)
  p = cached_entry (shown d.args.x.now) d.args.i

  abbrev q : Entry (Timed Cached)
  q = cached_entry (shown d.args.y.now) d.args.i

  -- the parts of the value
  abbrev E : Bool
  E = same_element (key_of p) (key_of q)

  abbrev R : Bool
  R = eqb p.value.value.round q.value.value.round

  abbrev M : Bool
  M = same_list eqb p.value.value.content q.value.value.content

  key-told : d.same_key.result ≡ E
  key-told =
      let a = d.args in
      let x = key-read d.table.result a.x.now.block.now (shown a.x.now).cache d.table.ensures.stands a.i no_cached d.requires.0 in
      let y = key-read d.table-2.result a.y.now.block.now (shown a.y.now).cache d.table-2.ensures.stands a.i no_cached d.requires.1 in
      d.same_key.ensures ∙ (λ k. same_element (x k) (y k))

  two-told : d.if-same_key.value ≡ (E && R)
  two-told =
      elim d.if-same_key.branch [
        | then-same_key w ↦
            let e : E ≡ true = sym key-told ∙ w.if-same_key.true in
            w.value-is ∙ (λ k. eqb (w.cached_round.ensures k) (w.cached_round-then-same_key.ensures k)) ∙ sym (λ k. e k && R)
        | else-same_key w ↦
            let e : E ≡ false = sym key-told ∙ w.if-same_key.false in
            w.value-is ∙ key-told ∙ e ∙ sym (λ k. e k && R)
      ]

  told : ((E && R) && M) ≡ same_entry (same_timed same_cached) p q
  unfolding same_cached
  told = swap E R M ∙ sym (entry-same same_cached p q)

pub same_key-requires-clause-lies : goal.same_key-requires-clause-lies
same_key-requires-clause-lies c = let a = c.args in asked c.table.result (cached_cache a.x.now.head.now) a.x.now.block.now (shown a.x.now).cache a.i c.table.ensures.stands c.table.ensures.at (cached-named a.x.now) c.requires.0

pub same_key-requires-clause-lies_2 : goal.same_key-requires-clause-lies_2
same_key-requires-clause-lies_2 c = let a = c.args in asked c.table-2.result (cached_cache a.y.now.head.now) a.y.now.block.now (shown a.y.now).cache a.i c.table-2.ensures.stands c.table-2.ensures.at (cached-named a.y.now) c.requires.1

pub returns-then-cached_round : goal.returns-then-cached_round
returns-then-cached_round c =
    let d = (goal.at.returns-then-cached_round c).Joined-same_key in
    let e : (E d && R d) ≡ true = sym (two-told d) ∙ c.if-cached_round.true in
    c.same_bytes.ensures ∙ (λ k. same_list eqb (c.cached_content.ensures.content k) (c.cached_content-then-cached_round.ensures.content k)) ∙ sym (λ k. e k && M d) ∙ told d

pub returns-else-cached_round : goal.returns-else-cached_round
returns-else-cached_round c =
    let d = (goal.at.returns-else-cached_round c).Joined-same_key in
    let e : (E d && R d) ≡ false = sym (two-told d) ∙ c.if-cached_round.false in
    two-told d ∙ e ∙ sym (λ k. e k && M d) ∙ told d
