-- `once_by_chains`: the first i notes stand once, and are chained by buckets. Those that are known to stand once are chained alone.
use Rattle.std.proofs.Common.{◌≡◌, refl, sym, ap, ◌∙◌, subst, Bool, ℕ, ◌<◌, get_or, length-set, arith}
use Rattle.storage.specs.Rows.Ident.{id_of}
use Rattle.storage.specs.Buckets.{id_at, bucket_of, bucket, TellsNew}
use Rattle.storage.proofs.NotesLaws.Walks.{in-range, heads-start, heads-more, chained-start, chained_more, once_more}
use Rattle.std.proofs.lemmas.List.{length-replicate}
use Rattle.storage.proofs.notes.Columns.once_by_chains.Goals as goal

pub loop-i-init : goal.loop-i-init
loop-i-init g c = (
  heads-start g.row.BUCKETS _ _ refl (length-replicate _ 0),
  chained-start _ _,
  length-replicate _ 0,
)

pub loop-i-preserved : goal.loop-i-preserved
loop-i-preserved g c =
    let l = c.loop-i in
    let cs = c.args.self.links.now in
    let b = c.args.self.rows.now in
    let m = g.row.BUCKETS in
    let s = c.args.self.multiplier in
    let h = c.bucket-bucket.result in
    let e : h ≡ bucket m s cs b l.i = c.bucket-bucket.ensures ∙ ap (λ (v : ℕ). bucket_of m s v c.pair.result.link) c.pair.ensures.id ∙ ap (λ (v : ℕ). bucket_of m s (id_at b l.i) v) c.pair.ensures.link in
    let below : h < m = subst (λ (v : ℕ). v < m) (sym c.bucket-bucket.ensures) (in-range m s _ _ c.requires.within.0) in (
      heads-more m (bucket m s cs b) l.latest l.next l.i h l.invariant.0 e below,
      chained_more m (bucket m s cs b) l.latest l.next l.i h l.invariant.0 e below l.invariant.1 (omega (arith, l.invariant.2, c.requires.within, c.loop-i-test.true)),
      length-set l.next l.i (get_or l.latest h 0) ∙ l.invariant.2,
    )

pub loop-i-2-preserved : goal.loop-i-2-preserved
loop-i-2-preserved g c =
    let l = c.loop-i-2 in
    let cs = c.args.self.links.now in
    let b = c.args.self.rows.now in
    let m = g.row.BUCKETS in
    let s = c.args.self.multiplier in
    let pair = c.pair-pair.result in
    let h = c.bucket-bucket-in-loop-i-2.result in
    let e : h ≡ bucket m s cs b l.i = c.bucket-bucket-in-loop-i-2.ensures ∙ ap (λ (v : ℕ). bucket_of m s v pair.link) c.pair-pair.ensures.id ∙ ap (λ (v : ℕ). bucket_of m s (id_at b l.i) v) c.pair-pair.ensures.link in
    let below : h < m = subst (λ (v : ℕ). v < m) (sym c.bucket-bucket-in-loop-i-2.ensures) (in-range m s _ _ c.requires.within.0) in
    let t = subst (λ (v : Bool). TellsNew cs b l.i pair.link (id_of pair.id) v) c.in-Some-true.field-0-test c.in-Some-true.ensures.told in (
      heads-more m (bucket m s cs b) l.latest l.next l.i h l.invariant.0 e below,
      chained_more m (bucket m s cs b) l.latest l.next l.i h l.invariant.0 e below l.invariant.1 (omega (arith, l.invariant.2, c.requires.within, c.loop-i-2-test.true)),
      length-set l.next l.i (get_or l.latest h 0) ∙ l.invariant.2,
      once_more cs b l.i pair.link (id_of pair.id) l.invariant.3 c.pair-pair.ensures.link c.pair-pair.ensures.id t,
    )
