-- A list of calls leads to a block and counts: an empty one from a creation, one call more from an event call, the saved one from a return.
use Rattle.plumtree.proofs.Words.{Some, ℕ, ◌≡◌, sym, subst, List, [], ◌∷◌, ◌++◌, length, take, Counts, Call, Settings, Limits, Lent, Called}
use Rattle.storage.specs.Lists.Map.{lookup}
use Rattle.whole.specs.States.Kept.{Kept}
use Rattle.whole.specs.States.Area.{kept_in}
use Rattle.whole.specs.States.Calls.{Returns}
use Rattle.whole.proofs.StatesLaws.Accepted.{brought}
use Rattle.postcard.specs.Wide.{Bytes}
use Rattle.output_size.specs.OutputSize.{AllBytes}
use Rattle.plumtree.specs.Calls.{Made}
use Rattle.plumtree.specs.Chain.{Seen, Chain, done, next}
use Rattle.plumtree.specs.OutputSize.{no_more}
use Rattle.plumtree.proofs.Guarantee.{guarantee}
use Rattle.plumtree.proofs.OutputSizeLaws.{output-size-of-blocks}
use Rattle.plumtree.specs.CallList.{CallList, fresh_list, with_call, LeadsTo}

pub fresh_list-leads : (c : Settings) (l : Limits) (before : List ℕ) (old : Counts) (block : List ℕ) (counts : Counts) (long : ℕ) → Made c l before old block counts 0 long → LeadsTo (fresh_list c l) block counts
unfolding AllBytes
fresh_list-leads c l before old block counts long m = record {
  before = before;
  old = old;
  first = block;
  zeroed = counts;
  long = long;
  made = m;
  chain = done block counts;
  guaranteed = guarantee.always c l before old block counts long m [] [] block counts (done block counts);
  bytes = tt;
  enough = no_more;
}

-- one call more at the end of a chain
snoc : (block : List ℕ) (counts : Counts) (ks : List Call) (seen : List Seen) (last : List ℕ) (n : Counts) → Chain block counts ks seen last n →
    (k : Call) (output : List ℕ) (after : Lent) (number long : ℕ) → Called k (record { block = last; counts = n; output = output }) after number long →
    Chain block counts (ks ++ (k ∷ [])) (seen ++ (record { number = number; bytes = take long after.output } ∷ [])) after.block after.counts
snoc _ _ _ _ _ _ (done block counts) k output after number long f = next block counts k output after number long f [] [] after.block after.counts (done after.block after.counts)
snoc _ _ _ _ _ _ (next block counts j out mid m w g ks seen last n more) k output after number long f =
    next block counts j out mid m w g (ks ++ (k ∷ [])) (seen ++ (record { number = number; bytes = take long after.output } ∷ [])) after.block after.counts
    (snoc mid.block mid.counts ks seen last n more k output after number long f)

all-bytes-snoc : (ks : List Call) (k : Call) → AllBytes ks → Bytes k.event → AllBytes (ks ++ (k ∷ []))
unfolding AllBytes
all-bytes-snoc [] k a b = (b, tt)
all-bytes-snoc (j ∷ ks) k a b = (a.0, all-bytes-snoc ks k a.1 b)

pub with_call-leads : (h : CallList) (block : List ℕ) (counts : Counts) → LeadsTo h block counts → (k : Call) → Bytes k.event → (output : List ℕ) (after : Lent) (number long : ℕ) →
    Called k (record { block = block; counts = counts; output = output }) after number long →
    LeadsTo (with_call k (record { number = number; bytes = take long after.output }) h) after.block after.counts
with_call-leads h block counts g k b output after number long f =
    let chain = snoc _ _ _ _ _ _ g.chain k output after number long f in
    let bytes = all-bytes-snoc h.calls k g.bytes b in
    record {
      before = g.before;
      old = g.old;
      first = g.first;
      zeroed = g.zeroed;
      long = g.long;
      made = g.made;
      chain = chain;
      guaranteed = guarantee.always h.settings h.limits g.before g.old g.first g.zeroed g.long g.made _ _ _ _ chain;
      bytes = bytes;
      enough = output-size-of-blocks.always h.settings h.limits g.before g.old g.first g.zeroed g.long g.made _ _ _ _ chain bytes;
    }

-- the same list and block, by other names
pub same-leads : {h h' : CallList} {block block' : List ℕ} {counts : Counts} → h' ≡ h → block' ≡ block → LeadsTo h block counts → LeadsTo h' block' counts
same-leads {h} {h'} {block} {block'} {counts} e b g = subst (λ (x : CallList). LeadsTo x block' counts) (sym e) (subst (λ (x : List ℕ). LeadsTo h x counts) (sym b) g)

-- an accepted return brings back what was saved under the name, and so the list up to the saving
pub returned-leads : (block : List ℕ) (counts : Counts) (area : List ℕ) (name : ℕ) (block' : List ℕ) (counts' : Counts) (number long : ℕ) → Returns block counts area name block' counts' number long → number ≡ 0
    → (h : CallList) → ((k : Kept) → lookup name (kept_in (length block) area) ≡ Some k → LeadsTo h k.block k.counts) → LeadsTo h block' counts'
returned-leads block counts area name block' counts' number long r e h f =
    let b = brought block counts area name block' counts' long (subst (λ (n : ℕ). Returns block counts area name block' counts' n long) e r) in
    subst (λ (x : Counts). LeadsTo h block' x) (sym b.counts-is) (subst (λ (x : List ℕ). LeadsTo h x b.it.counts) (sym b.block-is) (f b.it b.there))
