-- An output of `output_size` bytes is enough, over blocks.
-- Assumes nothing.
use Rattle.plumtree.proofs.Words.{ℕ, arith, refl, sym, ap, subst, ◌∙◌, List, map, length, identifier, Counts, fresh, zero_counts, Call, Answer, refuse, accept, settings_of, limits_of, Settings, Limits}
use Rattle.output_size.specs.OutputSize.{AllBytes, Enough}
use Rattle.output_size.proofs.Lists.{EachAnswer, no_more, one_more, each-enough}
use Rattle.plumtree.specs.Calls.{Made}
use Rattle.plumtree.specs.Chain.{Seen, Chain, seen_of}
use Rattle.plumtree.specs.OutputSize.{size_of, WasEnough, EachEnough, OutputSizeOfBlocks}
use Rattle.plumtree.specs.OutputSize as OutputSize
use Rattle.plumtree.proofs.CreationLaws.{made, made-zero}
use Rattle.plumtree.proofs.Guarantee.{created-holds, ended}

was-enough : (size : ℕ) (k : Call) (a : Answer) → Enough size k a → WasEnough size k (seen_of a)
unfolding seen_of
was-enough size k (refuse n) e = record { fits = omega arith; never_14 = λ o q. e.never_14 o (ap (λ (m : ℕ). refuse m) q) }
was-enough size k (accept v r) e = record { fits = e.fits v r refl; never_14 = λ o q. omega (arith, q) }

each-seen : (size : ℕ) (ks : List Call) (answers : List Answer) → EachAnswer size ks answers → EachEnough size ks (map seen_of answers)
each-seen size _ _ no_more = OutputSize.no_more
each-seen size _ _ (one_more k a ks answers e more) = OutputSize.one_more k (seen_of a) ks (map seen_of answers) (was-enough size k a e) (each-seen size ks answers more)

pub each-enough-seen : (c : Settings) (l : Limits) (before : List ℕ) (old : Counts) (block : List ℕ) (counts : Counts) (long : ℕ) → Made c l before old block counts 0 long →
    (ks : List Call) (seen : List Seen) (last : List ℕ) (last_counts : Counts) → Chain block counts ks seen last last_counts → AllBytes ks → EachEnough (size_of c l) ks seen
each-enough-seen c l before old block counts long m ks seen last last_counts chain y =
    let s = fresh (settings_of c) (limits_of l) in
    let w = ended block s zero_counts ks seen last last_counts (created-holds c l before block m.creation)
    (subst (λ (x : Counts). Chain block x ks seen last last_counts) (m.left ∙ made-zero c l before block old m.creation) chain) in
    subst (EachEnough (size_of c l) ks) (sym w.answers)
    (each-seen (size_of c l) ks _ (each-enough identifier (settings_of c) (limits_of l) (length before) s zero_counts (made c l before block m.creation) ks y))

pub output-size-of-blocks : OutputSizeOfBlocks
output-size-of-blocks = record { always = each-enough-seen }
