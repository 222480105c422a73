-- Creation: its four questions in order, and the block that it leaves.
-- Assumes nothing.
use Rattle.whole.proofs.Words.{◌≡◌, refl, ap, ◌∙◌, subst, Bool, true, false, ◌&&◌, List, ℕ, ◌≤◌, ◌<◌, arith, le-leb, leb-true, leb-false, leb, lit<, length, drop, if◌then◌else◌, Some, None, lt-leb, cases, and_intro, put, length-put, drop-put, Limits, Settings, Created, created, not_created, zero_counts, size_in_range, durations_in_range, limits_in_range, tables, settings_of, limits_of, Head}
use lib.Dec.{leb-zero}
use Rattle.storage.specs.Lists.Base.{all, sum}
use Rattle.storage.specs.Rows.Rows.{rows}
use Rattle.storage.specs.Refs.Refs.{refs}
use Rattle.time_cache.specs.Tables.{cache_of, expiry_rows}
use Rattle.protocol.specs.State.{create, fresh, block_need}
use Rattle.protocol.specs.Whole.{content_held}
use Rattle.protocol.proofs.CreatedWhole.{fresh-whole}
use Rattle.block.specs.View.{state_of, links_in, notes_in, missing_in, received_in, grafted_in, cached_in, timers_in}
use Rattle.storage.specs.Refs.Numbers.{numbered, pairs}
use Rattle.block.specs.Header.{word_at, head_bytes, Stored}
use Rattle.block.specs.declared.head.Settings.{Settings as HeadSettings}
use Rattle.block.specs.declared.head.Limits.{Limits as HeadLimits}
use Rattle.block.proofs.HeaderLaws.{word_back, head-words, head_words, length-head}
use Rattle.block.specs.Sound.{adjoin}
use Rattle.whole.specs.Held.{has_header, has_tables, counts_within, all_lists, laid_out, holds_with, held, whole_held, whole_block}
use Rattle.whole.specs.Creation.{Refused, Accepted, Creates, Creation, fresh_live}

-- the first no gives its number
module _ (c : Settings) (l : Limits) (n : ℕ) where
  pub create-1 : size_in_range c ≡ false → create c l n ≡ not_created 1
  unfolding create
  create-1 a = rw a

  pub create-2 : size_in_range c ≡ true → durations_in_range c ≡ false → create c l n ≡ not_created 2
  unfolding create
  create-2 a b = rw (a, b)

  pub create-3 : size_in_range c ≡ true → durations_in_range c ≡ true → limits_in_range l ≡ false → create c l n ≡ not_created 3
  unfolding create
  create-3 a b d = rw (a, b, d)

  pub create-4 : size_in_range c ≡ true → durations_in_range c ≡ true → limits_in_range l ≡ true → n < block_need l → create c l n ≡ not_created 4
  unfolding create
  create-4 a b d e = rw (a, b, d, lt-leb (block_need l) n e)

  pub create-0 : size_in_range c ≡ true → durations_in_range c ≡ true → limits_in_range l ≡ true → block_need l ≤ n → create c l n ≡ created (fresh c l) zero_counts
  unfolding create
  create-0 a b d e = rw (a, b, d, le-leb (block_need l) n e)

-- a need has room for the header
pub need-header : (l : Limits) → 4096 ≤ block_need l
unfolding block_need
need-header l = omega arith

-- the header of `State::new`
abbrev pub fresh_head : HeadSettings → HeadLimits → Head
fresh_head c l = record { settings = c; limits = l; live = fresh_live }

module _ (c : HeadSettings) (l : HeadLimits) where
  fresh-counts : counts_within (limits_of l) fresh_live ≡ true
  unfolding counts_within
  fresh-counts = simp leb-zero

  fresh-laid : (t : List (List ℕ)) → laid_out (fresh_head c l) t ≡ true
  unfolding laid_out all_lists refs rows all adjoin content_held sum cached_in cache_of
  fresh-laid t = refl

  fresh-state : (block : List ℕ) → state_of (fresh_head c l) block ≡ fresh (settings_of c) (limits_of l)
  unfolding state_of fresh links_in notes_in numbered pairs missing_in received_in grafted_in cached_in timers_in cache_of refs expiry_rows rows
  fresh-state block = refl

  module _ (xs ys : List ℕ) (stored : Stored (fresh_head c l) xs ys) (range : limits_in_range (limits_of l) ≡ true) (long : block_need (limits_of l) ≤ length xs)
      (round : c.config.optimization_threshold.0 < 65536) where
    abbrev h : Head
    h = fresh_head c l

    fresh-length : length ys ≡ length xs
    fresh-length = ap length stored.bytes ∙ length-put 0 (head_bytes h) xs (omega (arith, length-head h, need-header (limits_of l)))

    fresh-rest : drop 2048 ys ≡ drop 2048 xs
    fresh-rest = ap (drop 2048) stored.bytes ∙ drop-put 2048 0 (head_bytes h) xs (omega (arith, length-head h)) (omega arith)

    fresh-threshold : word_at 24 ys ≡ c.config.optimization_threshold.0
    fresh-threshold =
        ap (word_at 24) (stored.bytes ∙ ap (λ (bs : List ℕ). put 0 bs xs) (head-words h))
        ∙ word_back (head_words h) 3 xs (lit< tt) (omega arith) (omega (arith, need-header (limits_of l)))

    fresh-header : has_header ys ≡ true
    unfolding has_header
    fresh-header =
        and_intro (le-leb 2048 (length ys) (omega (arith, fresh-length, need-header (limits_of l))))
        (le-leb (word_at 24 ys) 65535 (omega (arith, fresh-threshold)))

    fresh_holds : holds_with h ys ≡ true
    unfolding holds_with has_tables
    fresh_holds =
        and_intro
        (and_intro (and_intro range (le-leb (block_need (limits_of l)) (length ys) (omega (arith, fresh-length)))) fresh-counts)
        (fresh-laid (tables (limits_of l) ys))

    fresh-held : held ys ≡ Some (fresh (settings_of c) (limits_of l))
    unfolding held
    fresh-held =
        ap (λ (g : Head). if has_header ys && holds_with g ys then Some (state_of g ys) else None) stored.back
        ∙ ap (λ (t : Bool). if t then Some (state_of h ys) else None) (and_intro fresh-header fresh_holds)
        ∙ ap Some (fresh-state ys)

    pub fresh-accepted : Accepted (fresh (settings_of c) (limits_of l)) xs ys 0
    fresh-accepted = record { number = refl; state = fresh-held; long = fresh-length; rest = fresh-rest }

-- "An accepted creation leaves the state of `State::new`": a block that holds it is whole
accepted-whole : (c : Settings) (l : Limits) (xs ys : List ℕ) (r : ℕ) → size_in_range c ≡ true → durations_in_range c ≡ true → limits_in_range l ≡ true → c.optimization_threshold < 65536
    → Accepted (fresh c l) xs ys r → whole_block ys ≡ true
unfolding whole_block whole_held
accepted-whole c l xs ys r a b d t done = ap whole_held done.state ∙ fresh-whole c l a b (le-leb c.optimization_threshold 65535 (omega arith)) d

-- the block that an accepted creation leaves is whole
pub creation-whole : (c : HeadSettings) (l : HeadLimits) (xs ys : List ℕ) (r : ℕ) → c.config.optimization_threshold.0 < 65536
    → Creation c l xs ys r → r ≡ 0 → whole_block ys ≡ true
creation-whole c l xs ys r t made answer =
    cases (size_in_range s)
    (λ a. cases (durations_in_range s)
    (λ b. cases (limits_in_range m)
    (λ d. cases (leb (block_need m) (length xs))
    (λ e. accepted-whole s m xs ys r a b d t (at (create-0 s m (length xs) a b d (leb-true (block_need m) (length xs) e))))
    (λ e. let f : Refused 4 xs ys r = at (create-4 s m (length xs) a b d (leb-false (block_need m) (length xs) e)) in absurd (omega (arith, f.number))))
    (λ d. let f : Refused 3 xs ys r = at (create-3 s m (length xs) a b d) in absurd (omega (arith, f.number))))
    (λ b. let f : Refused 2 xs ys r = at (create-2 s m (length xs) a b) in absurd (omega (arith, f.number))))
    (λ a. let f : Refused 1 xs ys r = at (create-1 s m (length xs) a) in absurd (omega (arith, f.number)))
  where
    s : Settings
    s = settings_of c

    m : Limits
    m = limits_of l

    at : {x : Created} → create s m (length xs) ≡ x → Creates x xs ys r
    at e = subst (λ (x : Created). Creates x xs ys r) e made
