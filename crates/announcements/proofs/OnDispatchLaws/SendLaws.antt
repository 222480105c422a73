-- An IHave with its timer; the IHaves to a link; the links.
-- Assumes nothing.
use Rattle.announcements.proofs.Words.{◌≡◌, refl, sym, ap, ◌∙◌, Bool, true, false, not, ◌||◌, List, [], ◌∷◌, ◌++◌, append-nil, append_assoc, ℕ, zero, suc, ◌+◌, ◌-◌, ◌≤◌, ◌<◌, arith, length, take, drop, length-drop, if◌then◌else◌, concat-append, true≢, Ihave, IHave, AnnounceDropped, Action, Sent, Scheduled, message_bytes, taken_byte, State, Note, Room, queued_for, per_message, Piece, cached_in, Intake, after_append, after_nil}
use Rattle.storage.specs.Lists.Base.{concat_map}
use Rattle.postcard.specs.Number.{number_bytes}
use Rattle.postcard.specs.Message.{action_bytes}
use Rattle.postcard.specs.Output.{send_head}
use Rattle.protocol.specs.Ticks.{chunks, queued_peers}
use Rattle.decide.specs.Rooms.{kth_taken}
use Rattle.decide.specs.Pieces.{numbered, peer_pieces, pieces, piece_taken, piece_actions}
use Rattle.decide.specs.RecordGrowth.{announce_action}
use Rattle.decide.specs.ActionsAfter.{dispatch_actions}
use Rattle.wire.specs.Encode.Intake.{after}
use Rattle.announcements.specs.QueuedRows.{quiet, timer_after, one_send, flag_after, flag_after_all}

bytes-cons : {A : Type 0} (f : A → List ℕ) (x : A) (xs : List A) → concat_map f (x ∷ xs) ≡ f x ++ concat_map f xs
unfolding concat_map
bytes-cons f x xs = refl

bytes-none : {A : Type 0} (f : A → List ℕ) → concat_map f [] ≡ []
unfolding concat_map
bytes-none f = refl

-- two parts are the whole
pub both-after : (xs ys : List ℕ) (x y z : Intake) → y ≡ after xs x → z ≡ after ys y → z ≡ after (xs ++ ys) x
both-after xs ys x y z e f = f ∙ ap (after ys) e ∙ after_append xs ys x

-- an IHave with the timer that follows it
module _ (held : ℕ → Bool) (taken flag : Bool) (p : ℕ) (hs : List Ihave) where
  abbrev head_of : List ℕ
  head_of = send_head p taken ++ message_bytes (IHave hs)

  abbrev whole_of : List ℕ
  whole_of = concat_map action_bytes (one_send held taken flag p hs)

  send-bytes : whole_of ≡ head_of ++ concat_map action_bytes (timer_after (quiet held taken flag hs))
  unfolding send_head action_bytes
  send-bytes =
      bytes-cons action_bytes (Sent p taken (IHave hs)) (timer_after (quiet held taken flag hs))
      ∙ ap (λ (l : List ℕ). l ++ concat_map action_bytes (timer_after (quiet held taken flag hs))) (sym (append_assoc (1 ∷ number_bytes p) (taken_byte taken ∷ []) (message_bytes (IHave hs))))

  module _ (x y : Intake) where
    pub send-quiet : y ≡ after head_of x → quiet held taken flag hs ≡ true → y ≡ after whole_of x
    send-quiet e f =
        e ∙ ap (λ (l : List ℕ). after l x) (sym (send-bytes ∙ ap (λ (still : Bool). head_of ++ concat_map action_bytes (timer_after still)) f ∙ ap (λ (l : List ℕ). head_of ++ l) (bytes-none action_bytes) ∙ append-nil head_of))

    pub send-timed : (z : Intake) → y ≡ after head_of x → (acts : List Action) → timer_after (quiet held taken flag hs) ≡ acts → z ≡ after (concat_map action_bytes acts) y → z ≡ after whole_of x
    send-timed z e acts f w =
        both-after head_of (concat_map action_bytes acts) x y z e w ∙ ap (λ (l : List ℕ). after l x) (sym (send-bytes ∙ ap (λ (l : List Action). head_of ++ concat_map action_bytes l) f))

-- no timer follows
pub quiet-or : (a b c : Bool) → (a || b) ≡ true → (a || b || c) ≡ true
quiet-or true b c e = refl
quiet-or false true c e = refl
quiet-or false false c e = true≢ e

-- one follows where one is cached
pub loud-timer : (a b c d : Bool) → (a || b) ≡ false → d ≡ c → timer_after (a || b || not c) ≡ announce_action d false
unfolding announce_action
loud-timer true b c d e f = true≢ (sym e)
loud-timer false true c d e f = true≢ (sym e)
loud-timer false false true d e f = rw f refl
loud-timer false false false d e f = rw f refl

-- one piece and the others
module _ (held : ℕ → Bool) (rooms : List Room) where
  sends-one : (flag : Bool) (x : Piece) (xs : List Piece) → piece_actions held rooms flag (x ∷ xs) ≡ one_send held (piece_taken rooms x) flag x.peer x.ihaves ++ piece_actions held rooms (flag_after held (piece_taken rooms x) flag x.ihaves) xs
  unfolding piece_actions
  sends-one flag x xs = by (quiet held (piece_taken rooms x) flag x.ihaves)
    where
      by : (b : Bool) → (Sent x.peer (piece_taken rooms x) (IHave x.ihaves) ∷ (if b then piece_actions held rooms flag xs else Scheduled 1000 AnnounceDropped ∷ piece_actions held rooms true xs))
          ≡ (Sent x.peer (piece_taken rooms x) (IHave x.ihaves) ∷ timer_after b) ++ piece_actions held rooms (if b then flag else true) xs
      by true = refl
      by false = refl

  sends_none : (flag : Bool) → piece_actions held rooms flag [] ≡ []
  unfolding piece_actions
  sends_none flag = refl

  flags-one : (flag : Bool) (x : Piece) (xs : List Piece) → flag_after_all held rooms flag (x ∷ xs) ≡ flag_after_all held rooms (flag_after held (piece_taken rooms x) flag x.ihaves) xs
  unfolding flag_after_all
  flags-one flag x xs = refl

  flags-none : (flag : Bool) → flag_after_all held rooms flag [] ≡ flag
  unfolding flag_after_all
  flags-none flag = refl

  sends-append : (flag : Bool) (xs ys : List Piece) → piece_actions held rooms flag (xs ++ ys) ≡ piece_actions held rooms flag xs ++ piece_actions held rooms (flag_after_all held rooms flag xs) ys
  sends-append flag [] ys = (λ k. sym (sends_none flag) k ++ piece_actions held rooms (sym (flags-none flag) k) ys)
  sends-append flag (x ∷ xs) ys =
      let one = one_send held (piece_taken rooms x) flag x.peer x.ihaves in
      let next = flag_after held (piece_taken rooms x) flag x.ihaves in
      sends-one flag x (xs ++ ys)
      ∙ ap (λ (l : List Action). one ++ l) (sends-append next xs ys)
      ∙ sym (append_assoc one (piece_actions held rooms next xs) (piece_actions held rooms (flag_after_all held rooms next xs) ys))
      ∙ (λ k. sym (sends-one flag x xs) k ++ piece_actions held rooms (sym (flags-one flag x xs) k) ys)

-- the IHaves to one link: hs are still to be sent, from the nth on
pub record Linking (held : ℕ → Bool) (rooms : List Room) (p k : ℕ) (whole : List ℕ) (final : Bool) (start now : Intake) (hs : List Ihave) (nth : ℕ) (flag : Bool) : Type 0 where
  pub sofar : List ℕ
  pub fuel : ℕ
  pub bytes : whole ≡ sofar ++ concat_map action_bytes (piece_actions held rooms flag (numbered p nth (chunks fuel k hs)))
  pub written : now ≡ after sofar start
  pub flags : flag_after_all held rooms flag (numbered p nth (chunks fuel k hs)) ≡ final
  pub enough : length hs ≤ fuel

pub link_start : (held : ℕ → Bool) (rooms : List Room) (p k : ℕ) (queue : List Note) (flag : Bool) (start : Intake) → length (queued_for p queue) ≤ length queue
    → Linking held rooms p k (concat_map action_bytes (piece_actions held rooms flag (peer_pieces k queue p))) (flag_after_all held rooms flag (peer_pieces k queue p)) start start (queued_for p queue) 1 flag
unfolding peer_pieces
link_start held rooms p k queue flag start w = record { sofar = []; fuel = length queue; bytes = refl; written = sym (after_nil start); flags = refl; enough = w }

chunk-first : (k fuel : ℕ) (hs : List Ihave) → 0 < length hs → length hs ≤ fuel → chunks fuel k hs ≡ take k hs ∷ chunks (fuel - 1) k (drop k hs)
unfolding chunks
chunk-first k zero hs a b = absurd (omega arith)
chunk-first k (suc fuel) [] a b = absurd (omega arith)
chunk-first k (suc fuel) (h ∷ hs) a b = ap (λ (n : ℕ). take k (h ∷ hs) ∷ chunks n k (drop k (h ∷ hs))) (plain fuel)
  where
    plain : (n : ℕ) → n ≡ suc n - 1
    plain n = omega arith

pub chunk-last : (k fuel : ℕ) (hs : List Ihave) → length hs ≡ 0 → chunks fuel k hs ≡ []
unfolding chunks
chunk-last k zero hs e = refl
chunk-last k (suc fuel) [] e = refl
chunk-last k (suc fuel) (h ∷ hs) e = absurd (omega arith)

pub numbered-none : (p n : ℕ) → numbered p n [] ≡ []
unfolding numbered
numbered-none p n = refl

module _ {held : ℕ → Bool} {rooms : List Room} {p k : ℕ} {whole : List ℕ} {final : Bool} {start now : Intake} {hs : List Ihave} {nth : ℕ} {flag : Bool}
    (li : Linking held rooms p k whole final start now hs nth flag) where
  -- one IHave more
  module _ (taken : Bool) (some : 0 < length hs) (k-some : 1 ≤ k) (t : taken ≡ kth_taken nth p rooms) where
    abbrev sent : List Action
    sent = one_send held taken flag p (take k hs)

    abbrev later : List Piece
    later = numbered p (nth + 1) (chunks (li.fuel - 1) k (drop k hs))

    abbrev left : List ℕ
    left = concat_map action_bytes (piece_actions held rooms (flag_after held taken flag (take k hs)) later)

    pieces_are : numbered p nth (chunks li.fuel k hs) ≡ record { peer = p; nth = nth; ihaves = take k hs } ∷ later
    unfolding numbered
    pieces_are =
        ap (numbered p nth) (chunk-first k li.fuel hs some li.enough)
        ∙ ap (λ (n : ℕ). record { peer = p; nth = nth; ihaves = take k hs } ∷ numbered p n (chunks (li.fuel - 1) k (drop k hs))) (plain nth)
      where
        plain : (n : ℕ) → suc n ≡ n + 1
        plain n = omega arith

    acts-are : piece_actions held rooms flag (numbered p nth (chunks li.fuel k hs)) ≡ sent ++ piece_actions held rooms (flag_after held taken flag (take k hs)) later
    unfolding piece_taken
    acts-are =
        ap (piece_actions held rooms flag) pieces_are
        ∙ sends-one held rooms flag (record { peer = p; nth = nth; ihaves = take k hs }) later
        ∙ (λ i. one_send held (sym t i) flag p (take k hs) ++ piece_actions held rooms (flag_after held (sym t i) flag (take k hs)) later)

    split-link : whole ≡ li.sofar ++ (concat_map action_bytes sent ++ left)
    split-link = li.bytes ∙ ap (λ (l : List ℕ). li.sofar ++ l) (ap (concat_map action_bytes) acts-are ∙ concat-append action_bytes sent (piece_actions held rooms (flag_after held taken flag (take k hs)) later))

    pub link-next : (now' : Intake) (flag' : Bool) (rest : List Ihave) → now' ≡ after (concat_map action_bytes sent) now → flag' ≡ flag_after held taken flag (take k hs) → rest ≡ drop k hs
        → Linking held rooms p k whole final start now' rest (nth + 1) flag'
    unfolding piece_taken
    link-next now' flag' rest w f r = record {
      sofar = li.sofar ++ concat_map action_bytes sent;
      fuel = li.fuel - 1;
      bytes = split-link ∙ sym (append_assoc li.sofar (concat_map action_bytes sent) left)
          ∙ (λ i. (li.sofar ++ concat_map action_bytes sent) ++ concat_map action_bytes (piece_actions held rooms (sym f i) (numbered p (nth + 1) (chunks (li.fuel - 1) k (sym r i)))));
      written = both-after li.sofar (concat_map action_bytes sent) start now now' li.written w;
      flags = (λ i. flag_after_all held rooms (f i) (numbered p (nth + 1) (chunks (li.fuel - 1) k (r i))))
          ∙ (λ i. flag_after_all held rooms (flag_after held (t i) flag (take k hs)) later)
          ∙ sym (flags-one held rooms flag (record { peer = p; nth = nth; ihaves = take k hs }) later)
          ∙ ap (flag_after_all held rooms flag) (sym pieces_are) ∙ li.flags;
      enough = omega (arith, ap length r, length-drop k hs, li.enough, k-some);
    }

  -- all are sent
  module _ (none : length hs ≡ 0) where
    no_pieces : numbered p nth (chunks li.fuel k hs) ≡ []
    no_pieces = ap (numbered p nth) (chunk-last k li.fuel hs none) ∙ numbered-none p nth

    pub link-written : now ≡ after whole start
    link-written =
        let w : whole ≡ li.sofar = li.bytes ∙ ap (λ (l : List ℕ). li.sofar ++ l) (ap (λ (xs : List Piece). concat_map action_bytes (piece_actions held rooms flag xs)) no_pieces ∙ ap (concat_map action_bytes) (sends_none held rooms flag) ∙ bytes-none action_bytes) ∙ append-nil li.sofar in
        li.written ∙ ap (λ (l : List ℕ). after l start) (sym w)

    pub link-flag : flag ≡ final
    link-flag = sym (ap (flag_after_all held rooms flag) no_pieces ∙ flags-none held rooms flag) ∙ li.flags

-- the links: the peers ps are still to be sent to
pub record Going (held : ℕ → Bool) (rooms : List Room) (k : ℕ) (queue : List Note) (whole : List ℕ) (start now : Intake) (ps : List ℕ) (flag : Bool) : Type 0 where
  pub sofar : List ℕ
  pub bytes : whole ≡ sofar ++ concat_map action_bytes (piece_actions held rooms flag (pieces ps k queue))
  pub written : now ≡ after sofar start

pub going_start : (held : ℕ → Bool) (rooms : List Room) (k : ℕ) (queue : List Note) (whole : List ℕ) (start : Intake) (ps : List ℕ) (flag : Bool) → whole ≡ concat_map action_bytes (piece_actions held rooms flag (pieces ps k queue))
    → Going held rooms k queue whole start start ps flag
going_start held rooms k queue whole start ps flag e = record { sofar = []; bytes = e; written = sym (after_nil start) }

module _ {held : ℕ → Bool} {rooms : List Room} {k : ℕ} {queue : List Note} {whole : List ℕ} {start now : Intake} {flag : Bool} (ps : List ℕ)
    (go : Going held rooms k queue whole start now ps flag) where
  module _ (p : ℕ) (qs : List ℕ) (e : ps ≡ p ∷ qs) where
    abbrev own : List Piece
    own = peer_pieces k queue p

    abbrev ahead : List ℕ
    ahead = concat_map action_bytes (piece_actions held rooms (flag_after_all held rooms flag own) (pieces qs k queue))

    split-all : whole ≡ go.sofar ++ (concat_map action_bytes (piece_actions held rooms flag own) ++ ahead)
    unfolding pieces
    split-all =
        go.bytes ∙ ap (λ (l : List ℕ). go.sofar ++ concat_map action_bytes (piece_actions held rooms flag (pieces l k queue))) e
        ∙ ap (λ (l : List ℕ). go.sofar ++ l) (ap (concat_map action_bytes) (sends-append held rooms flag own (pieces qs k queue))
        ∙ concat-append action_bytes (piece_actions held rooms flag own) (piece_actions held rooms (flag_after_all held rooms flag own) (pieces qs k queue)))

    pub going_next : (now' : Intake) (flag' : Bool) → now' ≡ after (concat_map action_bytes (piece_actions held rooms flag own)) now → flag' ≡ flag_after_all held rooms flag own
        → Going held rooms k queue whole start now' qs flag'
    going_next now' flag' w f = record {
      sofar = go.sofar ++ concat_map action_bytes (piece_actions held rooms flag own);
      bytes = split-all ∙ sym (append_assoc go.sofar (concat_map action_bytes (piece_actions held rooms flag own)) ahead)
          ∙ (λ i. (go.sofar ++ concat_map action_bytes (piece_actions held rooms flag own)) ++ concat_map action_bytes (piece_actions held rooms (sym f i) (pieces qs k queue)));
      written = both-after go.sofar (concat_map action_bytes (piece_actions held rooms flag own)) start now now' go.written w;
    }

  pub going_end : ps ≡ [] → now ≡ after whole start
  unfolding pieces
  going_end e =
      let w : whole ≡ go.sofar = go.bytes ∙ ap (λ (l : List ℕ). go.sofar ++ concat_map action_bytes (piece_actions held rooms flag (pieces l k queue))) e
      ∙ ap (λ (l : List ℕ). go.sofar ++ l) (ap (concat_map action_bytes) (sends_none held rooms flag) ∙ bytes-none action_bytes) ∙ append-nil go.sofar in
      go.written ∙ ap (λ (l : List ℕ). after l start) (sym w)

-- of an empty queue nothing is sent
pub no-sends : (rooms : List Room) (s : State) → s.queue ≡ [] → concat_map action_bytes (dispatch_actions rooms s) ≡ []
unfolding dispatch_actions queued_peers pieces piece_actions concat_map
no-sends rooms s e = ap (λ (q : List Note). concat_map action_bytes (piece_actions (cached_in s.cache) rooms s.timers.announce (pieces (queued_peers q) (per_message s.settings.max_message_size) q))) e
