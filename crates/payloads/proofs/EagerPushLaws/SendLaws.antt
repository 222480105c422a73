-- The sends of an eager push, link by link.
-- Assumes nothing.
use Rattle.payloads.proofs.Words.{◌≡◌, ℕ, ◌+◌, ◌≤◌, ◌<◌, refl, sym, ap, ◌∙◌, Bool, true, false, not, ◌||◌, List, [], ◌∷◌, ◌++◌, map, length, get_or, append_assoc, leb, is_empty, concat-append, concat-one, Sent, message_bytes, taken_byte, Intake, after, after_append, after_nil, State, announce_action, peer_at, link_at, rooms_of, AtRest, numbered_link, Call, NumberedLink, has_link, AllBelow, LinkSet}
use Rattle.storage.specs.Lists.Base.{concat_map}
use Rattle.postcard.specs.Number.{number_bytes}
use Rattle.postcard.specs.Message.{action_bytes}
use Rattle.postcard.specs.Output.{send_head}
use Rattle.decide.specs.Rooms.{first_send}
use Rattle.decide.specs.RecordGrowth.{push_actions}
use Rattle.wire.specs.declared.encode.message.Gossip.{Gossip}
use Rattle.payloads.proofs.EagerLaws.TargetLaws.{Roomed, first, first-none, first-in, first_out, first-all, backs_to, backs-none, backs-held, backs-taken, backs-out, backs-all}
use Rattle.payloads.specs.EagerPush.Targets.{link_peers, push_backs}
use Rattle.payloads.specs.EagerPush.Sends.{gossip_value, sends_bytes, push_bytes}
use Rattle.payloads.proofs.EagerPushLaws.TargetLaws.{link_peer, rest-roomed}

map-more : {A B : Type 0} (f : A → B) (xs ys : List A) → map f (xs ++ ys) ≡ map f xs ++ map f ys
map-more f [] ys = refl
map-more f (x ∷ xs) ys = ap (λ (l : List _). f x ∷ l) (map-more f xs ys)

filled : (ps : List ℕ) (p : ℕ) → is_empty (ps ++ (p ∷ [])) ≡ false
filled [] p = refl
filled (q ∷ ps) p = refl

or-false : (b : Bool) → (b || false) ≡ b
or-false true = refl
or-false false = refl

or-true : (b : Bool) → (b || true) ≡ true
or-true true = refl
or-true false = refl

-- a push of a message
module _ (call : Call) (to : LinkSet) (g : Gossip) (s : State) where
  abbrev sends : List ℕ → List ℕ
  sends ps = concat_map action_bytes (map (first_send (rooms_of call s) (gossip_value g)) ps)

  -- the sends to those among the first i links
  abbrev pub sends_to : ℕ → List ℕ
  sends_to i = sends (first to s i)

  sends-append : (ps qs : List ℕ) → sends (ps ++ qs) ≡ sends ps ++ sends qs
  sends-append ps qs =
      ap (concat_map action_bytes) (map-more (first_send (rooms_of call s) (gossip_value g)) ps qs)
      ∙ concat-append action_bytes (map (first_send (rooms_of call s) (gossip_value g)) ps) (map (first_send (rooms_of call s) (gossip_value g)) qs)

  pub sends-start : (h : Intake) → h ≡ after (sends_to 0) h
  unfolding concat_map
  sends-start h = sym (ap (λ (ps : List ℕ). after (sends ps) h) (first-none to s) ∙ after_nil h)

  pub sends-done : (i : ℕ) → i ≡ length s.links → length s.links ≤ 32 → AllBelow to (length s.links) → (h now : Intake) → now ≡ after (sends_to i) h → now ≡ after (sends_bytes call to g s) h
  sends-done i e q b h now a = a ∙ ap (λ (ps : List ℕ). after (sends ps) h) (first-all to s i e q b)

  module _ (i : ℕ) (q : i < length s.links) where
    pub sends-skip : (b : Bool) → b ≡ has_link to i → b ≡ false → (h now : Intake) → now ≡ after (sends_to i) h → now ≡ after (sends_to (i + 1)) h
    sends-skip b k t h now a = a ∙ ap (λ (ps : List ℕ). after (sends ps) h) (sym (first_out to s i (sym k ∙ t)))

    module _ (rest' : AtRest s) (b : Bool) (k : b ≡ has_link to i) (t : b ≡ true) (at : NumberedLink) (et : at ≡ numbered_link i (link_at s i)) (taken : Bool) (er : taken ≡ leb 1 (get_or call.rooms.now.links i 0)) where
      same-send : first_send (rooms_of call s) (gossip_value g) (peer_at s i) ≡ Sent at.peer taken (gossip_value g)
      unfolding first_send
      same-send = λ j. Sent ((link_peer s i q ∙ sym (ap (λ (l : NumberedLink). l.peer) et)) j) (((rest-roomed s call rest').first i q ∙ sym er) j) (gossip_value g)

      abbrev sent : List ℕ
      sent = send_head at.peer taken ++ message_bytes (gossip_value g)

      one : action_bytes (Sent at.peer taken (gossip_value g)) ≡ sent
      unfolding action_bytes send_head
      one = sym (append_assoc (1 ∷ number_bytes at.peer) (taken_byte taken ∷ []) (message_bytes (gossip_value g)))

      more : sends_to (i + 1) ≡ sends_to i ++ sent
      more =
          ap sends (first-in to s i (sym k ∙ t))
          ∙ sends-append (first to s i) (peer_at s i ∷ [])
          ∙ ap (λ (l : List ℕ). sends_to i ++ l) (concat-one action_bytes (first_send (rooms_of call s) (gossip_value g) (peer_at s i)) ∙ ap action_bytes same-send ∙ one)

      pub sends-more : (h now next : Intake) → now ≡ after (sends_to i) h → next ≡ after sent now → next ≡ after (sends_to (i + 1)) h
      sends-more h now next a e = e ∙ ap (after sent) a ∙ after_append (sends_to i) sent h ∙ ap (λ (l : List ℕ). after l h) (sym more)

  -- whether any of them was handed back
  abbrev pub any_back : ℕ → Bool
  any_back i = not (is_empty (backs_to to call s i))

  pub back-start : false ≡ any_back 0
  back-start = sym (ap (λ (ps : List ℕ). not (is_empty ps)) (backs-none to call s))

  pub back-done : (i : ℕ) → i ≡ length s.links → length s.links ≤ 32 → AllBelow to (length s.links) → (b : Bool) → b ≡ any_back i → b ≡ not (is_empty (push_backs call to s))
  back-done i e q a b f = f ∙ ap (λ (ps : List ℕ). not (is_empty ps)) (backs-all to call s i e q a)

  module _ (rest' : AtRest s) (i : ℕ) (q : i < length s.links) where
    roomed : Roomed s call
    roomed = rest-roomed s call rest'

    pub back-skip : (found : Bool) → found ≡ has_link to i → found ≡ false → (b : Bool) → b ≡ any_back i → b ≡ any_back (i + 1)
    back-skip found e t b k = k ∙ ap (λ (ps : List ℕ). not (is_empty ps)) (sym (backs-out to call s i (sym e ∙ t)))

    pub back-more : (found : Bool) → found ≡ has_link to i → found ≡ true → (taken : Bool) → taken ≡ leb 1 (get_or call.rooms.now.links i 0) → (b : Bool) → b ≡ any_back i → (b || not taken) ≡ any_back (i + 1)
    back-more found e y true t b k = or-false b ∙ k ∙ ap (λ (ps : List ℕ). not (is_empty ps)) (sym (backs-taken to call s roomed i q (sym e ∙ y) (sym t)))
    back-more found e y false t b k =
        or-true b ∙ sym (ap (λ (ps : List ℕ). not (is_empty ps)) (backs-held to call s roomed i q (sym e ∙ y) (sym t)) ∙ ap not (filled (backs_to to call s i) (peer_at s i)))

-- the record's timer behind the sends
pub push-parts : (call : Call) (to : LinkSet) (g : Gossip) (s : State) (back flag : Bool) → back ≡ not (is_empty (push_backs call to s)) → flag ≡ s.timers.announce
    → push_bytes call to g s ≡ sends_bytes call to g s ++ concat_map action_bytes (announce_action back flag)
unfolding push_actions
push-parts call to g s back flag e f =
    concat-append action_bytes (map (first_send (rooms_of call s) (gossip_value g)) (link_peers to s)) (announce_action (not (is_empty (push_backs call to s))) s.timers.announce)
    ∙ sym (λ k. sends_bytes call to g s ++ concat_map action_bytes (announce_action (e k) (f k)))
