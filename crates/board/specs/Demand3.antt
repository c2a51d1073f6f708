-- DEMAND 3 of this board (docs/RULES.md, 'Demand 3', D3a to D3e), its numbers written out.
-- Take a board with any past and let it accept an erase. Whatever list of bytes, gaps, erase steps and power cuts follows, with lent
-- buffers of any length and content, what is seen of it is `expected`: until the 128th step since the acceptance or the latest start
-- nothing is sent; the 128th leaves the bytes of an unused board; and from then on the board shows what an unused board shows.
use Rattle.std.specs.Prelude.{Bool, true, false, cond, List, [], ◌∷◌, ◌++◌, map, ◌⊎◌, ◌≡◌, ℕ, suc, ◌+◌, ◌≤◌, ltb, eqb, length, get_or, set, drop, replicate}
use Rattle.std.specs.Int.Bits.{bit_xor}
use Rattle.plan.specs.Stores.{applied}
use Rattle.calls.specs.Board.{Identity, Answer, waiting, silent, begun, more, ended, refused, reply, idle, Started, board, start_refused, after}
use Rattle.calls.specs.Calls.{is_sound, on_start}
use Rattle.calls.specs.Lists.{Event, call, step, cut, Seen, answered, started, unstarted, AllStarted, run, Acceptance, trace_after, identity, left, ends}
use Rattle.packets.specs.Packets.{BoardState}
use Rattle.board.specs.BoardKind.{Call, byte, gap, board_kind}

abbrev pub Events : Type 0
Events = List (Event Call)

abbrev pub Trace : Type 0
Trace = List (Seen ℕ)

-- the 128 bytes of an unused board
abbrev pub unused_bytes : List ℕ
unused_bytes =
    0x01 ∷ 0x8C ∷ 0x3C ∷ 0xC9 ∷ 0x91 ∷ 0x4A ∷ 0x0C ∷ 0x00 ∷ 0x87 ∷ 0x00 ∷ 0x00 ∷ 0x00 ∷ replicate 32 0x00
    ++ (0xC7 ∷ 0x98 ∷ 0xF0 ∷ 0x00 ∷ 0x00 ∷ 0xC7 ∷ 0x98 ∷ 0xF0 ∷ 0x00 ∷ 0x00 ∷ 0xC7 ∷ 0x98 ∷ 0xF0 ∷ 0x00 ∷ 0x00
    ∷ 0xC7 ∷ 0x98 ∷ 0xF0 ∷ 0x00 ∷ 0x00 ∷ 0xC7 ∷ 0x98 ∷ 0xF0 ∷ 0x00 ∷ 0x00 ∷ 0xC7 ∷ 0x98 ∷ 0xF0 ∷ 0x00 ∷ 0x00
    ∷ 0xC7 ∷ 0x98 ∷ 0xF0 ∷ 0x00 ∷ 0x00 ∷ replicate 49 0x00)

-- the 27 bytes of the erase's Set reply: 00, F0 01, type 01, max 0001, value 0001
abbrev pub erase_reply_bytes : ℕ → List ℕ
erase_reply_bytes id =
    0x01 ∷ 0x30 ∷ 0x30 ∷ (0x40 + id) ∷ 0x46 ∷ 0x31 ∷ 0x32 ∷ 0x02
    ∷ 0x30 ∷ 0x30 ∷ 0x46 ∷ 0x30 ∷ 0x30 ∷ 0x31 ∷ 0x30 ∷ 0x31 ∷ 0x30 ∷ 0x30 ∷ 0x30 ∷ 0x31 ∷ 0x30 ∷ 0x30 ∷ 0x30 ∷ 0x31
    ∷ 0x03 ∷ bit_xor 0x32 (0x40 + id) ∷ 0x0D ∷ []

-- the unused board: what a start gives on an unused board's bytes and the same identity
unfoldable pub unused_trace : Identity → Events → Trace
unused_trace i es = seen_from (on_start board_kind i unused_bytes)
  where
    seen_from : Started BoardState → Trace
    seen_from (board s stores) = run board_kind i s (applied stores unused_bytes) es
    seen_from (start_refused n) = unstarted n ∷ []

-- What must be seen of a list after the acceptance. n steps have run since the acceptance or the latest start, m is the store; `owed`:
-- the request went to this board's own address and no start came since.
unfoldable pub expected : Identity → Bool → ℕ → List ℕ → Events → Trace
expected i owed n m [] = []
expected i owed n m (call (byte b) lent ∷ es) = answered (refused (cond (ltb (length lent) 64) 10 9)) lent m ∷ expected i owed n m es
expected i owed n m (call gap lent ∷ es) = answered (refused 9) lent m ∷ expected i owed n m es
expected i owed n m (cut ∷ es) = started m ∷ expected i false 0 m es
expected i owed n m (step lent ∷ es) =
    cond (ltb (length lent) 64) (answered (refused 10) lent m ∷ expected i owed n m es)
    (cond (ltb n 127)
    (answered more lent (set m (suc n) (get_or unused_bytes (suc n) 0)) ∷ expected i owed (suc n) (set m (suc n) (get_or unused_bytes (suc n) 0)) es)
    (answered (cond owed (reply 27) ended) (cond owed (erase_reply_bytes i.id ++ drop 27 lent) lent) unused_bytes ∷ unused_trace i es))

-- nothing is sent
unfoldable pub NoneSent : Trace → Type 0
NoneSent [] = Unit {0}
NoneSent (answered (reply n) lent m ∷ os) = ⊥
NoneSent (answered waiting lent m ∷ os) = NoneSent os
NoneSent (answered silent lent m ∷ os) = NoneSent os
NoneSent (answered begun lent m ∷ os) = NoneSent os
NoneSent (answered more lent m ∷ os) = NoneSent os
NoneSent (answered ended lent m ∷ os) = NoneSent os
NoneSent (answered (refused n) lent m ∷ os) = NoneSent os
NoneSent (started m ∷ os) = NoneSent os
NoneSent (unstarted n ∷ os) = NoneSent os

-- a 128th step is in the list, n having run before it
unfoldable pub reaches : ℕ → Events → Bool
reaches n [] = false
reaches n (call c lent ∷ es) = reaches n es
reaches n (cut ∷ es) = reaches 0 es
reaches n (step lent ∷ es) = cond (ltb (length lent) 64) (reaches n es) (cond (ltb n 127) (reaches (suc n) es) true)

-- the answers in a trace
unfoldable pub answers_in : Trace → List (Answer ℕ)
answers_in [] = []
answers_in (answered a lent m ∷ os) = a ∷ answers_in os
answers_in (started m ∷ os) = answers_in os
answers_in (unstarted n ∷ os) = answers_in os

-- the erase request to an address: Set F0/01 to 1
abbrev pub erase_request : ℕ → List ℕ
erase_request dest =
    0x01 ∷ 0x30 ∷ dest ∷ 0x30 ∷ 0x45 ∷ 0x30 ∷ 0x41 ∷ 0x02 ∷ 0x46 ∷ 0x30 ∷ 0x30 ∷ 0x31 ∷ 0x30 ∷ 0x30 ∷ 0x30 ∷ 0x31 ∷ 0x03
    ∷ bit_xor 0x43 dest ∷ 0x0D ∷ []

-- the byte that answered begun completed a packet to the board's own address
unfoldable pub owed : Acceptance board_kind → Bool
owed a = eqb (get_or (packet_of a.given) 2 0) (0x40 + a.state.ident.id)
  where
    packet_of : Call → List ℕ
    packet_of (byte b) = a.state.held ++ (b ∷ [])
    packet_of gap = []

pub record Demand3 : Type 0 where
  -- a board that accepts has a store of 128 bytes
  pub accepted_size : (a : Acceptance board_kind) → length a.store ≡ 128
  -- the acceptance stores E7h in byte 0 and nothing else, and leaves the lent buffer alone
  pub accepted_store : (a : Acceptance board_kind) → after (left board_kind a) a.store ≡ set a.store 0 0xE7
  pub accepted_buffer : (a : Acceptance board_kind) → (left board_kind a).buffer ≡ a.lent
  -- what is seen of every list after it
  pub traced : (a : Acceptance board_kind) (es : Events) → trace_after board_kind a es ≡ expected (identity board_kind a) (owed a) 0 (set a.store 0 0xE7) es
  -- in other words: until the 128th step nothing is sent
  pub silent_until : (a : Acceptance board_kind) (es : Events) → reaches 0 es ≡ false → NoneSent (trace_after board_kind a es)
  -- no start is refused, before the 128th step and after it
  pub startable : (a : Acceptance board_kind) (es : Events) → AllStarted (trace_after board_kind a es)
  -- two boards of one identity, each erased by a list of its own, show the same to every list from then on
  pub alike : (a₁ a₂ : Acceptance board_kind) → identity board_kind a₁ ≡ identity board_kind a₂
      → (es₁ es₂ : Events) → ends 0 es₁ ≡ true → ends 0 es₂ ≡ true
      → (fs : Events) → drop (length es₁) (trace_after board_kind a₁ (es₁ ++ fs)) ≡ drop (length es₂) (trace_after board_kind a₂ (es₂ ++ fs))
  -- every sound board with no erase pending, on or in standby, accepts: a gap, and the request to its ID or to ALL
  pub acceptable : (s : BoardState) (m lent : List ℕ) (dest : ℕ) → is_sound board_kind s m ≡ true → s.erase ≡ idle → 64 ≤ length lent
      → (dest ≡ 0x40 + s.ident.id) ⊎ (dest ≡ 0x2A)
      → answers_in (run board_kind s.ident s m (call gap lent ∷ map (λ (b : ℕ). call (byte b) lent) (erase_request dest)))
      ≡ replicate 19 waiting ++ (begun ∷ [])
