-- DEMAND 1 of this board (docs/RULES.md, 'Receiver', 'Calls', ST4, ST5, ER4 and ER5), its numbers written out; digits, the size L + 9 and the exclusive or
-- are those of `wire`.
-- Every byte, gap, erase step and start, on any board, store and lent buffer, is refused with the number of the first check that fails, and goes on
-- where none does. A refusal leaves every stored byte, and so every setting, and the lent buffer; 1 and 9 to 13 change nothing at all; after 2 to
-- 8 nothing is held. A refused start gives no board, and the value that stands for none is refused by every call. Sound boards stay sound.
use Rattle.std.specs.Prelude.{Bool, true, false, cond, not, ◌&&◌, ◌||◌, List, [], ◌∷◌, ◌++◌, ◌⊎◌, ◌≡◌, ℕ, ◌+◌, ◌-◌, ◌≤◌, leb, ltb, eqb, length, get_or, take, drop}
use Rattle.std.proofs.Math.Option.{Option, none, some}
use Rattle.bitfield.specs.Field.{get_field}
use Rattle.wire.specs.Digits.{two_at}
use Rattle.wire.specs.Packet.{xor_of, size}
use Rattle.wire.specs.Checks.{Check, first_failed}
use Rattle.plan.specs.Stores.{Entry, entry, applied, range_of}
use Rattle.calls.specs.Board.{Identity, Answer, waiting, silent, begun, more, ended, refused, reply, Erase, idle, pending, is_pending, board, start_refused, after}
use Rattle.calls.specs.Calls.{same, on_call, on_step, on_start}
use Rattle.packets.specs.Packets.{BoardState, BoardOutcome}
use Rattle.board.specs.BoardKind.{Call, byte, gap, board_kind}
use Rattle.board.specs.Demand3.{unused_bytes}
use Rattle.board.specs.View.{state_of, start_refusal_in}
use Rattle.board.specs.Values.{start_leaves}

-- ---- refusals

-- the number that an answer refuses with
abbrev pub refusal_in : Answer ℕ → Option ℕ
refusal_in waiting = none
refusal_in silent = none
refusal_in begun = none
refusal_in more = none
refusal_in ended = none
refusal_in (refused n) = some n
refusal_in (reply n) = none

-- ---- a header and a packet

-- types A, C and E
abbrev pub is_type : ℕ → Bool
is_type kind = eqb kind 0x41 || (eqb kind 0x43 || eqb kind 0x45)

-- good length digits of 4 to 64
abbrev pub is_l : Option ℕ → Bool
is_l (some l) = leb 4 l && leb l 64
is_l none = false

-- at byte 7 the header is judged: '0' twice, the type, the length
unfoldable pub header_checks : List ℕ → List Check
header_checks g =
    (eqb (length g) 7 && not (eqb (get_or g 1 0) 0x30 && eqb (get_or g 3 0) 0x30), 2)
    ∷ (eqb (length g) 7 && not (is_type (get_or g 4 0)), 3)
    ∷ (eqb (length g) 7 && not (is_l (two_at g 5)), 4)
    ∷ []

-- all L + 9 bytes are there
abbrev pub is_whole : List ℕ → Bool
is_whole g = ltb 7 (length g) && leb (size g) (length g)

-- then the packet is judged: CR, the check code, STX and ETX, the destination
unfoldable pub packet_checks : ℕ → List ℕ → List Check
packet_checks id g =
    (is_whole g && not (eqb (get_or g (size g - 1) 0) 0x0D), 5)
    ∷ (is_whole g && not (eqb (get_or g (size g - 2) 0) (xor_of (take (size g - 3) (drop 1 g)))), 6)
    ∷ (is_whole g && not (eqb (get_or g 7 0) 0x02 && eqb (get_or g (size g - 3) 0) 0x03), 7)
    ∷ (is_whole g && not (eqb (get_or g 2 0) (0x40 + id) || eqb (get_or g 2 0) 0x2A), 8)
    ∷ []

-- ---- sound (ST4)

-- first bit, width, least and most of each field
abbrev pub ranges : List (ℕ × ℕ × ℕ × ℕ)
ranges =
    (8, 7, 0, 100) ∷ (15, 2, 0, 2) ∷ (17, 6, 0, 60) ∷ (23, 7, 0, 100) ∷ (30, 7, 0, 100) ∷ (37, 7, 0, 100) ∷ (44, 7, 0, 100) ∷ (51, 2, 1, 2)
    ∷ (53, 1, 0, 1) ∷ (54, 7, 0, 99) ∷ (61, 4, 1, 12) ∷ (65, 5, 1, 31) ∷ (70, 3, 0, 6) ∷ (73, 5, 0, 23) ∷ (78, 6, 0, 59)
    ∷ (84, 5, 0, 16) ∷ (89, 5, 0, 16) ∷ []

unfoldable pub all_in_range : List ℕ → List (ℕ × ℕ × ℕ × ℕ) → Bool
all_in_range m [] = true
all_in_range m ((at, width, least, most) ∷ fs) = leb least (get_field m at width) && leb (get_field m at width) most && all_in_range m fs

-- where each program's ON and OFF time begins: five bits of an hour, then six of a minute
abbrev pub times : List ℕ
times = 352 ∷ 363 ∷ 392 ∷ 403 ∷ 432 ∷ 443 ∷ 472 ∷ 483 ∷ 512 ∷ 523 ∷ 552 ∷ 563 ∷ 592 ∷ 603 ∷ []

-- hours to 24 and minutes to 60, where 24 and 60 come together
abbrev pub is_on_off : ℕ → ℕ → Bool
is_on_off hour minute = leb hour 24 && leb minute 60 && cond (eqb hour 24) (eqb minute 60) (not (eqb minute 60))

unfoldable pub all_times : List ℕ → List ℕ → Bool
all_times m [] = true
all_times m (at ∷ ats) = is_on_off (get_field m at 5) (get_field m (at + 5) 6) && all_times m ats

-- ID 1 to 8, serial number and model of at most 16 bytes
abbrev pub is_known : Identity → Bool
is_known i = leb 1 i.id && leb i.id 8 && leb (length i.serial) 16 && leb (length i.model) 16

-- none held; or 01h first, fewer than L + 9, and from seven on a header that passes
abbrev pub is_beginning : List ℕ → Bool
is_beginning held =
    eqb (length held) 0
    || (eqb (get_or held 0 0) 0x01
    && (ltb (length held) 7
    || (eqb (get_or held 1 0) 0x30 && eqb (get_or held 3 0) 0x30 && is_type (get_or held 4 0) && is_l (two_at held 5) && ltb (length held) (size held))))

abbrev pub is_sound_by : Erase Bool → List ℕ → List ℕ → Bool
is_sound_by idle held m = eqb (get_or m 0 0) 0x01 && all_in_range m ranges && all_times m times && is_beginning held
is_sound_by (pending p owed) held m =
    eqb (get_or m 0 0) 0xE7 && eqb (length held) 0 && leb 1 p && leb p 128 && same (drop 1 (take p m)) (drop 1 (take p unused_bytes))

unfoldable pub is_sound_board : BoardState → List ℕ → Bool
is_sound_board s m = is_known s.ident && eqb (length m) 128 && is_sound_by s.erase s.held m

-- ---- the checks of each call, in their order

unfoldable pub byte_checks : ℕ → BoardState → (m lent : List ℕ) → List Check
byte_checks b s m lent =
    (ltb (length lent) 64, 10)
    ∷ (not (is_sound_board s m), 12)
    ∷ (is_pending s.erase, 9)
    ∷ (eqb (length s.held) 0 && not (eqb b 0x01), 1)
    ∷ header_checks (s.held ++ (b ∷ [])) ++ packet_checks s.ident.id (s.held ++ (b ∷ []))

unfoldable pub gap_checks : BoardState → List ℕ → List Check
gap_checks s m = (not (is_sound_board s m), 12) ∷ (is_pending s.erase, 9) ∷ []

unfoldable pub step_checks : BoardState → (m lent : List ℕ) → List Check
step_checks s m lent = (ltb (length lent) 64, 10) ∷ (not (is_sound_board s m), 12) ∷ (not (is_pending s.erase), 13) ∷ []

-- 128 bytes with mark 00h, 01h or E7h; then the identity, with 00h and 01h the fields, and with 01h the programs
unfoldable pub start_checks : Identity → List ℕ → List Check
start_checks i m =
    (not (eqb (length m) 128 && (eqb (get_or m 0 0) 0x00 || (eqb (get_or m 0 0) 0x01 || eqb (get_or m 0 0) 0xE7))), 11)
    ∷ (not (is_known i && (eqb (get_or m 0 0) 0xE7 || (all_in_range m ranges && (eqb (get_or m 0 0) 0x00 || all_times m times)))), 12)
    ∷ []

-- ---- what a call leaves

-- nothing is stored, and the lent buffer is as it was
pub record Untouched (lent : List ℕ) (o : BoardOutcome) : Type 0 where
  pub stores : o.stores ≡ []
  pub buffer : o.buffer ≡ lent

-- the board too is as it was
pub record Unchanged (s : BoardState) (lent : List ℕ) (o : BoardOutcome) : Type 0 where
  pub state : o.state ≡ s
  pub untouched : Untouched lent o

-- the same board with these bytes held, and no erase pending
pub record Holds (s : BoardState) (bytes lent : List ℕ) (o : BoardOutcome) : Type 0 where
  pub ident : o.state.ident ≡ s.ident
  pub held : o.state.held ≡ bytes
  pub erase : o.state.erase ≡ idle
  pub untouched : Untouched lent o

-- what a start gives: nothing held; with mark E7h an erase pending at place 1, its reply not owed
abbrev pub started_state : Identity → List ℕ → BoardState
started_state i m = record { ident = i; held = []; erase = cond (eqb (get_or m 0 0) 0xE7) (pending 1 false) idle }

-- what a start on mark 00h stores: the unused programs, bytes 44 to 78 in their order, and then 01h in byte 0
abbrev pub start_stores : List ℕ → List Entry
start_stores m = cond (eqb (get_or m 0 0) 0x00) (range_of 44 (take 35 (drop 44 unused_bytes)) ++ (entry 0 0x01 ∷ [])) []

-- the value that stands for no board has ID 0: each call on it is refused, a byte or a step with 10 for a short buffer and else with 12
abbrev pub no_board_state : BoardState
no_board_state = record { ident = record { id = 0; serial = []; model = [] }; held = []; erase = idle }

abbrev pub no_board_refusal : Call → List ℕ → ℕ
no_board_refusal (byte b) lent = cond (ltb (length lent) 64) 10 12
no_board_refusal gap lent = 12

-- ---- the demand

pub record Demand1 : Type 0 where
  -- each call is refused by the first check that fails
  pub byte_checked : (b : ℕ) (s : BoardState) (m lent : List ℕ) → refusal_in (on_call board_kind (byte b) s m lent).answer ≡ first_failed (byte_checks b s m lent)
  pub gap_checked : (s : BoardState) (m lent : List ℕ) → refusal_in (on_call board_kind gap s m lent).answer ≡ first_failed (gap_checks s m)
  pub step_checked : (s : BoardState) (m lent : List ℕ) → refusal_in (on_step board_kind s m lent).answer ≡ first_failed (step_checks s m lent)
  pub start_checked : (i : Identity) (m : List ℕ) → start_refusal_in (on_start board_kind i m) ≡ first_failed (start_checks i m)
  -- 1 and 9 to 13 change nothing at all; a step has no others
  pub nothing_changed : (c : Call) (s : BoardState) (m lent : List ℕ) (n : ℕ) → (on_call board_kind c s m lent).answer ≡ refused n
      → (n ≡ 1) ⊎ (9 ≤ n) → Unchanged s lent (on_call board_kind c s m lent)
  pub nothing_stepped : (s : BoardState) (m lent : List ℕ) (n : ℕ) → (on_step board_kind s m lent).answer ≡ refused n
      → Unchanged s lent (on_step board_kind s m lent)
  -- every refusal leaves all stored bytes and the lent buffer
  pub refusal_keeps : (c : Call) (s : BoardState) (m lent : List ℕ) (n : ℕ) → (on_call board_kind c s m lent).answer ≡ refused n
      → Untouched lent (on_call board_kind c s m lent)
  -- after 2 to 8 nothing is held
  pub emptied : (c : Call) (s : BoardState) (m lent : List ℕ) (n : ℕ) → (on_call board_kind c s m lent).answer ≡ refused n
      → 2 ≤ n → n ≤ 8 → Holds s [] lent (on_call board_kind c s m lent)
  -- a byte that is not refused and completes no packet is held, and waits; a gap that is not refused leaves nothing held, and waits
  pub byte_held : (b : ℕ) (s : BoardState) (m lent : List ℕ) → first_failed (byte_checks b s m lent) ≡ none → is_whole (s.held ++ (b ∷ [])) ≡ false
      → ((on_call board_kind (byte b) s m lent).answer ≡ waiting) × Holds s (s.held ++ (b ∷ [])) lent (on_call board_kind (byte b) s m lent)
  pub gap_empties : (s : BoardState) (m lent : List ℕ) → first_failed (gap_checks s m) ≡ none
      → ((on_call board_kind gap s m lent).answer ≡ waiting) × Holds s [] lent (on_call board_kind gap s m lent)
  -- after a byte that completes a packet and is not refused nothing is held
  pub packet_empties : (b : ℕ) (s : BoardState) (m lent : List ℕ) → first_failed (byte_checks b s m lent) ≡ none → is_whole (s.held ++ (b ∷ [])) ≡ true
      → (on_call board_kind (byte b) s m lent).state.held ≡ []
  -- a start that is not refused gives a board of its identity and stores what is said; a refused one gives no board
  pub start_given : (i : Identity) (m : List ℕ) → first_failed (start_checks i m) ≡ none → on_start board_kind i m ≡ board (started_state i m) (start_stores m)
  pub no_board_law : (n : ℕ) → state_of (start_leaves (start_refused n)) ≡ no_board_state
  pub no_board_call : (c : Call) (m lent : List ℕ) → ((on_call board_kind c no_board_state m lent).answer ≡ refused (no_board_refusal c lent))
      × Unchanged no_board_state lent (on_call board_kind c no_board_state m lent)
  pub no_board_step : (m lent : List ℕ) → ((on_step board_kind no_board_state m lent).answer ≡ refused (cond (ltb (length lent) 64) 10 12))
      × Unchanged no_board_state lent (on_step board_kind no_board_state m lent)
  -- sound boards stay sound, and what a start gives is sound
  pub call_sound : (c : Call) (s : BoardState) (m lent : List ℕ) → is_sound_board s m ≡ true
      → is_sound_board (on_call board_kind c s m lent).state (after (on_call board_kind c s m lent) m) ≡ true
  pub step_sound : (s : BoardState) (m lent : List ℕ) → is_sound_board s m ≡ true
      → is_sound_board (on_step board_kind s m lent).state (after (on_step board_kind s m lent) m) ≡ true
  pub start_sound : (i : Identity) (m : List ℕ) (s : BoardState) (es : List Entry) → on_start board_kind i m ≡ board s es
      → is_sound_board s (applied es m) ≡ true
