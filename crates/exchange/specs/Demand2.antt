-- DEMAND 2 of board and station together (docs/RULES.md, 'Demand 2', RT1, RT2 and L3, the message table, AC1 to AC11, 'Schedules', S1 to S6, and 'Calendar', K1
-- and K2).
-- A request that the station writes is read by an idle board that it addresses as that request; a reply that a board writes is read by
-- the station with each value intact; so is every packet that spells a request, or a reply, with digits in either case; and each row of the message table does what Rows.antt and ScheduleRows.antt say of it.
use Rattle.std.specs.Prelude.{true, List, [], ◌∷◌, ◌++◌, ◌≡◌, ℕ, ◌+◌, ◌-◌, ◌≤◌, length, get_or, take, drop}
use Rattle.std.proofs.Math.Option.{some}
use Rattle.wire.specs.Packet.{size, packet_text}
use Rattle.messages.specs.Message.{Request, Reply, IsRequest, IsReply}
use Rattle.messages.specs.Message.Reply.{set_reply}
use Rattle.messages.specs.Read.{request_in}
use Rattle.messages.specs.Spelling.{SpeltRequest, SpeltReply}
use Rattle.messages.specs.declared.message.Date.{Date}
use Rattle.calendar.specs.DayByDay.{InDays}
use Rattle.calls.specs.Board.{Identity, reply}
use Rattle.calls.specs.Calls.{on_call, on_step}
use Rattle.calls.specs.Lists.{run}
use Rattle.actions.specs.Act.{replies, effect_of, effect}
use Rattle.board.specs.ByteCalls.{byte_calls, waits, seen_then}
use Rattle.packets.specs.Packets.{BoardState, BoardOutcome, to_own, to_all}
use Rattle.board.specs.BoardKind.{byte, board_kind}
use Rattle.board.specs.Demand3.{Events}
use Rattle.station.specs.Encode.{sends, address_in, encoding}
use Rattle.station.specs.Read as station
use Rattle.station.specs.declared.encode.Destination.{Destination}
use Rattle.exchange.specs.Rows.{Idle, InBytes, Ready, takes_date, Rows, RefusalKeeps}
use Rattle.exchange.specs.ScheduleRows.{ScheduleRows}
use Rattle.exchange.specs.StoredDates.{StoredDates}

-- ---- a request that is sent

-- a destination addresses a board: by its ID, or as ALL
abbrev pub Addresses : Destination → Identity → Type 0
Addresses (Destination.Id n) i = n ≡ i.id
Addresses Destination.All i = Unit {0}

-- what a request does at a board: with a reply where its ID was named, in silence where ALL was
abbrev pub done : Destination → Identity → List ℕ → Request → List ℕ → BoardOutcome
done (Destination.Id n) i m r lent = to_own i (effect_of i m r) lent
done Destination.All i m r lent = to_all i (effect_of i m r) lent

-- ---- a reply that is read

-- the first n bytes of a buffer are a packet of L + 9 bytes, which the station reads as a reply of the board with an ID
pub record IsRead (id n : ℕ) (r : Reply) (lent buffer : List ℕ) : Type 0 where
  pub read : station.read_packet (take n buffer) ≡ station.reply id r
  pub whole : size (take n buffer) ≡ n
  pub rest : drop n buffer ≡ drop n lent

-- the reply and what is stored are those of the request in a packet
pub record RepliesTo (i : Identity) (m packet : List ℕ) (n : ℕ) (lent : List ℕ) (o : BoardOutcome) : Type 0 where
  pub said : Reply
  pub effected : effect i m (request_in (get_or packet 4 0) (packet_text packet)) ≡ replies said o.stores
  pub intact : IsRead i.id n said lent o.buffer

-- ---- demand 2

pub record Demand2 : Type 0 where
  -- every request that the encoder does not refuse, given whole to an idle board that it addresses, with any buffers of 64 bytes or more
  pub requests : (dest : Destination) (r : Request) (room : ℕ) (p : List ℕ) → IsRequest r → encoding room dest r ≡ sends p
      → (s : BoardState) (m : List ℕ) → Idle s m → Addresses dest s.ident
      → (lent : ℕ → List ℕ) → ((k : ℕ) → 64 ≤ length (lent k)) → (es : Events)
      → run board_kind s.ident s m (byte_calls lent 0 p ++ es)
      ≡ waits lent m 0 (length p - 1) ++ seen_then s.ident m (done dest s.ident m r (lent (length p - 1))) es
  -- and every packet that spells a request, whether the encoder writes it or not: length and message digits in either case, names as they are written,
  -- and the check code of its own bytes
  pub any_case : (dest : Destination) (address : ℕ) (r : Request) (p : List ℕ) → address_in dest ≡ some address → IsRequest r → SpeltRequest address r p
      → (s : BoardState) (m : List ℕ) → Idle s m → Addresses dest s.ident
      → (lent : ℕ → List ℕ) → ((k : ℕ) → 64 ≤ length (lent k)) → (es : Events)
      → run board_kind s.ident s m (byte_calls lent 0 p ++ es)
      ≡ waits lent m 0 (length p - 1) ++ seen_then s.ident m (done dest s.ident m r (lent (length p - 1))) es
  -- every reply that a board gives on a byte
  pub replies_read : (b : ℕ) (s : BoardState) (m lent : List ℕ) (n : ℕ) → InBytes s.ident m → (on_call board_kind (byte b) s m lent).answer ≡ reply n
      → RepliesTo s.ident m (s.held ++ (b ∷ [])) n lent (on_call board_kind (byte b) s m lent)
  -- and on the last step of an erase
  pub erase_read : (s : BoardState) (m lent : List ℕ) (n : ℕ) → (on_step board_kind s m lent).answer ≡ reply n
      → IsRead s.ident.id n (set_reply 0 0xF0 0x01 1 1 1) lent (on_step board_kind s m lent).buffer
  -- every packet that spells a reply is read as that reply
  pub replies_any_case : (id : ℕ) (r : Reply) (p : List ℕ) → 1 ≤ id → id ≤ 8 → IsReply r → SpeltReply (0x40 + id) r p
      → station.read_packet p ≡ station.reply id r
  -- each row of the message table, and those of the schedules
  pub rows : (i : Identity) (m : List ℕ) → Ready i m → Rows i m
  pub schedule_rows : (i : Identity) (m : List ℕ) → Ready i m → ScheduleRows i m
  -- the dates that the rows take are the times of 36,525 days in a row, from Saturday 1 January 2000 on, each with its weekday
  pub dates_in_days : (d : Date) → takes_date d ≡ true → InDays d
  pub days_taken : (d : Date) → InDays d → d.hour ≤ 23 → d.minute ≤ 59 → d.daylight ≡ 0 → takes_date d ≡ true
  -- a date that was stored before days and weekdays were asked for
  pub stored_dates : (i : Identity) (m : List ℕ) → Ready i m → StoredDates i m
  -- and what is refused changes no stored byte
  pub refusal_keeps : RefusalKeeps
