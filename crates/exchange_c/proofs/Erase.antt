-- The erase from end to end: its request begins an erase, 127 steps say that there is more, and the 128th leaves an unused board's bytes.
use mathlib.Core.Path.{◌≡◌, refl, sym, ap, ◌∙◌, subst}
use mathlib.Core.Bool.{Bool, true, false, false≢true}
use mathlib.Core.List.{List, [], ◌∷◌, ◌++◌, append_assoc}
use mathlib.Core.Option.{some}
use Prim.Native.Nat.{ℕ, zero, suc, ◌+◌, ◌≤◌, ◌<◌}
use native.Mathlib.Nat.{add-zero}
use native.Mathlib.Omega.{arith}
use lib.ListN.{length, set, replicate}
use borrow.Author.Tests.{le-ltb, ltb-true, ltb-false}
use Rattle.messages.specs.Message.Reply.{set_reply}
use Rattle.messages.specs.Text.{request_type}
use Rattle.calls.specs.Board.{Identity, Answer, waiting, begun, more, after}
use Rattle.calls.specs.Calls.{is_short, at_rest, erasing, clear_step, end_step}
use Rattle.calls.specs.Lists.{answered, seen, run}
use Rattle.calls.proofs.Demand.{wiped}
use Rattle.calls.proofs.Pending.{Pending, pending-first, pending_next, pending_last, pending_step}
use Rattle.packets.specs.Packets.{holding}
use Rattle.packets.proofs.IdentityLaws.{Named}
use Rattle.board.specs.BoardKind.{last_answer, last_buffer, erase_reply, board_kind}
use Rattle.board.specs.Demand3.{Events, Trace, unused_bytes, erase_request}
use Rattle.board.specs.ByteCalls.{byte_calls, waits}
use Rattle.board.proofs.BoardLaws.{board-laws}
use Rattle.board.proofs.Numbers.{erase_text, erase_packet, request-bytes, unused-bytes}
use Rattle.station.specs.Encode.{address_in}
use Rattle.station_c.specs.Encode.{encode_set, destination_of}
use Rattle.exchange.specs.Rows.{Ready, heard}
use Rattle.exchange.proofs.RowLaws.{rest, named}
use Rattle.exchange.proofs.ReplyLaws.{reply-read}
use Rattle.exchange.proofs.Erase.{set_erase}
use Rattle.exchange_c.specs.Demand2.{Encoded, IsTold, steps, untouched, Erases, ErasesById, ErasesToAll}
use Rattle.exchange_c.proofs.Calls.{encoded, own_address, all-address}
use Rattle.exchange_c.proofs.Told.{tells_of, read_told}

-- ---- the steps of a pending erase

-- what is seen of r steps and the last, the first of them lent the buffer k
record Ends (i : Identity) (owed : Bool) (lent : ℕ → List ℕ) (es : Events) (r k : ℕ) (os : Trace) : Type 0 where
  before : Trace
  quiet : heard before ≡ untouched lent k (replicate r more)
  last : os ≡ before ++ (answered (last_answer i owed) (last_buffer i owed (lent (k + r))) unused_bytes ∷ run board_kind i (holding i []) unused_bytes es)

module _ (i : Identity) (owed : Bool) (lent : ℕ → List ℕ) (room : (k : ℕ) → 64 ≤ length (lent k)) (es : Events) where
  long : (k : ℕ) → is_short (lent k) ≡ false
  unfolding is_short
  long k = le-ltb (length (lent k)) 64 (room k)

  -- n steps have run, and r are left before the last
  steps-end : (r n k : ℕ) (m : List ℕ) → n + r ≡ 127 → Pending board_kind i n m
      → Ends i owed lent es r k (run board_kind i (erasing board_kind i (suc n) owed) m (steps lent k (suc r) ++ es))
  unfolding run seen steps heard untouched clear_step end_step erasing wiped at_rest
  steps-end zero n k m e h =
      pending_step board-laws (λ o. Ends i owed lent es zero k (seen board_kind o m ∷ run board_kind i o.state (after o m) es)) owed (lent k) h
      (λ t. absurd (false≢true (sym (long k) ∙ t))) (λ _ u. absurd (omega (arith, ltb-true n 127 u)))
      (λ _ u. record { before = []; quiet = refl; last = rw (add-zero k, pending_last board-laws h (ltb-false n 127 u), unused-bytes) })
  steps-end (suc r) n k m e h =
      pending_step board-laws (λ o. Ends i owed lent es (suc r) k (seen board_kind o m ∷ run board_kind i o.state (after o m) (steps lent (suc k) (suc r) ++ es)))
      owed (lent k) h
      (λ t. absurd (false≢true (sym (long k) ∙ t)))
      (λ _ u.
      let left = wiped board_kind m (suc n) in
      let later = steps-end r (suc n) (suc k) left (omega arith) (pending_next board-laws h (ltb-true n 127 u)) in
      let next : k + suc r ≡ suc k + r = omega arith in
      record {
        before = answered more (lent k) left ∷ later.before;
        quiet = ap (λ (l : List (Answer ℕ × List ℕ)). (more, lent k) ∷ l) later.quiet;
        last = rw next (ap (λ (os : Trace). answered more (lent k) left ∷ os) later.last);
      })
      (λ _ u. absurd (omega (arith, ltb-false n 127 u)))

-- ---- the packet and the steps

-- waiting n times is heard as that, with the lent buffers
waits-heard : (lent : ℕ → List ℕ) (m : List ℕ) (n k : ℕ) (os : Trace) (later : List (Answer ℕ)) → heard os ≡ untouched lent (k + n) later
    → heard (waits lent m k n ++ os) ≡ untouched lent k (replicate n waiting ++ later)
unfolding heard waits untouched
waits-heard lent m zero k os later e = e ∙ rw (add-zero k)
waits-heard lent m (suc n) k os later e =
    let next : k + suc n ≡ suc k + n = omega arith in
    ap (λ (l : List (Answer ℕ × List ℕ)). (waiting, lent k) ∷ l) (waits-heard lent m n (suc k) os later (rw next at e))

module _ (i : Identity) (m : List ℕ) (ready : Ready i m) where
  -- E7h in byte 0, and no step run
  marked : Pending board_kind i 0 (set m 0 0xE7)
  marked =
      let r = rest i m ready.rests in
      pending-first (record { named = r.named; size = r.size; marked = r.marked; ranged = r.ranged })

  module _ (dest : ℕ) (owed : Bool) (lent : ℕ → List ℕ) (room : (k : ℕ) → 64 ≤ length (lent k)) (es : Events) where
    erases : run board_kind i (holding i []) m (byte_calls lent 0 (erase_request dest) ++ (steps lent 19 128 ++ es))
        ≡ waits lent m 0 18 ++ (answered begun (lent 18) (set m 0 0xE7) ∷ run board_kind i (erasing board_kind i 1 owed) (set m 0 0xE7) (steps lent 19 128 ++ es))
        → Erases i m (erase_request dest) lent es (last_answer i owed) (last_buffer i owed (lent 146))
    unfolding heard untouched
    erases begins =
        let ends = steps-end i owed lent room es 127 0 19 (set m 0 0xE7) refl marked in
        let first = answered begun (lent 18) (set m 0 0xE7) in
        record {
          before = waits lent m 0 18 ++ (first ∷ ends.before);
          quiet =
              waits-heard lent m 18 0 (first ∷ ends.before) (begun ∷ replicate 127 more)
              (ap (λ (l : List (Answer ℕ × List ℕ)). (begun, lent 18) ∷ l) ends.quiet);
          seen =
              begins ∙ ap (λ (os : Trace). waits lent m 0 18 ++ (first ∷ os)) ends.last
              ∙ sym (append_assoc (waits lent m 0 18) (first ∷ ends.before) _);
        }

-- ---- the encoder and the reader

-- the erase's packet by the encoder is the one whose bytes are written out
erase-encoded : (dest to : ℕ) → address_in (destination_of dest) ≡ some to → to < 256 → Encoded dest (encode_set 0xF0 0x01 1) (erase_request to)
unfolding erase_packet erase_text request_type
erase-encoded dest to known small =
    subst (Encoded dest (encode_set 0xF0 0x01 1)) (request-bytes to small) (encoded dest to (encode_set 0xF0 0x01 1) known refl)

erase-told : (i : Identity) → Named i → IsTold (erase_reply i) (tells_of i.id (set_reply 0 0xF0 0x01 1 1 1))
unfolding erase_reply
erase-told i n =
    read_told (erase_reply i) i.id (set_reply 0 0xF0 0x01 1 1 1)
    (reply-read i n (set_reply 0 0xF0 0x01 1 1 1)
    (record { result = omega arith; page = omega arith; code = omega arith; operation = omega arith; largest = omega arith; value = omega arith }))

-- ---- the erase, to the board's ID and to ALL

module _ (i : Identity) (m : List ℕ) (ready : Ready i m) where
  pub erased : ErasesById i m
  unfolding erasing
  erased =
      let n = named i m ready.rests in
      record {
        packet = erase_request (0x40 + i.id);
        encoded = erase-encoded i.id (0x40 + i.id) (own_address i m ready) (omega (arith, n.most));
        sent = erase_reply i;
        erases = λ lent room es. erases i m ready (0x40 + i.id) true lent room es ((set_erase i m ready).by_id lent room (steps lent 19 128 ++ es));
        is_told_law = erase-told i n;
      }

  pub erased_by_all : ErasesToAll i m
  unfolding erasing
  erased_by_all =
      record {
        packet = erase_request 0x2A;
        encoded = erase-encoded 256 0x2A all-address (omega arith);
        erases = λ lent room es. erases i m ready 0x2A false lent room es ((set_erase i m ready).by_all lent room (steps lent 19 128 ++ es));
      }
