-- Every call stores bytes only, and so does a start that converts an older store: a store of bytes stays one over every list of events.
use mathlib.Core.Path.{◌≡◌, refl}
use mathlib.Core.Bool.{true, ◌&&◌}
use mathlib.Core.List.{List, [], ◌∷◌}
use mathlib.Core.Option.{Option, none, some}
use Prim.Native.Nat.{ℕ, zero, suc}
use native.Mathlib.Omega.{arith}
use lib.Dec.{ltb, eqb}
use lib.ListN.{length, get_or, set}
use borrow.Author.Tests.{ltb-true}
use Rattle.wire.specs.Digits.{Bytes}
use Rattle.wire.specs.Packet.{packet_text}
use Rattle.wire.proofs.Tests.{cond-by, both}
use Rattle.messages.specs.Message.{ScheduleRequest, Request, IsRequest}
use Rattle.messages.specs.Message.ScheduleRequest.{schedule_read, schedule_write, schedule_enable}
use Rattle.messages.specs.Message.Request.{get_parameter, set_parameter, power_read, power_control, date_read, date_write, item_read, tag_write, schedule}
use Rattle.messages.specs.Read.{request_in}
use Rattle.messages.proofs.ParseLaws.{Found, request-fits}
use Rattle.receiver.specs.Receive as receive
use Rattle.plan.specs.Stores.{Entry, entry, applied, range_of}
use Rattle.plan.proofs.Laws.{applied-append}
use Rattle.store.specs.Fields.{Field, field_stores}
use Rattle.store.specs.Layout.{power, rest_place}
use Rattle.layouts.specs.Layouts.{older_mark, layout_mark, is_layout, fits_layout, conversion, unused_store}
use Rattle.store.specs.Settings.{setting_at, accepts, kept, field_of}
use Rattle.calendar.specs.Calendar.{is_accepted}
use Rattle.store.specs.Contents.{is_on}
use Rattle.store.specs.declared.settings.Row.{Row}
use Rattle.store.proofs.Tables.{each}
use Rattle.store.proofs.StoreLaws.{field-applied}
use Rattle.store.proofs.DateLaws.{date_applied}
use Rattle.schedule.specs.Programs.{enable_field, unused_programs}
use Rattle.schedule.specs.Numbers as program
use Rattle.schedule.specs.Numbers.{is_listed, is_enable, kept_fields}
use Rattle.schedule.proofs.ProgramLaws.{program_applied}
use Rattle.calls.specs.Board.{Identity, Started, board, start_refused, after}
use Rattle.calls.specs.Calls.{mark, erase_mark, refuse, on_call, on_step, on_start, clear_step, end_step}
use Rattle.calls.specs.Lists.{call, step, cut, started, seen, from, run}
use Rattle.calls.proofs.Steps.{Called, Stepped, refuses, clears, does, called, stepped, step-clears_or_ends}
use Rattle.actions.specs.Act.{Effect, replies, begins, is_erase, get_effect, set_listed, set_effect, power_read_effect, power_control_effect, date_write_effect, effect_of, effect}
use Rattle.actions.specs.Act.{schedule_write_effect, schedule_enable_effect, schedule_effect}
use Rattle.packets.specs.Packets.{BoardState, BoardOutcome, is_identity, Addressee, own, all, another, addressee, to_own, to_all, on_packet_to, on_packet}
use Rattle.board.specs.BoardKind as kind
use Rattle.board.specs.BoardKind.{Call, byte, gap, on_receipt, start_other, board_kind}
use Rattle.board.specs.Demand3.{Events}
use Rattle.exchange.proofs.StoreBytes.{field-bytes, date_bytes, program_bytes, set-bytes, range-bytes, tag_bytes}
use Rattle.exchange.specs.Rows.{InBytes}
use Rattle.exchange_c.specs.Demand2.{AllInBytes}

-- ---- the bytes of an unused board

pub tested_bytes : (s : List ℕ) → each (λ b. ltb b 256) s ≡ true → Bytes s
tested_bytes [] e i = omega arith
tested_bytes (b ∷ s) e zero = ltb-true b 256 (both (ltb b 256) (each (λ b. ltb b 256) s) e).0
tested_bytes (b ∷ s) e (suc i) = tested_bytes s (both (ltb b 256) (each (λ b. ltb b 256) s) e).1 i

pub unused-are_bytes : Bytes unused_store
unfolding unused_store
unused-are_bytes = tested_bytes unused_store refl

-- ---- what a request stores

-- an effect's stores leave bytes; what the beginning of an erase stores is the call's
abbrev Keeps : List ℕ → Effect → Type 0
Keeps m (replies r es) = Bytes (applied es m)
Keeps m begins = Unit {0}

module _ (m : List ℕ) (h : Bytes m) where
  field-keeps : (f : Field) (v : ℕ) → Bytes (applied (field_stores m f v) m)
  field-keeps f v = rw (field-applied m f v) (field-bytes m f v h)

  set_keeps : (page code v : ℕ) (q : Option Row) → Keeps m (set_listed m page code v q)
  set_keeps page code v none = h
  set_keeps page code v (some r) =
      cond-by (Keeps m) (is_on m && accepts r.values v) _ _ (λ _. field-keeps (field_of r) (kept r.values v)) (λ _. h)

  schedule_keeps : (r : ScheduleRequest) → Keeps m (schedule_effect m r)
  unfolding schedule_effect schedule_write_effect schedule_enable_effect
  schedule_keeps (schedule_read k) = h
  schedule_keeps (schedule_write ns) =
      let k = get_or ns 0 0 in
      let fs = kept_fields ns in
      cond-by (Keeps m) (program.is_accepted ns) _ _ (λ _. rw (program_applied m k fs) (program_bytes m k fs h)) (λ _. h)
  schedule_keeps (schedule_enable k enable) =
      cond-by (Keeps m) (is_listed k && is_enable enable) _ _ (λ _. field-keeps (enable_field k) enable) (λ _. h)

  request_keeps : (i : Identity) (r : Request) → IsRequest r → Keeps m (effect_of i m r)
  unfolding effect_of get_effect set_effect power_read_effect power_control_effect date_write_effect
  request_keeps i (get_parameter page code) is = h
  request_keeps i (set_parameter page code v) is =
      cond-by (Keeps m) (is_erase page code) _ _ (λ _. cond-by (Keeps m) (eqb v 1) _ _ (λ _. tt) (λ _. h)) (λ _. set_keeps page code v (setting_at page code))
  request_keeps i power_read is = h
  request_keeps i (power_control mode) is =
      cond-by (Keeps m) (eqb mode 1) _ _ (λ _. field-keeps power 1) (λ _. cond-by (Keeps m) (eqb mode 4) _ _ (λ _. field-keeps power 0) (λ _. h))
  request_keeps i date_read is = h
  request_keeps i (date_write d) is = cond-by (Keeps m) (is_accepted d) _ _ (λ _. rw (date_applied m d) (date_bytes m d h)) (λ _. h)
  request_keeps i (item_read x) is = h
  request_keeps i (tag_write tag) is = tag_bytes m tag h is.bytes
  request_keeps i (schedule r) is = schedule_keeps r

  option_keeps : (i : Identity) (q : Option Request) → Found IsRequest q → Keeps m (effect i m q)
  option_keeps i none is = h
  option_keeps i (some r) is = request_keeps i r is

  -- a request that is read in a text has bytes, whatever numbers the text has
  text-keeps : (i : Identity) (kind : ℕ) (text : List ℕ) → Keeps m (effect i m (request_in kind text))
  text-keeps i kind text = option_keeps i (request_in kind text) (request-fits kind text)

-- ---- what a call stores

-- the store after a call
abbrev Leaves : List ℕ → BoardOutcome → Type 0
Leaves m o = Bytes (after o m)

refusal-leaves : (n : ℕ) (s : BoardState) (m lent : List ℕ) → Bytes m → Leaves m (refuse board_kind n s lent)
unfolding refuse
refusal-leaves n s m lent h = h

module _ (i : Identity) (m lent : List ℕ) (h : Bytes m) where
  mark-leaves : Bytes (set m 0 erase_mark)
  mark-leaves = set-bytes m 0 erase_mark (omega arith) h

  own_leaves : (x : Effect) → Keeps m x → Leaves m (to_own i x lent)
  unfolding to_own
  own_leaves (replies r es) k = k
  own_leaves begins k = mark-leaves

  all-leaves : (x : Effect) → Keeps m x → Leaves m (to_all i x lent)
  unfolding to_all
  all-leaves (replies r es) k = k
  all-leaves begins k = mark-leaves

  packet-leaves : (p : List ℕ) (to : Addressee) → Leaves m (on_packet_to to i m p lent)
  unfolding on_packet_to
  packet-leaves p own = own_leaves _ (text-keeps m h i (get_or p 4 0) (packet_text p))
  packet-leaves p all = all-leaves _ (text-keeps m h i (get_or p 4 0) (packet_text p))
  packet-leaves p another = h

  receipt-leaves : (a : receive.Reception) (held : List ℕ) → Leaves m (on_receipt a held i m lent)
  unfolding on_receipt on_packet
  receipt-leaves receive.waiting held = h
  receipt-leaves (receive.refused n) held = h
  receipt-leaves (receive.whole p) held = packet-leaves p (addressee i.id (get_or p 2 0))

done-leaves : (c : Call) (s : BoardState) (m lent : List ℕ) → Bytes m → Leaves m (kind.does c s m lent)
unfolding kind.does
done-leaves (byte b) s m lent h = receipt-leaves s.ident m lent h _ _
done-leaves gap s m lent h = h

call-leaves : (c : Call) (s : BoardState) (m lent : List ℕ) → Bytes m → Leaves m (on_call board_kind c s m lent)
call-leaves c s m lent h = go (called board_kind c s m lent)
  where
    go : Called board_kind c s m lent (on_call board_kind c s m lent) → Leaves m (on_call board_kind c s m lent)
    go (refuses n e) = rw e (refusal-leaves n s m lent h)
    go (does q t e) = rw e (done-leaves c s m lent h)

-- a step stores an unused board's byte
step-leaves : (s : BoardState) (m lent : List ℕ) → Bytes m → Leaves m (on_step board_kind s m lent)
unfolding clear_step end_step mark
step-leaves s m lent h = go (stepped board_kind s m lent)
  where
    go : Stepped board_kind s m lent (on_step board_kind s m lent) → Leaves m (on_step board_kind s m lent)
    go (refuses n e) = rw e (refusal-leaves n s m lent h)
    go (clears p owed q t e) =
        rw e
        (step-clears_or_ends board_kind (Leaves m) p owed s lent (λ _. set-bytes m p (get_or unused_store p 0) (unused-are_bytes p) h)
        (λ _. set-bytes m 0 (get_or unused_store 0 0) (unused-are_bytes 0) h))

-- ---- a start

-- a start gives a board and stores nothing, or a conversion, or is refused
start-by : (P : Started BoardState → Type 0) (i : Identity) (m : List ℕ) → ((s : BoardState) → P (board s []))
    → ((s : BoardState) → P (board s (conversion m))) → ((n : ℕ) → P (start_refused n)) → P (on_start board_kind i m)
unfolding on_start start_other
start-by P i m given converted refused =
    cond-by P (eqb (length m) 128 && eqb (mark m) erase_mark) _ _ (λ _. cond-by P (is_identity i) _ _ (λ _. given _) (λ _. refused 12))
    (λ _. cond-by P (eqb (length m) 128 && is_layout (mark m)) _ _
    (λ _. cond-by P (is_identity i && fits_layout m) _ _ (λ _. converted _) (λ _. refused 12)) (λ _. refused 11))

-- unused programs, and then the mark
conversion-bytes : (m : List ℕ) → Bytes m → Bytes (applied (conversion m) m)
unfolding conversion
conversion-bytes m h =
    cond-by (λ (es : List Entry). Bytes (applied es m)) (eqb (get_or m 0 0) older_mark) _ _
    (λ _. rw (applied-append (range_of rest_place unused_programs) (entry 0 layout_mark ∷ []) m)
    (set-bytes (applied (range_of rest_place unused_programs) m) 0 layout_mark (omega arith)
    (range-bytes rest_place unused_programs m (tested_bytes unused_programs refl) h)))
    (λ _. h)

-- ---- every list

-- the identity is that of the list
stored : (i : Identity) (m m' : List ℕ) → InBytes i m → Bytes m' → InBytes i m'
stored i m m' h k = record { serial = h.serial; model = h.model; store = k }

run-leaves : (i : Identity) (s : BoardState) (m : List ℕ) (es : Events) → InBytes i m → AllInBytes i (run board_kind i s m es)
unfolding run AllInBytes seen from
run-leaves i s m [] h = tt
run-leaves i s m (call c lent ∷ es) h = let k = stored i m _ h (call-leaves c s m lent h.store) in (k, run-leaves i _ _ es k)
run-leaves i s m (step lent ∷ es) h = let k = stored i m _ h (step-leaves s m lent h.store) in (k, run-leaves i _ _ es k)
run-leaves i s m (cut ∷ es) h =
    let k = stored i m _ h (conversion-bytes m h.store) in
    start-by (λ x. AllInBytes i (from board_kind x m (λ s m. started m ∷ run board_kind i s m es))) i m
    (λ s. (h, run-leaves i s m es h)) (λ s. (k, run-leaves i s _ es k)) (λ n. tt)

pub bytes_kept : (s : BoardState) (m : List ℕ) (es : Events) → InBytes s.ident m → AllInBytes s.ident (run board_kind s.ident s m es)
bytes_kept s m es h = run-leaves s.ident s m es h
