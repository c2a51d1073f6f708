-- Every call but the erase's: its packet is that of a row of the message table, and the reader tells C what the row's reply says.
use mathlib.Core.Path.{◌≡◌, refl, sym, ap, ◌∙◌, subst}
use mathlib.Core.Bool.{Bool, true, false, cond, ◌&&◌, false≢true}
use mathlib.Core.Logic.{inl, inr, ⊎_elim}
use mathlib.Core.List.Memᴰ
use mathlib.Core.List.{List, [], ◌∷◌, Memᴰ}
use mathlib.Core.Option.{Option, none, some, some-injective}
use Prim.Native.Nat.{ℕ, ◌+◌, ◌<◌}
use native.Mathlib.Omega.{arith}
use borrow.Author.Tests.{leb-true, eqb-true, eqb-false, le-leb, eq-eqb}
use lib.Dec.{leb, eqb}
use Rattle.bitfield.specs.Field.{get_field}
use Rattle.bitfield.proofs.Laws.{get-lt}
use Rattle.wire.specs.Packet as wire
use Rattle.wire.proofs.Tests.{cond-by, both}
use Rattle.messages.specs.Message.{Request, Reply}
use Rattle.messages.specs.Message.Reply.{get_reply}
use Rattle.store.proofs.Tables.{either}
use Rattle.schedule.proofs.NumberLaws.{accepted-listed}
use Rattle.calls.specs.Board.{Identity}
use Rattle.station_c.proofs.Checks.{taken_as}
use Rattle.station_c.specs.Checks.{is_taken}
use Rattle.station_c.specs.Encode.{Call, encode_get, encode_set, encode_power_read, encode_power_control, encode_date_read, encode_date_write}
use Rattle.station_c.specs.Encode.{encode_serial_read, encode_model_read, encode_tag_read, encode_former_tag_read, encode_tag_write}
use Rattle.station_c.specs.Encode.{encode_schedule_read, encode_schedule_write, encode_schedule_enable}
use Rattle.station_c.specs.Encode.{request_for}
use Rattle.exchange.specs.Rows.{Ready, Asks, Shows, Changes, Rows, Setting, table, IsStandby, shown_after}
use Rattle.exchange.specs.ScheduleRows.{ScheduleRows}
use Rattle.exchange.proofs.Contents.{takes-as}
use Rattle.exchange.proofs.Rows.{rows}
use Rattle.exchange.proofs.ScheduleRows.{schedule_rows}
use Rattle.exchange_c.specs.Demand2.{IsPassed, is_erase, is_erase_call, Told, row_at, is_on, got, set, passed_program, tells, ById, Reads, accepts, SetLeaves, Leaves, Exchanged}
use Rattle.exchange_c.proofs.Calls.{taken_request, packet_to, packet-last, encoded, own_address, all-address}
use Rattle.exchange_c.proofs.Told.{tells_of, read_told}

-- ---- a call that gets a reply

-- what a row says of a request's packet is said of the call's, and C is told the row's reply
asked-by_id : (i : Identity) (m : List ℕ) (c : Call) {x : Reply} {left : List ℕ} → Ready i m → is_taken c ≡ true → Asks i m (request_for c) x left
    → ById i m c (tells_of i.id x) left
unfolding wire.packet
asked-by_id i m c {x} ready t e =
    record {
      packet = packet_to (0x40 + i.id) c;
      encoded = encoded i.id (0x40 + i.id) c (own_address i m ready) t;
      sent = e.sent;
      replied = λ lent big es. rw (packet-last (0x40 + i.id) c) (e.replied lent big es);
      is_told_law = read_told e.sent i.id x e.read;
    }

-- the reply of a row, as C is told it, and what is left
record Asked (i : Identity) (m : List ℕ) (c : Call) (t : Told) : Type 0 where
  says : Reply
  left : List ℕ
  asked : Asks i m (request_for c) says left
  told : tells_of i.id says ≡ t
  leaves : Leaves i m c left
  ready : Ready i left

asked-exchanged : (i : Identity) (m : List ℕ) (c : Call) → Ready i m → is_taken c ≡ true → Asked i m c (tells i m c) → Exchanged i m c
unfolding wire.packet
asked-exchanged i m c ready t a =
    record {
      left = a.left;
      by_id = rw (← a.told) (asked-by_id i m c ready t a.asked);
      to_all_law = record {
        packet = packet_to 0x2A c;
        encoded = encoded 256 0x2A c all-address t;
        silently = λ lent big es. rw (packet-last 0x2A c) (a.asked.silently lent big es);
      };
      leaves = a.leaves;
      ready = a.ready;
    }

-- ---- the row of a page and code

-- it is in the table under that page and code, or no row is
row_by : (P : Option Setting → Type 0) (ts : List Setting) (page code : ℕ)
    → ((t : Setting) → Memᴰ t ts → (page ≡ t.page) × (code ≡ t.code) → P (some t))
    → (((t : Setting) → Memᴰ t ts → (page ≡ t.page) × (code ≡ t.code) → ⊥) → P none) → P (row_at ts page code)
unfolding row_at
row_by P [] page code f g = g (λ t l. absurd (Memᴰ.not-nil l))
row_by P (t ∷ ts) page code f g =
    cond-by P (eqb t.page page && eqb t.code code) _ _
    (λ e. let b = both (eqb t.page page) (eqb t.code code) e in
    f t (Memᴰ.head refl) (sym (eqb-true t.page page b.0), sym (eqb-true t.code code b.1)))
    (λ e. row_by P ts page code (λ u l. f u (Memᴰ.tail l))
    (λ n. g (λ u l q. ⊎_elim (λ s. false≢true (sym e ∙ found (subst (λ (u : Setting). (page ≡ u.page) × (code ≡ u.code)) s q))) (λ k. n u k q) (Memᴰ.cases_cons l))))
  where
    found : (page ≡ t.page) × (code ≡ t.code) → (eqb t.page page && eqb t.code code) ≡ true
    found q = rw (eq-eqb t.page page (sym q.0), eq-eqb t.code code (sym q.1))

is_erase_lem : (page code : ℕ) → is_erase page code ≡ true → (page ≡ 0xF0) × (code ≡ 0x01)
is_erase_lem page code e =
    let b = both (eqb page 0xF0) (eqb code 0x01) e in
    (eqb-true page 0xF0 b.0, eqb-true code 0x01 b.1)

not_erase : (page code : ℕ) → is_erase page code ≡ false → (page ≡ 0xF0) × (code ≡ 0x01) → ⊥
not_erase page code e q = false≢true (sym e ∙ rw (q.0, q.1))

-- ---- every call

-- the bit is 0 where it isn't 1
standby_told : (m : List ℕ) → is_on m ≡ false → IsStandby m
standby_told m e =
    let n = eqb-false (get_field m 53 1) 1 e in
    let l : get_field m 53 1 < 2 = get-lt m 53 1 in
    omega arith

module _ (i : Identity) (m : List ℕ) (page code v : ℕ) where
  -- a Set that is not accepted
  set_keeps : (o : Option Setting) → row_at table page code ≡ o → accepts o v m ≡ false → SetLeaves i m page code v m
  set_keeps o e n =
      record {
        kept = λ _. refl;
        stored = λ t d a. absurd (false≢true (sym n ∙ ap (λ (o : Option Setting). accepts o v m) (sym e ∙ d) ∙ a));
      }

  -- one that is: the row of a page and code is one only
  set_stores : (t : Setting) (left : List ℕ) → row_at table page code ≡ some t → accepts (some t) v m ≡ true
      → Reads i left (encode_get page code) (tells_of i.id (get_reply 0 page code 0 t.largest (shown_after page code v)))
      → SetLeaves i m page code v left
  set_stores t left e a shows =
      record {
        kept = λ n. absurd (false≢true (sym n ∙ ap (λ (o : Option Setting). accepts o v m) e ∙ a));
        stored = λ u d _. rw (← some-injective t u (sym e ∙ d)) shows;
      }

module _ (i : Identity) (m : List ℕ) (ready : Ready i m) where
  -- a row that stores nothing, and one that stores
  shown : (c : Call) {x : Reply} → Shows i m (request_for c) x → Leaves i m c m → Asked i m c (tells_of i.id x)
  shown c {x} e leaves = record { says = x; left = m; asked = e; told = refl; leaves = leaves; ready = ready }

  changed : (c : Call) {x : Reply} {moves : Request → Bool} {changes : ℕ → Bool} {Then : List ℕ → Type 0}
      (e : Changes i m (request_for c) x moves changes Then) → Leaves i m c e.left → Asked i m c (tells_of i.id x)
  changed c {x} e leaves = record { says = x; left = e.left; asked = e.asked; told = refl; leaves = leaves; ready = e.ready }

  abbrev all : Rows i m
  all = rows i m ready

  abbrev programs : ScheduleRows i m
  programs = schedule_rows i m ready

  module _ (page code : ℕ) (p : page < 256) (c : code < 256) where
    -- C is told these numbers of a Get, behind the ID
    abbrev Gets : List ℕ → Type 0
    Gets numbers = Asked i m (encode_get page code) (record { kind = 102; numbers = i.id ∷ numbers; bytes = [] })

    get-asked : Gets (got (row_at table page code) page code m)
    get-asked =
        row_by (λ o. Gets (got o page code m)) table page code
        (λ t l q. rw (q.0, q.1) (shown (encode_get t.page t.code) (all.get t l) refl))
        (λ n. cond-by Gets (is_erase page code) _ _
        (λ e. let q = is_erase_lem page code e in rw (q.0, q.1) (shown (encode_get 0xF0 0x01) all.get_erase refl))
        (λ e. shown (encode_get page code) (all.get_unlisted_law page code p c (n, not_erase page code e)) refl))

    module _ (v : ℕ) (w : v < 65536) (other : (is_erase page code && eqb v 1) ≡ false) where
      abbrev Sets : List ℕ → Type 0
      Sets numbers = Asked i m (encode_set page code v) (record { kind = 103; numbers = i.id ∷ numbers; bytes = [] })

      abbrev row : Option Setting
      row = row_at table page code

      -- on, or in standby; the value accepted, or not
      row-set : (t : Setting) → Memᴰ t table → (page ≡ t.page) × (code ≡ t.code) → row ≡ some t
          → (on takes : Bool) → is_on m ≡ on → t.takes v ≡ takes → Sets (cond (on && takes) 0 1 ∷ page ∷ code ∷ 0 ∷ t.largest ∷ v ∷ [])
      row-set t l q is true true e f =
          let x = all.set t l v (eqb-true (get_field m 53 1) 1 e) f in
          let get = asked-by_id i x.left (encode_get t.page t.code) x.ready refl x.shown in
          rw (q.0, q.1)
          (changed (encode_set t.page t.code v) x
          (set_stores i m t.page t.code v t x.left (rw (q.0, q.1) at is) (rw (e, f)) get))
      row-set t l q is true false e f =
          rw (q.0, q.1)
          (shown (encode_set t.page t.code v) (all.set_refused t l v w (inl f))
          (set_keeps i m t.page t.code v (some t) (rw (q.0, q.1) at is) (rw (e, f))))
      row-set t l q is false takes e f =
          rw (q.0, q.1)
          (shown (encode_set t.page t.code v) (all.set_refused t l v w (inr (standby_told m e)))
          (set_keeps i m t.page t.code v (some t) (rw (q.0, q.1) at is) (rw e)))

      set-asked : Sets (set row page code v m)
      set-asked =
          row_by (λ o. row ≡ o → Sets (set o page code v m)) table page code
          (λ t l q is. row-set t l q is (is_on m) (t.takes v) refl refl)
          (λ n is. cond-by Sets (is_erase page code) _ _
          (λ e. let q = is_erase_lem page code e in
          rw (q.0, q.1)
          (shown (encode_set 0xF0 0x01 v) (all.set_erase_refused v w (λ one. false≢true (sym other ∙ rw (q.0, q.1, one))))
          (set_keeps i m 0xF0 0x01 v none (rw (q.0, q.1) at is) refl)))
          (λ e. shown (encode_set page code v) (all.set_unlisted page code v p c w (n, not_erase page code e)) (set_keeps i m page code v none is refl)))
          refl

  power-asked : (on : Bool) → is_on m ≡ on
      → Asked i m encode_power_read (record { kind = 104; numbers = i.id ∷ 0 ∷ cond on 1 4 ∷ []; bytes = [] })
  power-asked true e = shown encode_power_read (all.power_on (eqb-true (get_field m 53 1) 1 e)) refl
  power-asked false e = shown encode_power_read (all.power_standby (standby_told m e)) refl

  call-asked : (c : Call) → IsPassed c → is_taken c ≡ true → is_erase_call c ≡ false → Asked i m c (tells i m c)
  call-asked (encode_get page code) h t other = get-asked page code h.0 h.1
  call-asked (encode_set page code v) h t other = set-asked page code h.0 h.1 v h.2 other
  call-asked encode_power_read h t other = power-asked (is_on m) refl
  call-asked (encode_power_control mode) h t other =
      let x = all.power_control_law mode (⊎_elim (λ e. inl (eqb-true mode 1 e)) (λ e. inr (eqb-true mode 4 e)) (either (eqb mode 1) (eqb mode 4) t)) in
      changed (encode_power_control mode) x (asked-by_id i x.left encode_power_read x.ready refl x.shown)
  call-asked encode_date_read h t other = shown encode_date_read all.date_read_law refl
  call-asked (encode_date_write yy mm dd ww hh mn ds) h t other =
      let c = encode_date_write yy mm dd ww hh mn ds in
      let x = all.date_write_law _ (sym (takes-as _) ∙ (taken_as c ∙ t)) in
      changed c x (asked-by_id i x.left encode_date_read x.ready refl x.shown)
  call-asked encode_serial_read h t other = shown encode_serial_read all.serial_read refl
  call-asked encode_model_read h t other = shown encode_model_read all.model_read refl
  call-asked encode_tag_read h t other = shown encode_tag_read all.tag_read refl
  call-asked encode_former_tag_read h t other = shown encode_former_tag_read all.former_read refl
  call-asked (encode_tag_write tag) h t other =
      let x = all.tag_write_law tag (taken_request (encode_tag_write tag) h t) in
      changed (encode_tag_write tag) x (
        asked-by_id i x.left encode_tag_read x.ready refl x.shown.tag_shown_law,
        asked-by_id i x.left encode_former_tag_read x.ready refl x.shown.former_shown_law,
      )
  call-asked (encode_schedule_read k) h t other = shown (encode_schedule_read k) (programs.read k (leb-true k 6 t)) refl
  call-asked (encode_schedule_write k on-hour on-minute off-hour off-minute input week flags) h t other =
      let c = encode_schedule_write k on-hour on-minute off-hour off-minute input week flags in
      let ns = passed_program k on-hour on-minute off-hour off-minute input week flags in
      let x = programs.write ns (taken_request c h t) (rw t) in
      let listed = le-leb k 6 (omega (arith, accepted-listed ns (taken_as c ∙ t))) in
      changed c x (asked-by_id i x.left (encode_schedule_read k) {left = x.left} x.ready listed x.shown)
  call-asked (encode_schedule_enable k enable) h t other =
      let b = both (leb k 6) (leb enable 1) t in
      let x = programs.enable k enable (leb-true k 6 b.0) (leb-true enable 1 b.1) in
      changed (encode_schedule_enable k enable) x (asked-by_id i x.left (encode_schedule_read k) x.ready b.0 x.shown)

pub exchanged : (i : Identity) (m : List ℕ) → Ready i m → (c : Call) → IsPassed c → is_taken c ≡ true → is_erase_call c ≡ false → Exchanged i m c
exchanged i m ready c h t other = asked-exchanged i m c ready t (call-asked i m ready c h t other)
