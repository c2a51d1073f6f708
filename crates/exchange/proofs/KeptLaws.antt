-- What the other reads get: two stores that differ in some bits alone show the same to every request that reads none of them.
use mathlib.Core.Path.{◌≡◌, refl, sym, ap, ap₂, ◌∙◌, subst}
use mathlib.Core.Bool.{Bool, true, false, ◌&&◌, false≢true}
use mathlib.Core.Logic.{inl, inr, ⊎_elim}
use mathlib.Core.List.{List, [], ◌∷◌, ◌++◌, append-nil}
use mathlib.Core.Option.{Option, none, some}
use Prim.Native.Nat.{ℕ, zero, suc, ◌+◌, ◌*◌, ◌≤◌, ◌<◌}
use native.Mathlib.Nat.{add-zero}
use native.Mathlib.Omega.{arith}
use lib.Dec.{leb, ltb, eqb}
use lib.ListN.{length, get_or, take, drop, length-take, length-drop}
use lib.Seq.{ext_get_or, get_or-take, get_or-drop}
use borrow.Author.Tests.{leb-true, ltb-false, leb-false}
use Rattle.bitfield.specs.Field.{bit, get_field, Apart}
use Rattle.bitfield.proofs.Laws.{get-put_other, byte_put}
use Rattle.wire.specs.Digits.{Bytes}
use Rattle.wire.specs.Packet.{address_of, packet, request_packet, length_digits}
use Rattle.wire.proofs.Tests.{both}
use Rattle.wire.proofs.PacketLaws.{written-counted}
use Rattle.plan.specs.Stores.{Entry, applied}
use Rattle.messages.specs.Message.{Request, Reply, IsRequest}
use Rattle.messages.specs.Message.ScheduleRequest.{schedule_read, schedule_write, schedule_enable}
use Rattle.messages.specs.Message.Request.{get_parameter, set_parameter, power_read, power_control, date_read, date_write, item_read, tag_write, schedule}
use Rattle.messages.specs.Text.{request_type, request_text}
use Rattle.messages.specs.declared.message.Item.{Item}
use Rattle.messages.proofs.RoundTrips.{request-back, request-type, request-length}
use Rattle.store.specs.Fields.{Field, read, write}
use Rattle.store.specs.Layout.{fields_in_range, tag_length, former_length}
use Rattle.store.specs.Settings.{Listed, setting_at, current}
use Rattle.store.specs.Contents.{is_on, date_of, tag_of, former_tag_of}
use Rattle.store.specs.declared.settings.Row.{Row}
use Rattle.store.proofs.SettingLaws.{setting-listed, setting-told}
use Rattle.store.proofs.StoreLaws.{is_field, in_range-one}
use Rattle.schedule.specs.Numbers.{is_listed, numbers_of}
use Rattle.schedule.proofs.ProgramLaws.{program_agrees}
use Rattle.layouts.proofs.RangeLaws.{range-fields}
use Rattle.calls.specs.Board.{Identity, Answer}
use Rattle.calls.specs.Lists.{seen, run}
use Rattle.actions.specs.Act.{Effect, replies, get_listed, get_effect, power_read_effect, item_of, schedule_read_effect, schedule_effect, effect_of, effect}
use Rattle.packets.specs.Packets.{BoardOutcome, holding, to_own}
use Rattle.board.specs.BoardKind.{board_kind}
use Rattle.board.specs.Demand3.{Trace, Events}
use Rattle.board.specs.ByteCalls.{byte_calls, waits}
use Rattle.exchange.specs.Rows.{Idle, Ready, is_read, heard, Asks, Kept, Changes, is_within, is_tag}
use Rattle.exchange.proofs.RowLaws.{rest, own_seen, ready-asks}

-- ---- what is heard of a request is what is heard of its effect

heard-waits : (lent : ℕ → List ℕ) (m : List ℕ) (k n : ℕ) (os : Trace) → heard (waits lent m k n ++ os) ≡ heard (waits lent [] k n) ++ heard os
unfolding heard waits
heard-waits lent m k zero os = refl
heard-waits lent m k (suc n) os = rw (heard-waits lent m (suc k) n os)

-- the answer and the buffer of an outcome, after those of n waits
abbrev heard_then : (ℕ → List ℕ) → ℕ → BoardOutcome → List (Answer ℕ × List ℕ)
heard_then lent n o = heard (waits lent [] 0 n) ++ ((o.answer, o.buffer) ∷ [])

module _ (i : Identity) (r : Request) (h : IsRequest r) (lent : ℕ → List ℕ) (room : (k : ℕ) → 64 ≤ length (lent k)) where
  abbrev bytes : Events
  bytes = byte_calls lent 0 (request_packet (address_of i.id) (request_type r) (request_text r))

  heard-effect : (m : List ℕ) → Idle (holding i []) m
      → heard (run board_kind i (holding i []) m bytes)
      ≡ heard_then lent (length (request_text r) + 10) (to_own i (effect_of i m r) (lent (length (request_text r) + 10)))
  unfolding heard run seen packet
  heard-effect m idle =
      let l = request-length r h in
      let text = request_text r in
      ap (λ (es : Events). heard (run board_kind i (holding i []) m es)) (sym (append-nil bytes))
      ∙ ap heard (own_seen i m idle (request_type r) (length_digits text) text (written-counted text) (request-type r) l.0 l.1 lent room []
      (ap (effect i m) (request-back r h)))
      ∙ heard-waits lent m 0 (length (request_text r) + 10) _

-- ---- two stores that differ in some bits alone

-- only bits of those from at on, as many as width says, and of these only ones that may change
pub record Elsewhere (mayChange : ℕ → Bool) (at width : ℕ) (m u : List ℕ) : Type 0 where
  pub fields : (at' width' : ℕ) → Apart at width at' width' → get_field u at' width' ≡ get_field m at' width'
  pub bytes : (j : ℕ) → Apart at width (8 * j) 8 → get_or u j 0 ≡ get_or m j 0
  pub bits : (k : ℕ) → mayChange k ≡ false → bit u k ≡ bit m k

-- a bit that is not within some bits is apart from them
pub bit-apart : (at width k : ℕ) → is_within at width k ≡ false → Apart at width k 1
bit-apart at width k h = go (leb at k) (ltb k (at + width)) refl refl h
  where
    go : (x y : Bool) → leb at k ≡ x → ltb k (at + width) ≡ y → (x && y) ≡ false → Apart at width k 1
    go true true a b n = absurd (false≢true (sym n))
    go true false a b n = inl (ltb-false k (at + width) b)
    go false y a b n = inr (omega (arith, leb-false at k a))

-- a field of one bit is that bit
pub bit-same : (m u : List ℕ) (k : ℕ) → get_field u k 1 ≡ get_field m k 1 → bit u k ≡ bit m k
unfolding get_field
bit-same m u k e = let f = rw (add-zero k) at e in omega arith

pub elsewhere : (at width : ℕ) (m u : List ℕ) → ((at' width' : ℕ) → Apart at width at' width' → get_field u at' width' ≡ get_field m at' width')
    → ((j : ℕ) → Apart at width (8 * j) 8 → get_or u j 0 ≡ get_or m j 0) → Elsewhere (is_within at width) at width m u
elsewhere at width m u f b = record { fields = f; bytes = b; bits = λ k n. bit-same m u k (f k 1 (bit-apart at width k n)) }

pub field-elsewhere : (m : List ℕ) (f : Field) (v : ℕ) → Elsewhere (is_within f.at f.width) f.at f.width m (write m f v)
field-elsewhere m f v =
    elsewhere f.at f.width m (write m f v) (get-put_other m f.at f.width v) (byte_put m f.at f.width v)

-- what is read of a store and may not move lies elsewhere: settings, power, date, both tags with their lengths, and programs
pub record Clear (mayMove : Request → Bool) (at width : ℕ) : Type 0 where
  pub settings : (r : Row) → Listed r → mayMove (get_parameter r.page r.code) ≡ false → Apart at width r.at r.width
  pub power : mayMove power_read ≡ false → Apart at width 53 1
  pub date : mayMove date_read ≡ false → Apart at width 54 30
  pub tags : (x : Item) → is_tag x ≡ true → mayMove (item_read x) ≡ false → Apart at width 84 268
  pub programs : (k : ℕ) → k ≤ 6 → mayMove (schedule (schedule_read k)) ≡ false → Apart at width (352 + 40 * k) 34

-- what is the same in some bytes is the same part
part_same : (n k : ℕ) (m u : List ℕ) → length u ≡ length m → ((j : ℕ) → k ≤ j → j < k + n → get_or u j 0 ≡ get_or m j 0)
    → take n (drop k u) ≡ take n (drop k m)
part_same n k m u l f =
    ext_get_or 0 (take n (drop k u)) (take n (drop k m)) (simp (length-take, length-drop, l)) (λ j h. at j (few j h))
  where
    few : (j : ℕ) → j < length (take n (drop k u)) → j < n
    few j h = let g = rw length-take at h in omega arith

    at : (j : ℕ) → j < n → get_or (take n (drop k u)) j 0 ≡ get_or (take n (drop k m)) j 0
    at j h =
        get_or-take n (drop k u) j 0 h ∙ get_or-drop k u j 0 ∙ f (k + j) (omega arith) (omega arith)
        ∙ sym (get_or-take n (drop k m) j 0 h ∙ get_or-drop k m j 0)

-- a tag's length in a store in range
pub length-few : (m : List ℕ) (f : Field) → is_field f ≡ true → f.most ≡ 16 → fields_in_range m ≡ true → read m f ≤ 16
length-few m f e most r =
    let k = read m f in
    omega (arith, leb-true k f.most (both (leb f.least k) (leb k f.most) (in_range-one m f r e)).1)

module _ {mayChange : ℕ → Bool} {at width : ℕ} {m u : List ℕ} (e : Elsewhere mayChange at width m u) where
  power-same : Apart at width 53 1 → is_on u ≡ is_on m
  unfolding is_on
  power-same a = ap (λ (x : ℕ). eqb x 1) (e.fields 53 1 a)

  date_same : Apart at width 54 30 → date_of u ≡ date_of m
  unfolding date_of
  date_same a =
      let part : (at' width' : ℕ) → 54 ≤ at' → at' + width' ≤ 84 → get_field u at' width' ≡ get_field m at' width' =
      λ at' width' l h. e.fields at' width' (⊎_elim (λ x. inl (omega arith)) (λ x. inr (omega arith)) a) in
      λ j. record {
        year = part 54 7 (omega arith) (omega arith) j;
        month = part 61 4 (omega arith) (omega arith) j;
        day = part 65 5 (omega arith) (omega arith) j;
        weekday = part 70 3 (omega arith) (omega arith) j;
        hour = part 73 5 (omega arith) (omega arith) j;
        minute = part 78 6 (omega arith) (omega arith) j;
        daylight = 0;
      }

  -- a tag of at most 16 bytes from byte k on, its length in the field at bit n
  bytes_same : (n k : ℕ) → length u ≡ length m → Apart at width 84 268 → 84 ≤ n → n ≤ 89 → 12 ≤ k → k ≤ 28 → get_field m n 5 ≤ 16
      → take (get_field u n 5) (drop k u) ≡ take (get_field m n 5) (drop k m)
  bytes_same n k l a h h' b b' few =
      ap (λ (n : ℕ). take n (drop k u)) (e.fields n 5 (⊎_elim (λ x. inl (omega arith)) (λ x. inr (omega arith)) a))
      ∙ part_same (get_field m n 5) k m u l (λ j c d. e.bytes j (⊎_elim (λ x. inl (omega arith)) (λ x. inr (omega arith)) a))

  item_same : (i : Identity) (x : Item) → length u ≡ length m → fields_in_range m ≡ true → (is_tag x ≡ true → Apart at width 84 268)
      → item_of i u x ≡ item_of i m x
  unfolding tag_of former_tag_of
  item_same i Item.Serial l r a = refl
  item_same i Item.Model l r a = refl
  item_same i Item.Tag l r a =
      bytes_same 84 12 l (a refl) (omega arith) (omega arith) (omega arith) (omega arith) (length-few m tag_length refl refl r)
  item_same i Item.FormerTag l r a =
      bytes_same 89 28 l (a refl) (omega arith) (omega arith) (omega arith) (omega arith) (length-few m former_length refl refl r)

  program_same : (k : ℕ) → (k ≤ 6 → Apart at width (352 + 40 * k) 34) → schedule_read_effect u k ≡ schedule_read_effect m k
  program_same k a = go (is_listed k) refl
    where
      go : (b : Bool) → is_listed k ≡ b → schedule_read_effect u k ≡ schedule_read_effect m k
      go true f =
          let same = program_agrees u m k
          (λ at' width' l h. e.fields at' width' (⊎_elim (λ x. inl (omega arith)) (λ x. inr (omega arith)) (a (leb-true k 6 f)))) in
          rw (f, ap (numbers_of k) same)
      go false f = rw f

  get-same : (page code : ℕ) → ((r : Row) → setting_at page code ≡ some r → Apart at width r.at r.width)
      → get_effect u page code ≡ get_effect m page code
  unfolding get_effect current
  get-same page code a = rw (listed (setting_at page code) refl)
    where
      listed : (q : Option Row) → setting_at page code ≡ q → get_listed u page code q ≡ get_listed m page code q
      listed none f = refl
      listed (some r) f = rw (e.fields r.at r.width (a r f))

  read_same : {mayMove : Request → Bool} (i : Identity) → length u ≡ length m → fields_in_range m ≡ true → Clear mayMove at width
      → (r : Request) → is_read r ≡ true → mayMove r ≡ false → effect_of i u r ≡ effect_of i m r
  unfolding effect_of power_read_effect schedule_effect
  read_same {mayMove} i l f c (get_parameter page code) t n =
      get-same page code
      (λ r q. let at = setting-told page code r q in
      c.settings r (setting-listed page code r q) (ap₂ (λ (page code : ℕ). mayMove (get_parameter page code)) (sym at.0) (sym at.1) ∙ n))
  read_same i l f c (set_parameter page code v) t n = absurd (false≢true t)
  read_same i l f c power_read t n = rw (power-same (c.power n))
  read_same i l f c (power_control mode) t n = absurd (false≢true t)
  read_same i l f c date_read t n = rw (date_same (c.date n))
  read_same i l f c (date_write d) t n = absurd (false≢true t)
  read_same i l f c (item_read x) t n = rw (item_same i x l f (λ g. c.tags x g n))
  read_same i l f c (tag_write tag) t n = absurd (false≢true t)
  read_same i l f c (schedule (schedule_read k)) t n = program_same k (λ h. c.programs k h n)
  read_same i l f c (schedule (schedule_write numbers)) t n = absurd (false≢true t)
  read_same i l f c (schedule (schedule_enable k enable)) t n = absurd (false≢true t)

-- ---- a request that stores

kept : {i : Identity} {m u : List ℕ} {mayMove : Request → Bool} {mayChange : ℕ → Bool} {at width : ℕ} → Idle (holding i []) m → Idle (holding i []) u
    → Elsewhere mayChange at width m u → Clear mayMove at width → Kept mayMove mayChange i m u
kept {i} {m} {u} before after e c =
    record {
      reads = λ r h t n lent room.
          let k = length (request_text r) + 10 in
          let l : length u ≡ length m = (rest i u after).size ∙ sym (rest i m before).size in
          heard-effect i r h lent room u after
          ∙ ap (λ (x : Effect). heard_then lent k (to_own i x (lent k))) (read_same e i l (range-fields m (rest i m before).ranged) c r t n)
          ∙ sym (heard-effect i r h lent room m before);
      bits = e.bits;
    }

-- an effect whose stores change some bits alone and are bytes, by what then holds of an idle board
pub changes : {i : Identity} {m u : List ℕ} {x : Reply} {es : List Entry} {mayMove : Request → Bool} {mayChange : ℕ → Bool}
    {Then : List ℕ → Type 0} {at width : ℕ}
    → Ready i m → (r : Request) → IsRequest r → effect_of i m r ≡ replies x es → applied es m ≡ u → Bytes u
    → Elsewhere mayChange at width m u → Clear mayMove at width → (Idle (holding i []) u → Then u) → Changes i m r x mayMove mayChange Then
changes {i} {m} {u} {x} ready r h is q b e c then =
    let asked = subst (Asks i m r x) q (ready-asks i m ready r h is) in
    record {
      left = u;
      asked = asked;
      ready = record { rests = asked.rests; in_bytes = record { serial = ready.in_bytes.serial; model = ready.in_bytes.model; store = b } };
      kept = kept ready.rests asked.rests e c;
      shown = then asked.rests;
    }
