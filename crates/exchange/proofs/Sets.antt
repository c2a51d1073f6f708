-- Get and Set: the rows of the table are the settings of the store. A Get shows the number in a setting's field, and an accepted Set stores that field.
use mathlib.Core.Path.{◌≡◌, refl, sym, ap, ◌∙◌, subst}
use mathlib.Core.Bool.{Bool, true, false, not, cond, ◌&&◌, and-false, false≢true}
use mathlib.Core.Logic.{◌≢◌, ◌⊎◌, inl, ⊎_elim}
use mathlib.Core.List.Memᴰ
use mathlib.Core.List.{List, [], ◌∷◌, map, Memᴰ}
use mathlib.Core.Option.{Option, none, some}
use Prim.Native.Nat.{ℕ, ◌+◌, ◌*◌, ◌≤◌, ◌<◌}
use native.Mathlib.Omega.{arith}
use lib.Dec.{leb, ltb, eqb}
use lib.ListN.{length}
use borrow.Author.Tests.{leb-true, ltb-true, eqb-true, eq-eqb, ne_eqb, not-true}
use Rattle.bitfield.specs.Field.{get_field}
use Rattle.wire.proofs.Tests.{both}
use Rattle.messages.specs.Message.Request.{get_parameter, set_parameter}
use Rattle.messages.specs.Message.Reply.{get_reply, set_reply}
use Rattle.store.specs.Fields.{field_stores}
use Rattle.store.specs.Settings.{settings, Listed, field_of, setting_at, input_shown, accepts, kept, shown, most_kept, current}
use Rattle.store.specs.Contents.{is_on}
use Rattle.store.specs.declared.settings.Values.{Values}
use Rattle.store.specs.declared.settings.Row.{Row}
use Rattle.store.proofs.Tables.{either}
use Rattle.store.proofs.StoreLaws.{field-applied}
use Rattle.store.proofs.SettingLaws.{each_setting, same-or_apart_row, setting-found, setting-told, setting-listed, settled, set-shows}
use Rattle.calls.specs.Board.{Identity}
use Rattle.actions.specs.Act.{replies, says, is_erase, get_effect, set_effect, effect_of}
use Rattle.packets.specs.Packets.{holding}
use Rattle.exchange.specs.Rows.{Idle, Ready, Asks, Shows, Changes, is_within, IsOn, IsStandby}
use Rattle.exchange.specs.Rows.{Setting, table, IsUnlisted, is_input, shown_of, shown_after, is_get_of}
use Rattle.exchange.proofs.ReplyLaws.{get-sayable}
use Rattle.exchange.proofs.RowLaws.{rest, shows, ready-shows}
use Rattle.exchange.proofs.StoreBytes.{field-bytes}
use Rattle.exchange.proofs.KeptLaws.{Clear, field-elsewhere, changes}

-- ---- the table

abbrev setting_of : Row → Setting
setting_of r = record { page = r.page; code = r.code; at = r.at; width = r.width; largest = r.largest; takes = accepts r.values }

row_by : (P : Setting → Type 0) (rs : List Row) → ((r : Row) → Memᴰ r rs → P (setting_of r)) → (t : Setting) → Memᴰ t (map setting_of rs) → P t
row_by P [] f t m = absurd (Memᴰ.not-nil m)
row_by P (r ∷ rs) f t m =
    ⊎_elim (λ q. subst P (sym q) (f r (Memᴰ.head refl))) (λ n. row_by P rs (λ r l. f r (Memᴰ.tail l)) t n) (Memᴰ.cases_cons m)

-- what holds of each setting of the store holds of each of the table
table-by : (P : Setting → Type 0) → ((r : Row) → Listed r → P (setting_of r)) → (t : Setting) → Memᴰ t table → P t
table-by P f t l = row_by P settings f t l

in_rows : (rs : List Row) (r : Row) → Memᴰ r rs → Memᴰ (setting_of r) (map setting_of rs)
in_rows [] r m = absurd (Memᴰ.not-nil m)
in_rows (t ∷ rs) r m = ⊎_elim (λ q. Memᴰ.head (ap setting_of q)) (λ n. Memᴰ.tail (in_rows rs r n)) (Memᴰ.cases_cons m)

-- ---- a pair that is not listed

unlisted_none : (page code : ℕ) → IsUnlisted page code → setting_at page code ≡ none
unlisted_none page code n = go (setting_at page code) refl
  where
    go : (q : Option Row) → setting_at page code ≡ q → q ≡ none
    go none e = refl
    go (some r) e = absurd (n.0 (setting_of r) (in_rows settings r (setting-listed page code r e)) (setting-told page code r e))

unlisted_not_erase : (page code : ℕ) → IsUnlisted page code → is_erase page code ≡ false
unlisted_not_erase page code n = go (is_erase page code) refl
  where
    go : (b : Bool) → is_erase page code ≡ b → b ≡ false
    go true e = let h = both (eqb page 0xF0) (eqb code 0x01) e in absurd (n.1 (eqb-true page 0xF0 h.0, eqb-true code 0x01 h.1))
    go false e = refl

-- ---- a setting's numbers

module _ (r : Row) (l : Listed r) where
  setting-not_erase : is_erase r.page r.code ≡ false
  setting-not_erase = not-true (is_erase r.page r.code) (each_setting (λ r. not (is_erase r.page r.code)) r refl l)

  page-below : r.page < 256
  page-below = ltb-true r.page 256 (each_setting (λ r. ltb r.page 256) r refl l)

  code_below : r.code < 256
  code_below = ltb-true r.code 256 (each_setting (λ r. ltb r.code 256) r refl l)

  -- the settings lie before power
  pub before-power : r.at + r.width ≤ 53
  before-power = leb-true (r.at + r.width) 53 (each_setting (λ r. leb (r.at + r.width) 53) r refl l)

accepted-below : (s : Values) (v : ℕ) → most_kept s < 65536 → accepts s v ≡ true → v < 65536
accepted-below (Values.Range least most) v n h = omega (arith, leb-true v most (both (leb least v) (leb v most) h).1)
accepted-below Values.Inputs v n h =
    let is : (k : ℕ) → k < 65536 → eqb v k ≡ true → v < 65536 = λ k b e. omega (arith, eqb-true v k e) in
    ⊎_elim (is 1 (omega arith))
    (λ h. ⊎_elim (is 3 (omega arith)) (λ h. ⊎_elim (is 4 (omega arith)) (is 17 (omega arith)) (either (eqb v 4) _ h)) (either (eqb v 3) _ h))
    (either (eqb v 1) _ h)

value-below : (r : Row) (v : ℕ) → Listed r → accepts r.values v ≡ true → v < 65536
value-below r v l h =
    accepted-below r.values v (ltb-true (most_kept r.values) 65536 (each_setting (λ r. ltb (most_kept r.values) 65536) r refl l)) h

-- ---- what is shown

-- the inputs are the values of 00/60 alone
abbrev is_inputs : Values → Bool
is_inputs (Values.Range least most) = false
is_inputs Values.Inputs = true

abbrev is_same : Bool → Bool → Bool
is_same a b = cond a b (not b)

same-told : (a b : Bool) → is_same a b ≡ true → a ≡ b
same-told true b e = sym e
same-told false b e = sym (not-true b e)

inputs-told : (r : Row) → Listed r → is_inputs r.values ≡ is_input r.page r.code
inputs-told r l =
    same-told (is_inputs r.values) (is_input r.page r.code)
    (each_setting (λ r. is_same (is_inputs r.values) (is_input r.page r.code)) r refl l)

values-show : (s : Values) (k : ℕ) → shown s k ≡ cond (is_inputs s) (input_shown k) k
values-show (Values.Range least most) k = refl
values-show Values.Inputs k = refl

row_shows : (m : List ℕ) (r : Row) → Listed r → current m r ≡ shown_of r.page r.code (get_field m r.at r.width)
unfolding current
row_shows m r l =
    let k = get_field m r.at r.width in
    values-show r.values k ∙ ap (λ (b : Bool). cond b (input_shown k) k) (inputs-told r l)

-- input 4 shows 17, every other value itself
values-settle : (s : Values) (v : ℕ) → settled s v ≡ cond (is_inputs s && eqb v 4) 17 v
values-settle (Values.Range least most) v = refl
values-settle Values.Inputs v = refl

row-settles : (r : Row) (v : ℕ) → Listed r → settled r.values v ≡ shown_after r.page r.code v
row-settles r v l = values-settle r.values v ∙ ap (λ (b : Bool). cond (b && eqb v 4) 17 v) (inputs-told r l)

get-shows : {i : Identity} {u : List ℕ} → Idle (holding i []) u → (r : Row) → Listed r → {v : ℕ} → current u r ≡ v
    → Shows i u (get_parameter r.page r.code) (get_reply 0 r.page r.code 0 r.largest v)
unfolding effect_of get_effect
get-shows {i} {u} idle r l q =
    subst (λ (v : ℕ). Shows i u (get_parameter r.page r.code) (get_reply 0 r.page r.code 0 r.largest v)) q
    (shows i u idle (get_parameter r.page r.code) (page-below r l, code_below r l) (rw (setting-not_erase r l, setting-found r l))
    (get-sayable u r.page r.code (page-below r l) (code_below r l) (some r) (setting-found r l)))

-- ---- Get

module _ (i : Identity) (m : List ℕ) (ready : Ready i m) where
  pub get : (t : Setting) → Memᴰ t table
      → Shows i m (get_parameter t.page t.code)
      (get_reply 0 t.page t.code 0 t.largest (shown_of t.page t.code (get_field m t.at t.width)))
  get = table-by _ (λ r l. get-shows ready.rests r l (row_shows m r l))

  pub get_unlisted_law : (page code : ℕ) → page < 256 → code < 256 → IsUnlisted page code → Shows i m (get_parameter page code) (get_reply 1 page code 0 0 0)
  unfolding effect_of get_effect
  get_unlisted_law page code p c n = ready-shows i m ready (get_parameter page code) (p, c) (rw (unlisted_not_erase page code n, unlisted_none page code n))

  pub get_erase : Shows i m (get_parameter 0xF0 0x01) (get_reply 0 0xF0 0x01 1 1 0)
  unfolding effect_of get_effect
  get_erase = ready-shows i m ready (get_parameter 0xF0 0x01) (omega arith, omega arith) refl

-- ---- Set

own_get : (r : Row) {t : Row} → r ≡ t → is_get_of r.page r.code (get_parameter t.page t.code) ≡ true
own_get r q =
    subst (λ (t : Row). is_get_of r.page r.code (get_parameter t.page t.code) ≡ true) q
    (rw (eq-eqb r.page r.page refl, eq-eqb r.code r.code refl))

-- a Get of another setting reads another field
setting-clear : (r : Row) → Listed r → Clear (is_get_of r.page r.code) r.at r.width
setting-clear r l =
    let b = before-power r l in
    record {
      settings = λ t k n. ⊎_elim (λ q. absurd (false≢true (sym n ∙ own_get r q))) (λ a. a) (same-or_apart_row r t l k);
      power = λ _. inl b;
      date = λ _. inl (omega arith);
      tags = λ _ _ _. inl (omega arith);
      programs = λ _ _ _. inl (omega arith);
    }

module _ (i : Identity) (m : List ℕ) (ready : Ready i m) where
  accepted : (r : Row) (v : ℕ) → Listed r → is_on m ≡ true → accepts r.values v ≡ true
      → effect_of i m (set_parameter r.page r.code v)
      ≡ replies (set_reply 0 r.page r.code 0 r.largest v) (field_stores m (field_of r) (kept r.values v))
  unfolding effect_of set_effect
  accepted r v l on h = rw (setting-not_erase r l, setting-found r l, on, h)

  -- in standby, or with a value that is not accepted
  refused : (r : Row) (v : ℕ) → Listed r → (is_on m && accepts r.values v) ≡ false
      → effect_of i m (set_parameter r.page r.code v) ≡ says (set_reply 1 r.page r.code 0 r.largest v)
  unfolding effect_of set_effect
  refused r v l h = rw (setting-not_erase r l, setting-found r l, h)

  pub set : (t : Setting) → Memᴰ t table → (v : ℕ) → IsOn m → t.takes v ≡ true
      → Changes i m (set_parameter t.page t.code v) (set_reply 0 t.page t.code 0 t.largest v) (is_get_of t.page t.code)
      (is_within t.at t.width)
      (λ m'. Shows i m' (get_parameter t.page t.code) (get_reply 0 t.page t.code 0 t.largest (shown_after t.page t.code v)))
  unfolding is_on
  set = table-by _ (λ r l v on h.
      let f = field_of r in
      let k = kept r.values v in
      let inside : r.at + r.width ≤ 8 * length m = omega (arith, before-power r l, (rest i m ready.rests).size) in
      changes ready (set_parameter r.page r.code v) (page-below r l, code_below r l, value-below r v l h) (accepted r v l (eq-eqb _ 1 on) h)
      (field-applied m f k) (field-bytes m f k ready.in_bytes.store) (field-elsewhere m f k) (setting-clear r l)
      (λ idle. get-shows idle r l (set-shows m r v l inside h ∙ row-settles r v l)))

  pub set_refused : (t : Setting) → Memᴰ t table → (v : ℕ) → v < 65536 → (t.takes v ≡ false) ⊎ IsStandby m
      → Asks i m (set_parameter t.page t.code v) (set_reply 1 t.page t.code 0 t.largest v) m
  unfolding is_on
  set_refused = table-by _ (λ r l v w no.
      ready-shows i m ready (set_parameter r.page r.code v) (page-below r l, code_below r l, w)
      (refused r v l (⊎_elim (λ n. ap (λ (b : Bool). is_on m && b) n ∙ and-false (is_on m)) (λ z. rw z) no)))

  pub set_unlisted : (page code v : ℕ) → page < 256 → code < 256 → v < 65536 → IsUnlisted page code
      → Asks i m (set_parameter page code v) (set_reply 1 page code 0 0 v) m
  unfolding effect_of set_effect
  set_unlisted page code v p c w n =
      ready-shows i m ready (set_parameter page code v) (p, c, w) (rw (unlisted_not_erase page code n, unlisted_none page code n))

  pub set_erase_refused : (v : ℕ) → v < 65536 → v ≢ 1 → Asks i m (set_parameter 0xF0 0x01 v) (set_reply 1 0xF0 0x01 1 1 v) m
  unfolding effect_of set_effect
  set_erase_refused v w n = ready-shows i m ready (set_parameter 0xF0 0x01 v) (omega arith, omega arith, w) (rw (ne_eqb v 1 n))
