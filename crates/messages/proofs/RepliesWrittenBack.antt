-- A text in which a reply is found spells it: each field that was read is in range and, written again, gives back the digits that it was read from, but for
-- their case.
use Prim.Native.Nat.{ℕ, ◌≤◌}
use mathlib.Core.Bool.{true, cond}
use mathlib.Core.List.{List, []}
use mathlib.Core.Option.{Option, some, map}
use mathlib.Core.Path.{◌≡◌, sym, refl}
use native.Mathlib.Omega.{arith}
use borrow.Author.Tests.{leb-true, eqb-true}
use lib.Dec.{leb, eqb}
use lib.ListN.{length, drop}
use lib.Seq.{drop-drop}
use Rattle.wire.specs.Digits.{four, hex_of, two_at, four_at, octets_in, SameDigits}
use Rattle.wire.specs.Packet.{type_b, type_d, type_f}
use Rattle.wire.proofs.Tests.{cond-by}
use Rattle.wire.proofs.DigitLaws.{two-below, four_below}
use Rattle.messages.specs.Message.{Reply, IsParameter, IsReply, is_power_mode}
use Rattle.messages.specs.Message.ScheduleReply.{schedule_read_reply, schedule_write_reply}
use Rattle.messages.specs.Message.Reply.{get_reply, set_reply, date_read_reply, date_write_reply, item_reply, tag_write_reply, schedule_reply}
use Rattle.messages.specs.Text.{power_control_name, power_read_reply_name, power_read_reply_fixed, date_read_reply_name, date_write_reply_name}
use Rattle.messages.specs.Text.{item_reply_name, tag_write_reply_name, schedule_read_reply_name, schedule_write_reply_name, schedule_enable_reply_name}
use Rattle.messages.specs.Text.{null_name, date_text, parameter_text, schedule_reply_text, reply_type, reply_text}
use Rattle.messages.specs.Read.{
  begins_with,
  is_name,
  flag_at,
  mode_at,
  date_in,
  numbers_in,
  parameter_in,
  power_read_reply_in,
  power_control_reply_in,
  date_write_reply_in,
  tag_write_reply_in,
  schedule_read_reply_in,
  schedule_write_reply_in,
  schedule_enable_reply_in,
  plain_reply_in,
  command_reply_in,
  reply_in,
}
use Rattle.messages.specs.Spelling.{SpellsReply}
use Rattle.messages.specs.declared.message.Item.{Item}
use Rattle.messages.proofs.ParseLaws.{Found, bind_found, map_found, date_found, item_fits, numbers-found}
use Rattle.messages.proofs.SpellingLaws.{spells-itself}
use Rattle.messages.proofs.WrittenBack.{two_at_lem, four-at, name-written, name-taken, ended, name-is, date_written_lem, octets_written, numbers-written, spelt_digits, spelt}

-- ---- the numbers of which only some are taken

-- 0 or 1, in two digits
flag_found : (t : List ℕ) (at : ℕ) → Found (λ n. (two_at t at ≡ some n) × (n ≤ 1)) (flag_at t at)
unfolding flag_at
flag_found t at = bind_found _ (two_at t at) _ λ n a. cond-by (Found _) (leb n 1) _ _ (λ h. (a, leb-true n 1 h)) (λ _. tt)

flag_told : (t : List ℕ) (at : ℕ) {n : ℕ} → flag_at t at ≡ some n → (two_at t at ≡ some n) × (n ≤ 1)
flag_told t at e = rw e at (flag_found t at)

-- 1, 2 or 4, in four digits
mode_found : (t : List ℕ) (at : ℕ) → Found (λ n. (four_at t at ≡ some n) × (is_power_mode n ≡ true)) (mode_at t at)
unfolding mode_at
mode_found t at = bind_found _ (four_at t at) _ λ n a. cond-by (Found _) (is_power_mode n) _ _ (λ h. (a, h)) (λ _. tt)

mode_told : (t : List ℕ) (at : ℕ) {n : ℕ} → mode_at t at ≡ some n → (four_at t at ≡ some n) × (is_power_mode n ≡ true)
mode_told t at e = rw e at (mode_found t at)

-- ---- replies

module _ (kind : ℕ) (t : List ℕ) where
  -- a reply that has a text, of this type and spelt so
  abbrev IsSaid : Reply → Type 0
  IsSaid r = IsReply r × (reply_type r ≡ kind) × SpellsReply r t

  -- if one was found, it is that
  abbrev Said : Option Reply → Type 0
  Said o = Found IsSaid o

  parameter-said : (reply : ℕ → ℕ → ℕ → ℕ → ℕ → ℕ → Reply)
      → ((r p c o l v : ℕ) → IsParameter r p c o l v → SameDigits (parameter_text r p c o l v) t → IsSaid (reply r p c o l v)) → Said (parameter_in reply t)
  unfolding parameter_in parameter_text
  parameter-said reply say =
      cond-by Said (eqb (length t) 16) _ _
      (λ h. let n = eqb-true (length t) 16 h in
      bind_found IsSaid (flag_at t 0) _ λ r a.
      bind_found IsSaid (two_at t 2) _ λ p b.
      bind_found IsSaid (two_at t 4) _ λ c d.
      bind_found IsSaid (flag_at t 6) _ λ o e.
      bind_found IsSaid (four_at t 8) _ λ l f.
      bind_found IsSaid (four_at t 12) _ λ v g.
      say r p c o l v
      record {
        result = (flag_told t 0 a).1;
        page = two-below t 2 b;
        code = two-below t 4 d;
        operation = (flag_told t 6 e).1;
        largest = four_below t 8 f;
        value = four_below t 12 g;
      }
      (two_at_lem t 0 _ (omega arith) (flag_told t 0 a).0 (two_at_lem t 2 _ (omega arith) b (two_at_lem t 4 _ (omega arith) d
      (two_at_lem t 6 _ (omega arith) (flag_told t 6 e).0 (four-at t 8 _ (omega arith) f (four-at t 12 [] (omega arith) g (ended 16 t (omega arith)))))))))
      (λ _. tt)

  get_said : type_d ≡ kind → Said (parameter_in get_reply t)
  unfolding reply_type reply_text
  get_said is = parameter-said get_reply (λ r p c o l v h e. (h, is, spelt_digits e))

  set_said : type_f ≡ kind → Said (parameter_in set_reply t)
  unfolding reply_type reply_text
  set_said is = parameter-said set_reply (λ r p c o l v h e. (h, is, spelt_digits e))

  module _ (is : type_b ≡ kind) where
    power_read_said : begins_with power_read_reply_name t ≡ true → Said (power_read_reply_in (drop 2 t))
    unfolding power_read_reply_in reply_type reply_text
    power_read_said b =
        let s = drop 2 t in
        cond-by Said (eqb (length s) 14) _ _
        (λ h. let n = eqb-true (length s) 14 h in
        bind_found IsSaid (flag_at s 0) _ λ status a.
        cond-by Said (begins_with power_read_reply_fixed (drop 2 s)) _ _
        (λ f. bind_found IsSaid (mode_at s 10) _ λ mode m.
        let flag = flag_told s 0 a in
        let told = mode_told s 10 m in
        let last = rw (← drop-drop 8 2 s) at (four-at s 10 [] (omega arith) told.0 (ended 14 s (omega arith))) in
        let fixed = name-written power_read_reply_fixed (drop 2 s) (four mode) f last in (
          (flag.1, told.1),
          is,
          record {
            digits = name-written power_read_reply_name t _ b (two_at_lem s 0 _ (omega arith) flag.0 fixed);
            name = rw (drop-drop 2 2 t) at (name-taken power_read_reply_fixed (drop 2 s) f);
          },
        ))
        (λ _. tt))
        (λ _. tt)

    power_control_said : Said (power_control_reply_in t)
    unfolding power_control_reply_in reply_type reply_text
    power_control_said =
        cond-by Said (eqb (length t) 12) _ _
        (λ h. let n = eqb-true (length t) 12 h in
        bind_found IsSaid (flag_at t 0) _ λ status a.
        cond-by Said (begins_with power_control_name (drop 2 t)) _ _
        (λ f. bind_found IsSaid (four_at t 8) _ λ mode m.
        let flag = flag_told t 0 a in
        let last = rw (← drop-drop 6 2 t) at (four-at t 8 [] (omega arith) m (ended 12 t (omega arith))) in (
          (flag.1, four_below t 8 m),
          is,
          record {
            digits = two_at_lem t 0 _ (omega arith) flag.0 (name-written power_control_name (drop 2 t) (four mode) f last);
            name = name-taken power_control_name (drop 2 t) f;
          },
        ))
        (λ _. tt))
        (λ _. tt)

    date_read_said : begins_with date_read_reply_name t ≡ true → Said (map date_read_reply (date_in (drop 4 t)))
    unfolding reply_type reply_text
    date_read_said b =
        let s = drop 4 t in
        map_found IsSaid date_read_reply (date_in s)
        (λ d e. (rw e at (date_found s), is, spelt date_read_reply_name t (date_text d) b (rw e at (date_written_lem s))))

    date_write_said : begins_with date_write_reply_name t ≡ true → Said (date_write_reply_in (drop 4 t))
    unfolding date_write_reply_in reply_type reply_text
    date_write_said b =
        let s = drop 4 t in
        cond-by Said (eqb (length s) 16) _ _
        (λ h. let n = eqb-true (length s) 16 h in
        bind_found IsSaid (flag_at s 0) _ λ status a.
        map_found IsSaid (date_write_reply status) (date_in (drop 2 s)) λ d e.
        let flag = flag_told s 0 a in (
          (flag.1, rw e at (date_found (drop 2 s))),
          is,
          spelt date_write_reply_name t _ b (two_at_lem s 0 (date_text d) (omega arith) flag.0 (rw e at (date_written_lem (drop 2 s)))),
        ))
        (λ _. tt)

    tag_write_said : begins_with tag_write_reply_name t ≡ true → Said (tag_write_reply_in (drop 4 t))
    unfolding tag_write_reply_in reply_type reply_text
    tag_write_said b =
        let s = drop 4 t in
        cond-by Said (leb 2 (length s)) _ _
        (λ h. bind_found IsSaid (flag_at s 0) _ λ status a.
        map_found IsSaid (tag_write_reply status) (octets_in (drop 2 s)) λ tag e.
        let flag = flag_told s 0 a in (
          (flag.1, item_fits (drop 2 s) e),
          is,
          spelt tag_write_reply_name t _ b
              (two_at_lem s 0 (hex_of tag) (leb-true 2 (length s) h) flag.0 (rw e at (octets_written (drop 2 s)))),
        ))
        (λ _. tt)

    schedule_read_said : begins_with schedule_read_reply_name t ≡ true → Said (schedule_read_reply_in (drop 4 t))
    unfolding reply_type reply_text schedule_reply_text
    schedule_read_said b =
        let s = drop 4 t in
        map_found IsSaid (λ numbers. schedule_reply (schedule_read_reply numbers)) (numbers_in s)
        (λ numbers e. (rw e at (numbers-found s), is, spelt schedule_read_reply_name t (hex_of numbers) b (rw e at (numbers-written s))))

    schedule_write_said : begins_with schedule_write_reply_name t ≡ true → Said (schedule_write_reply_in (drop 4 t))
    unfolding schedule_write_reply_in reply_type reply_text schedule_reply_text
    schedule_write_said b =
        let s = drop 4 t in
        cond-by Said (eqb (length s) 34) _ _
        (λ h. let n = eqb-true (length s) 34 h in
        bind_found IsSaid (flag_at s 0) _ λ status a.
        map_found IsSaid (λ numbers. schedule_reply (schedule_write_reply status numbers)) (numbers_in (drop 2 s)) λ numbers e.
        let flag = flag_told s 0 a in (
          (flag.1, rw e at (numbers-found (drop 2 s))),
          is,
          spelt schedule_write_reply_name t _ b (two_at_lem s 0 (hex_of numbers) (omega arith) flag.0 (rw e at (numbers-written (drop 2 s)))),
        ))
        (λ _. tt)

    schedule_enable_said : begins_with schedule_enable_reply_name t ≡ true → Said (schedule_enable_reply_in (drop 4 t))
    unfolding schedule_enable_reply_in reply_type reply_text schedule_reply_text
    schedule_enable_said b =
        let s = drop 4 t in
        cond-by Said (eqb (length s) 6) _ _
        (λ h. let n = eqb-true (length s) 6 h in
        bind_found IsSaid (flag_at s 0) _ λ status a.
        bind_found IsSaid (two_at s 2) _ λ program p.
        bind_found IsSaid (two_at s 4) _ λ enable e.
        let flag = flag_told s 0 a in (
          (flag.1, two-below s 2 p, two-below s 4 e),
          is,
          spelt schedule_enable_reply_name t _ b
              (two_at_lem s 0 _ (omega arith) flag.0 (two_at_lem s 2 _ (omega arith) p (two_at_lem s 4 [] (omega arith) e (ended 6 s (omega arith))))),
        ))
        (λ _. tt)

    plain_said : Said (plain_reply_in t)
    unfolding plain_reply_in reply_type reply_text
    plain_said =
        cond-by Said (is_name null_name t) _ _ (λ h. (tt, is, rw (name-is null_name t h) (spells-itself 0 2 t)))
        (λ _. cond-by Said (begins_with date_read_reply_name t) _ _ date_read_said
        (λ _. cond-by Said (begins_with date_write_reply_name t) _ _ date_write_said
        (λ _. cond-by Said (begins_with schedule_enable_reply_name t) _ _ schedule_enable_said
        (λ _. cond-by Said (begins_with power_read_reply_name t) _ _ power_read_said (λ _. power_control_said)))))

    -- a serial number, a model or a tag, behind a name of four bytes
    item_said : (i : Item) (x : Option Reply) → length (item_reply_name i) ≡ 4 → Said x
        → Said (cond (begins_with (item_reply_name i) t) (map (item_reply i) (octets_in (drop 4 t))) x)
    unfolding reply_type reply_text
    item_said i x l f =
        let s = drop 4 t in
        cond-by Said (begins_with (item_reply_name i) t) _ _
        (λ b. map_found IsSaid (item_reply i) (octets_in s) λ bytes e.
        let behind : SameDigits (hex_of bytes) s = rw e at (octets_written s) in
        (item_fits s e, is, rw l at (spelt (item_reply_name i) t (hex_of bytes) b (rw l behind))))
        (λ _. f)

    command_said : Said (command_reply_in t)
    unfolding command_reply_in
    command_said =
        item_said Item.Serial _ refl
        (item_said Item.Model _ refl
        (item_said Item.Tag _ refl
        (item_said Item.FormerTag _ refl
        (cond-by Said (begins_with tag_write_reply_name t) _ _ tag_write_said
        (λ _. cond-by Said (begins_with schedule_read_reply_name t) _ _ schedule_read_said
        (λ _. cond-by Said (begins_with schedule_write_reply_name t) _ _ schedule_write_said (λ _. plain_said)))))))

  reply_said : Said (reply_in kind t)
  unfolding reply_in
  reply_said =
      cond-by Said (eqb kind type_d) _ _ (λ h. get_said (sym (eqb-true kind type_d h)))
      (λ _. cond-by Said (eqb kind type_f) _ _ (λ h. set_said (sym (eqb-true kind type_f h)))
      (λ _. cond-by Said (eqb kind type_b) _ _ (λ h. command_said (sym (eqb-true kind type_b h))) (λ _. tt)))

pub reply-written_back : (kind : ℕ) (t : List ℕ) {r : Reply} → reply_in kind t ≡ some r
    → IsReply r × (reply_type r ≡ kind) × SpellsReply r t
reply-written_back kind t e = rw e at (reply_said kind t)
