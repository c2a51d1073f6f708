-- Schedules: a read shows the program in the store; what is written shows in the next read, and no other read gets any part of its bits.
use mathlib.Core.Path.{◌≡◌, refl, sym, ap, ◌∙◌, subst}
use mathlib.Core.Bool.{Bool, true, false, ◌&&◌, and_assoc, and-true, and-false}
use mathlib.Core.Logic.{◌⊎◌, inl, inr, ⊎_elim}
use mathlib.Core.List.{List, [], ◌∷◌}
use Prim.Native.Nat.{ℕ, suc, ◌+◌, ◌*◌, ◌%◌, ◌≤◌, ◌<◌}
use native.Mathlib.Decide.{dec_lt}
use native.Mathlib.Omega.{arith}
use lib.Dec.{leb, ltb, eqb}
use lib.ListN.{length, get_or, set, drop}
use lib.Seq.{drop-cons, drop-length}
use borrow.Author.Tests.{ltb-true, eqb-false, le-leb, lt-leb}
use Rattle.bitfield.specs.Field.{get_field, Apart}
use Rattle.messages.specs.Message.{IsNumbers}
use Rattle.messages.specs.Message.ScheduleRequest.{schedule_read, schedule_write, schedule_enable}
use Rattle.messages.specs.Message.ScheduleReply.{schedule_read_reply, schedule_write_reply, schedule_enable_reply}
use Rattle.messages.specs.Message.Request.{schedule}
use Rattle.messages.specs.Message.Reply.{null, schedule_reply}
use Rattle.store.specs.Fields.{write}
use Rattle.schedule.specs.Programs.{program_bit, program_of, with_program, program_stores, enable_field, enable_stores}
use Rattle.schedule.specs.Numbers.{are_zero, is_accepted, kept_fields, numbers_of, shown_program}
use Rattle.schedule.proofs.ProgramLaws.{program_keeps_field, program_keeps_byte, program_shown_lem, program_applied, enable-shown, enable-applied}
use Rattle.schedule.proofs.NumberLaws.{accepted-listed, kept-fit, numbers-back}
use Rattle.calls.specs.Board.{Identity}
use Rattle.actions.specs.Act.{schedule_write_effect, schedule_enable_effect, schedule_effect, effect_of}
use Rattle.packets.specs.Packets.{holding}
use Rattle.schedule.proofs.TimeLaws.{time_as}
use Rattle.exchange.specs.Rows.{Idle, Ready, Asks, Shows, Changes, is_within}
use Rattle.exchange.specs.ScheduleRows.{program_with, program_in, enabled_in, takes_program, is_read_of, ScheduleRows}
use Rattle.exchange.proofs.ReplyLaws.{program_sayable}
use Rattle.exchange.proofs.RowLaws.{rest, shows, ready-shows}
use Rattle.exchange.proofs.StoreBytes.{field-bytes, program_bytes}
use Rattle.exchange.proofs.KeptLaws.{Elsewhere, Clear, elsewhere, field-elsewhere, changes}
use Rattle.exchange.proofs.Sets.{before-power}

-- ---- what a write accepts

module _ (ns : List ℕ) (sixteen : length ns ≡ 16) where
  abbrev is_zero : ℕ → Bool
  is_zero j = eqb (get_or ns j 0) 0

  -- the last eight of sixteen numbers, one by one
  zeros_as : are_zero (drop 8 ns)
      ≡ (is_zero 8 && (is_zero 9 && (is_zero 10 && (is_zero 11 && (is_zero 12 && (is_zero 13 && (is_zero 14 && (is_zero 15 && true))))))))
  unfolding are_zero
  zeros_as = rw (from 8 refl, from 9 refl, from 10 refl, from 11 refl, from 12 refl, from 13 refl, from 14 refl, from 15 refl, end)
    where
      from : (j : ℕ) → ltb j 16 ≡ true → drop j ns ≡ get_or ns j 0 ∷ drop (suc j) ns
      from j h = drop-cons ns j 0 (omega (arith, ltb-true j 16 h))

      end : drop 16 ns ≡ []
      end = ap (λ (n : ℕ). drop n ns) (sym sixteen) ∙ drop-length ns

  takes-as : is_accepted ns ≡ takes_program ns
  unfolding is_accepted
  takes-as = simp (time_as, zeros_as, and_assoc, and-true)

-- ---- what is shown

place : (k j : ℕ) → program_bit k + j ≡ 352 + j + 40 * k
place k j = omega arith

with-as : (m : List ℕ) (k flags : ℕ) → numbers_of k (set (program_of m k) 6 flags) ≡ program_with m k flags
with-as m k flags = rw (place k 0, place k 5, place k 11, place k 16, place k 22, place k 24)

program_as : (m : List ℕ) (k : ℕ) → shown_program m k ≡ program_in m k
program_as m k = rw (place k 0, place k 5, place k 11, place k 16, place k 22, place k 24, place k 31)

-- an idle board shows a program that its store has
program_shows : {i : Identity} {u : List ℕ} → Idle (holding i []) u → (k : ℕ) → k ≤ 6 → {ns : List ℕ} → shown_program u k ≡ ns
    → Shows i u (schedule (schedule_read k)) (schedule_reply (schedule_read_reply ns))
unfolding effect_of schedule_effect
program_shows {i} {u} idle k h q =
    subst (λ (ns : List ℕ). Shows i u (schedule (schedule_read k)) (schedule_reply (schedule_read_reply ns))) q
    (shows i u idle (schedule (schedule_read k)) (omega arith) (rw (le-leb k 6 h)) (program_sayable u k (omega arith)))

-- ---- what stays

program_elsewhere : (m : List ℕ) (k : ℕ) (fs : List ℕ) → Elsewhere (is_within (352 + 40 * k) 34) (352 + 40 * k) 34 m (with_program m k fs)
program_elsewhere m k fs =
    elsewhere (352 + 40 * k) 34 m (with_program m k fs) (program_keeps_field m k fs)
    (λ j a. program_keeps_byte m k fs j (⊎_elim (λ x. inr (omega arith)) (λ x. inl (omega arith)) a))

enable-elsewhere : (m : List ℕ) (k e : ℕ) → Elsewhere (is_within (383 + 40 * k) 1) (383 + 40 * k) 1 m (write m (enable_field k) e)
enable-elsewhere m k e =
    subst (λ (at : ℕ). Elsewhere (is_within at 1) at 1 m (write m (enable_field k) e)) (place k 31) (field-elsewhere m (enable_field k) e)

-- bits of a program are behind all fields and tags, and in no other program
program_clear : (k at width : ℕ) → 352 + 40 * k ≤ at → at + width ≤ 386 + 40 * k → Clear (is_read_of k) at width
program_clear k at width l h =
    record {
      settings = λ r t _. inr (omega (arith, before-power r t));
      power = λ _. inr (omega arith);
      date = λ _. inr (omega arith);
      tags = λ _ _ _. inr (omega arith);
      programs = λ j _ n. apart j (dec_lt j k) (eqb-false j k n);
    }
  where
    apart : (j : ℕ) → Dec (j < k) → (j ≡ k → ⊥) → Apart at width (352 + 40 * j) 34
    apart j (yes x) n = inr (omega arith)
    apart j (no x) n = inl (omega (arith, n))

-- ---- the rows

module _ (i : Identity) (m : List ℕ) (ready : Ready i m) where
  read : (k : ℕ) → k ≤ 6 → Shows i m (schedule (schedule_read k)) (schedule_reply (schedule_read_reply (program_in m k)))
  read k h = program_shows ready.rests k h (program_as m k)

  read_other : (k : ℕ) → 7 ≤ k → k < 256 → Shows i m (schedule (schedule_read k)) null
  unfolding effect_of schedule_effect
  read_other k h b = ready-shows i m ready (schedule (schedule_read k)) b (rw (lt-leb k 6 h))

  write-program : (ns : List ℕ) → IsNumbers ns → takes_program ns ≡ true
      → Changes i m (schedule (schedule_write ns)) (schedule_reply (schedule_write_reply 0 ns)) (is_read_of (get_or ns 0 0)) (is_within (352 + 40 * get_or ns 0 0) 34)
      (λ m'. Shows i m' (schedule (schedule_read (get_or ns 0 0))) (schedule_reply (schedule_read_reply ns)))
  unfolding effect_of schedule_effect schedule_write_effect
  write-program ns h t =
      let k = get_or ns 0 0 in
      let fs = kept_fields ns in
      let e = takes-as ns h.sixteen ∙ t in
      let listed = accepted-listed ns e in
      changes {es = program_stores m k fs} ready (schedule (schedule_write ns)) h (rw e) (program_applied m k fs) (program_bytes m k fs ready.in_bytes.store)
      (program_elsewhere m k fs) (program_clear k (352 + 40 * k) 34 (omega arith) (omega arith))
      (λ idle. program_shows idle k (omega arith)
      (ap (numbers_of k) (program_shown_lem m k fs (rest i m ready.rests).size listed refl (kept-fit ns e)) ∙ numbers-back ns h.sixteen e))

  write_refused : (ns : List ℕ) → IsNumbers ns → takes_program ns ≡ false
      → Asks i m (schedule (schedule_write ns)) (schedule_reply (schedule_write_reply 1 ns)) m
  unfolding effect_of schedule_effect schedule_write_effect
  write_refused ns h t = ready-shows i m ready (schedule (schedule_write ns)) h (rw (takes-as ns h.sixteen ∙ t))

  enable : (k e : ℕ) → k ≤ 6 → e ≤ 1
      → Changes i m (schedule (schedule_enable k e)) (schedule_reply (schedule_enable_reply 0 k e)) (is_read_of k) (is_within (383 + 40 * k) 1)
      (λ m'. Shows i m' (schedule (schedule_read k)) (schedule_reply (schedule_read_reply (enabled_in m k e))))
  unfolding effect_of schedule_effect schedule_enable_effect
  enable k e h f =
      let flags = ap (λ (at : ℕ). 4 * e + get_field m at 3 % 4) (place k 31) in
      changes {es = enable_stores m k e} ready (schedule (schedule_enable k e)) (omega arith, omega arith) (rw (le-leb k 6 h, le-leb e 1 f)) (enable-applied m k e)
      (field-bytes m (enable_field k) e ready.in_bytes.store) (enable-elsewhere m k e)
      (program_clear k (383 + 40 * k) 1 (omega arith) (omega arith))
      (λ idle. program_shows idle k h
      (ap (numbers_of k) (enable-shown m k e (rest i m ready.rests).size (omega arith) f) ∙ with-as m k _ ∙ ap (program_with m k) flags))

  enable_refused : (k e : ℕ) → k < 256 → e < 256 → (7 ≤ k) ⊎ (2 ≤ e)
      → Asks i m (schedule (schedule_enable k e)) (schedule_reply (schedule_enable_reply 1 k e)) m
  unfolding effect_of schedule_effect schedule_enable_effect
  enable_refused k e b c o =
      ready-shows i m ready (schedule (schedule_enable k e)) (b, c)
      (⊎_elim (λ h. rw (lt-leb k 6 h)) (λ h. rw (lt-leb e 1 h, and-false (leb k 6))) o)

pub schedule_rows : (i : Identity) (m : List ℕ) → Ready i m → ScheduleRows i m
schedule_rows i m ready =
    record {
      read = read i m ready;
      read_other = read_other i m ready;
      write = write-program i m ready;
      write_refused = write_refused i m ready;
      enable = enable i m ready;
      enable_refused = enable_refused i m ready;
    }
