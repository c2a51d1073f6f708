-- The rows of the schedules at a board (docs/RULES.md, 'Schedules', S1 to S6), as Rows.antt has the other rows: by packets given to an idle board, on or in
-- standby. Programs, places and values are written out.
use Rattle.std.specs.Prelude.{Bool, true, false, cond, not, ◌&&◌, ◌||◌, List, ◌∷◌, ◌⊎◌, ◌≡◌, ℕ, ◌+◌, ◌*◌, ◌%◌, ◌≤◌, ◌<◌, leb, eqb, get_or, replicate}
use Rattle.bitfield.specs.Field.{get_field}
use Rattle.messages.specs.Message.{ScheduleRequest, Request, IsNumbers}
use Rattle.messages.specs.Message.ScheduleRequest.{schedule_read, schedule_write, schedule_enable}
use Rattle.messages.specs.Message.ScheduleReply.{schedule_read_reply, schedule_write_reply, schedule_enable_reply}
use Rattle.messages.specs.Message.Request.{get_parameter, set_parameter, power_read, power_control, date_read, date_write, item_read, tag_write, schedule}
use Rattle.messages.specs.Message.Reply.{null, schedule_reply}
use Rattle.calls.specs.Board.{Identity}
use Rattle.exchange.specs.Rows.{Asks, Shows, Changes, is_within}

-- the inputs 0 for none, 1, 3 and 17 are kept as 0 to 3
abbrev pub shown_input : ℕ → ℕ
shown_input k = cond (eqb k 0) 0 (cond (eqb k 1) 1 (cond (eqb k 2) 3 17))

-- the sixteen numbers of program k in a store, with FL as given: program, ON_HOUR, ON_MIN, OFF_HOUR, OFF_MIN, INPUT, WEEK, FL, and eight zeros
abbrev pub program_with : List ℕ → ℕ → ℕ → List ℕ
program_with m k flags =
    k ∷ get_field m (352 + 40 * k) 5 ∷ get_field m (357 + 40 * k) 6 ∷ get_field m (363 + 40 * k) 5 ∷ get_field m (368 + 40 * k) 6
    ∷ shown_input (get_field m (374 + 40 * k) 2) ∷ get_field m (376 + 40 * k) 7 ∷ flags ∷ replicate 8 0

abbrev pub program_in : List ℕ → ℕ → List ℕ
program_in m k = program_with m k (get_field m (383 + 40 * k) 3)

-- the same once it is enabled (1) or disabled (0): FL bit 2
abbrev pub enabled_in : List ℕ → ℕ → ℕ → List ℕ
enabled_in m k enable = program_with m k (4 * enable + get_field m (383 + 40 * k) 3 % 4)

-- hours to 24 and minutes to 60, where 24 and 60 come together
abbrev pub takes_time : ℕ → ℕ → Bool
takes_time hour minute = leb hour 24 && leb minute 60 && cond (eqb hour 24) (eqb minute 60) (not (eqb minute 60))

-- the sixteen numbers that a schedule write accepts
abbrev pub takes_program : List ℕ → Bool
takes_program ns =
    leb (get_or ns 0 0) 6 && takes_time (get_or ns 1 0) (get_or ns 2 0) && takes_time (get_or ns 3 0) (get_or ns 4 0)
    && (eqb (get_or ns 5 0) 0 || (eqb (get_or ns 5 0) 1 || (eqb (get_or ns 5 0) 3 || eqb (get_or ns 5 0) 17)))
    && leb (get_or ns 6 0) 0x7F && leb (get_or ns 7 0) 0x07
    && eqb (get_or ns 8 0) 0 && eqb (get_or ns 9 0) 0 && eqb (get_or ns 10 0) 0 && eqb (get_or ns 11 0) 0
    && eqb (get_or ns 12 0) 0 && eqb (get_or ns 13 0) 0 && eqb (get_or ns 14 0) 0 && eqb (get_or ns 15 0) 0

-- the read of program k
abbrev pub is_program_read : ℕ → ScheduleRequest → Bool
is_program_read k (schedule_read j) = eqb j k
is_program_read k (schedule_write numbers) = false
is_program_read k (schedule_enable j enable) = false

abbrev pub is_read_of : ℕ → Request → Bool
is_read_of k (get_parameter page code) = false
is_read_of k (set_parameter page code v) = false
is_read_of k power_read = false
is_read_of k (power_control mode) = false
is_read_of k date_read = false
is_read_of k (date_write d) = false
is_read_of k (item_read x) = false
is_read_of k (tag_write tag) = false
is_read_of k (schedule r) = is_program_read k r

-- of an idle board with identity i and store m
pub record ScheduleRows (i : Identity) (m : List ℕ) : Type 0 where
  -- a read shows a program; there is none above 6
  pub read : (k : ℕ) → k ≤ 6 → Shows i m (schedule (schedule_read k)) (schedule_reply (schedule_read_reply (program_in m k)))
  pub read_other : (k : ℕ) → 7 ≤ k → k < 256 → Shows i m (schedule (schedule_read k)) null
  -- what is written shows in the next read, and moves the program's own 34 bits and nothing else: no other program, field, tag or spare bit
  pub write : (ns : List ℕ) → IsNumbers ns → takes_program ns ≡ true
      → Changes i m (schedule (schedule_write ns)) (schedule_reply (schedule_write_reply 0 ns)) (is_read_of (get_or ns 0 0)) (is_within (352 + 40 * get_or ns 0 0) 34)
      (λ m'. Shows i m' (schedule (schedule_read (get_or ns 0 0))) (schedule_reply (schedule_read_reply ns)))
  pub write_refused : (ns : List ℕ) → IsNumbers ns → takes_program ns ≡ false
      → Asks i m (schedule (schedule_write ns)) (schedule_reply (schedule_write_reply 1 ns)) m
  -- an enable moves FL bit 2 alone
  pub enable : (k e : ℕ) → k ≤ 6 → e ≤ 1
      → Changes i m (schedule (schedule_enable k e)) (schedule_reply (schedule_enable_reply 0 k e)) (is_read_of k) (is_within (383 + 40 * k) 1)
      (λ m'. Shows i m' (schedule (schedule_read k)) (schedule_reply (schedule_read_reply (enabled_in m k e))))
  pub enable_refused : (k e : ℕ) → k < 256 → e < 256 → (7 ≤ k) ⊎ (2 ≤ e)
      → Asks i m (schedule (schedule_enable k e)) (schedule_reply (schedule_enable_reply 1 k e)) m
