-- The reads of the program replay (docs/RULES.md, RT4 and XB5): what comes after each of them. The bytes themselves and what is written
-- are the system's, and nothing is said of them here.
use Rattle.std.specs.Prelude.{Bool, true, false, cond, ◌&&◌, ◌≡◌, ℕ, suc, ◌+◌, min, ◌⊎◌, ltb, Result, IfOk}
use Rattle.replay.specs.declared.Next.{Next}
use Rattle.replay.specs.declared.Session.{Session}
use Rattle.replay.specs.declared.Told.{Told}

-- the largest number that 64 bits hold
abbrev pub largest : ℕ
largest = 0xFFFFFFFFFFFFFFFF

-- after a read that gave a number of bytes, 0 at the end of the input, or failed with an error, and after its lines were written or not
abbrev pub next_after : {E : Type 0} → Result ℕ E → Bool → Next
next_after got false = Next.WriteFailed
next_after (Result.Ok n) true = cond (ltb 0 n) Next.Read Next.InputEnded
next_after (Result.Err e) true = Next.ReadFailed

-- how many bytes a read gave into a buffer of such a size: none where it failed, and never more than the buffer has
abbrev pub came : {E : Type 0} → Result ℕ E → ℕ → ℕ
came (Result.Ok n) size = min n size
came (Result.Err e) size = 0

abbrev pub is_read : Next → Bool
is_read Next.Read = true
is_read Next.InputEnded = false
is_read Next.ReadFailed = false
is_read Next.WriteFailed = false

-- a session goes on with a read where one comes next and the reads can still be counted
abbrev pub goes_on : Session → Bool
goes_on s = is_read s.next && ltb s.reads largest

-- the number of bytes after so many more; the largest number stays
abbrev pub counted_on : ℕ → ℕ → ℕ
counted_on at more = min (at + more) largest

-- so many bytes came: where their lines could be written, each of them was counted
abbrev pub AreCounted : {E : Type 0} → Result Told E → ℕ → ℕ → Type 0
AreCounted told before n = IfOk told (λ t. t.at ≡ counted_on before n)

-- A session after a read that gave this, into a buffer of such a size: the read is counted; and a write is reported as failed, or what comes next
-- is what the read says and every byte that came was counted.
pub record IsAfterRead {E : Type 0} (before : Session) (got : Result ℕ E) (size : ℕ) (after : Session) : Type 0 where
  pub read : after.reads ≡ suc before.reads
  pub next : (after.next ≡ Next.WriteFailed) ⊎ ((after.next ≡ next_after got true) × (after.at ≡ counted_on before.at (came got size)))
