-- What inner functions give. No contract of an entry point cites it.
use Rattle.std.specs.Prelude.{Result, Ok, Err, List, ◌++◌, ◌≡◌, ℕ, ◌-◌, length, replicate}
use Rattle.wire.specs.Refusal.{number_of}
use Rattle.wire.specs.declared.refusal.Refusal.{Refusal}
use Rattle.station_c.specs.declared.read.Listed.{Listed}

-- a kind and its numbers, filled up with zeros
abbrev pub listing : (kind : ℕ) (numbers : List ℕ) → Listed
listing kind numbers = record { kind = kind; count = length numbers; numbers = numbers ++ replicate (9 - length numbers) 0 }

-- what the encoder answered, told as numbers: the result, and the place for the length before and after
abbrev pub TellsOf : Result ℕ Refusal → ℕ → ℕ → ℕ → Type 0
TellsOf (Ok n) r before after = (r ≡ 0) × (after ≡ n)
TellsOf (Err e) r before after = (r ≡ number_of e) × (after ≡ before)
