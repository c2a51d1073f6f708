-- What the code's answer to the entry check means, with the rules' number for a refusal (docs/RULES.md, 'Calls', CA2).
use Rattle.std.specs.Prelude.{Bool, true, false, Result, Ok, Err}
use Rattle.wire.specs.Refusal.{number_of}
use Rattle.wire.specs.declared.refusal.Refusal.{Refusal}
use Rattle.calls.specs.Calls as calls

-- a refusal, or whether an erase is pending
abbrev pub entry_check_as : Result Bool Refusal → calls.EntryCheck
entry_check_as (Err r) = calls.refused_entry (number_of r)
entry_check_as (Ok true) = calls.pendingEntry
entry_check_as (Ok false) = calls.nonePendingEntry
