-- The fields are those of program k among the seven that were decoded.
use mathlib.Core.List.{[]}
use mathlib.Core.Path.{◌≡◌}
use lib.ListN.{get_or}
use Rattle.schedule.specs.Programs.{program_of}
use Rattle.schedule.proofs.ProgramLaws.{programs-at}
use Rattle.schedule.proofs.numbers.shown_program.Goals as goal

pub returns : goal.returns
returns c =
    let e : get_or c.programs_of.result c.args.k [] ≡ program_of c.args.store.now c.args.k =
    rw c.programs_of.ensures (programs-at _ c.args.k c.requires.1) in
    rw (c.input_shown.ensures, e)
