-- Ten is where the digits go on with letters, in the code as in the definition.
use Rattle.wire.proofs.Tests.{tests}
use Rattle.wire.proofs.digits.digit_of.Goals as goal

pub returns-then-n-lt10 : goal.returns-then-n-lt10
returns-then-n-lt10 c = search tests

pub returns-else-n-lt10 : goal.returns-else-n-lt10
returns-else-n-lt10 c = search tests
