-- A request whose bytes are exact counts at most 16.
use Rattle.std.proofs.lemmas.Option.{IfSome_then}
use Rattle.messages.proofs.CountLaws.{exact-few}
use Rattle.packets.proofs.asked_in.Goals as goal

pub returns-clause-few : goal.returns-clause-few
returns-clause-few c = IfSome_then c.parse_request.result c.parse_request.ensures.exact exact-few
