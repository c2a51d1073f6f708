-- What a branch for every other answer tells of an answer that is no refusal, or no reply.
use Rattle.std.proofs.Common.{◌≡◌, ℕ}
use Rattle.wire.specs.declared.refusal.Refusal.{Refusal}
use Rattle.board.specs.declared.board.Answer.{Answer}

abbrev pub IsNoRefusal : Answer → Type 0
IsNoRefusal a = (r : Refusal) → a ≡ Answer.Refused r → ⊥

abbrev pub IsNoReply : Answer → Type 0
IsNoReply a = (n : ℕ) → a ≡ Answer.Reply n → ⊥
