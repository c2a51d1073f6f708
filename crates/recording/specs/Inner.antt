-- What inner functions ask and give. No contract of an entry point cites it.
use Rattle.std.specs.Prelude.{true, cond, List, ◌≡◌, ℕ, ◌+◌, ltb}
use Rattle.receiver.specs.Receive.{Receipt, is_proper_beginning}
use Rattle.receiver.specs.Inner.{checkpoint, asked}
use Rattle.recording.specs.Recording.{is_whole, is_refusal}

-- held bytes that are a proper beginning and ask for so many
pub record Asking (held : List ℕ) (asked : ℕ) : Type 0 where
  pub proper : is_proper_beginning held ≡ true
  pub asks : asked ≡ checkpoint held

-- how many are asked for where len are held and so many were asked for before
abbrev pub asked_next : List ℕ → ℕ → ℕ → ℕ
asked_next held len before = cond (ltb len before) before (asked held)

-- what is held after a receipt, and the two counts that were p and r
pub record Counts (to : Receipt) (p r : ℕ) (held : List ℕ) (packets refusals : ℕ) : Type 0 where
  pub holds : held ≡ to.held
  pub whole : packets ≡ p + is_whole to.answer
  pub refused : refusals ≡ r + is_refusal to.answer
