-- What `play_erase` leaves (docs/RULES.md, D3g): an acceptance, and the list of demand 3 after it.
use Rattle.std.specs.Prelude.{Bool, true, false, List, ◌≡◌, ℕ, length, set}
use Rattle.calls.specs.Board.{Identity, begun, after}
use Rattle.calls.specs.Calls.{on_call}
use Rattle.calls.specs.Lists.{run, Acceptance}
use Rattle.packets.specs.Packets.{BoardState, BoardOutcome}
use Rattle.board.specs.BoardKind.{byte, board_kind}
use Rattle.board.specs.Demand3.{expected, owed}
use Rattle.play.specs.Play.{events_in, Plays}

-- what a byte does
abbrev pub outcome : ℕ → BoardState → (m reply : List ℕ) → BoardOutcome
outcome b s m reply = on_call board_kind (byte b) s m reply

-- a byte that answered erase begun
abbrev pub accepted : (b : ℕ) (s : BoardState) (m reply : List ℕ) → (outcome b s m reply).answer ≡ begun → Acceptance board_kind
accepted b s m reply e = record { given = byte b; state = s; store = m; lent = reply; accepts = e }

-- The byte began an erase, and the events after it were played on the board and the store that it left. With the board's own identity, they leave the
-- store, the lent buffers and the log that demand 3 expects.
pub record PlaysErase (i : Identity) (b : ℕ) (s : BoardState) (m m' reply reply' es lent lent' log log' : List ℕ) : Type 0 where
  pub begins : (outcome b s m reply).answer ≡ begun
  pub untouched : reply' ≡ reply
  pub played : Plays (run board_kind i (outcome b s m reply).state (set m 0 0xE7) (events_in 128 (length log) es lent)) (set m 0 0xE7) m' lent lent' log log'
  pub as_expected : i ≡ s.ident
      → Plays (expected i (owed (accepted b s m reply begins)) 0 (set m 0 0xE7) (events_in 128 (length log) es lent)) (set m 0 0xE7) m' lent lent' log log'

-- it did not: nothing is played
pub record PlaysNone (b : ℕ) (s : BoardState) (m m' reply reply' lent lent' log log' : List ℕ) : Type 0 where
  pub not_begun : (outcome b s m reply).answer ≡ begun → ⊥
  pub store : m' ≡ after (outcome b s m reply) m
  pub buffer : reply' ≡ (outcome b s m reply).buffer
  pub lent_kept : lent' ≡ lent
  pub log_kept : log' ≡ log

abbrev pub ErasePlayed : Bool → Identity → ℕ → BoardState → (m m' reply reply' es lent lent' log log' : List ℕ) → Type 0
ErasePlayed true i b s m m' reply reply' es lent lent' log log' = PlaysErase i b s m m' reply reply' es lent lent' log log'
ErasePlayed false i b s m m' reply reply' es lent lent' log log' = PlaysNone b s m m' reply reply' lent lent' log log'
