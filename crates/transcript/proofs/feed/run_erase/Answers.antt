-- After i turns the board has made i steps.
use Prim.Native.Nat.{ℕ, ◌+◌, ◌≤◌, ◌<◌}
use mathlib.Core.Path.{◌≡◌, refl, ◌∙◌}
use native.Mathlib.Omega.{arith}
use native.Mathlib.Numerals.{add-one}
use lib.ListN.{length}
use Rattle.calls.specs.Calls.{on_step}
use Rattle.board.specs.BoardKind.{board_kind}
use Rattle.board.specs.View.{Result, result}
use Rattle.transcript.specs.Transcript.{after_steps}
use Rattle.transcript.proofs.feed.run_erase.Invariants.{Stepped}
use Rattle.transcript.proofs.feed.run_erase.Goals as goal

no_step : (start : Result) → Stepped start start 0
unfolding after_steps
no_step start = record { within = omega arith; store_kept = refl; buffer_kept = refl; stepped = refl }

module _ (start q : Result) (i : ℕ) (made : Stepped start q i) where
  one_more : (p : Result) → p ≡ result (on_step board_kind q.state q.store q.buffer) q.store → length p.store ≡ length q.store
      → length p.buffer ≡ length q.buffer → i < 128 → Stepped start p (i + 1)
  unfolding after_steps
  one_more p e store buffer h =
      record {
        within = omega arith;
        store_kept = store ∙ made.store_kept;
        buffer_kept = buffer ∙ made.buffer_kept;
        stepped = rw (add-one i, ← made.stepped) e;
      }

  all_steps : 128 ≤ i → q ≡ after_steps 128 start
  all_steps h = let e : i ≡ 128 = omega (arith, made.within) in rw e at made.stepped

pub loop-init : goal.loop-init
loop-init c = no_step _

pub loop-preserved : goal.loop-preserved
loop-preserved c = search one_more

pub returns : goal.returns
returns c = search all_steps
