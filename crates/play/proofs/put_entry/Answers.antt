-- After i turns the log begins with the two numbers and the store's first i bytes, and each turn writes one more.
use Prim.Native.Nat.{ℕ, ◌+◌, ◌≤◌, ◌<◌}
use mathlib.Core.List.{List, [], ◌∷◌}
use mathlib.Core.Path.{◌≡◌, refl, sym, ◌∙◌}
use native.Mathlib.Omega.{arith}
use native.Mathlib.Numerals.{add-one}
use lib.ListN.{length, get_or, set, length-set}
use lib.Seq.{take-suc, take_all, length-take-le}
use Rattle.wire.specs.Packet.{over}
use Rattle.wire.proofs.PacketLaws.{over-set}
use Rattle.play.proofs.Laws.{two-over, over-two}
use Rattle.play.proofs.put_entry.Invariants.{written, Writes}
use Rattle.play.proofs.put_entry.Goals as goal

module _ (kind number : ℕ) (store log : List ℕ) where
  two-written : length store + 2 ≤ length log → Writes kind number store (set (set log 0 kind) 1 number) (set (set log 0 kind) 1 number) 0
  two-written h =
      record {
        within = omega arith;
        room = simp length-set h;
        kept = refl;
        front = two-over kind number log (omega arith) ∙ sym (over-two kind number [] log);
      }

  one_more : (log' : List ℕ) (i : ℕ) → Writes kind number store log log' i → i < length store
      → Writes kind number store log (set log' (i + 2) (get_or store i 0)) (i + 1)
  one_more log' i w h =
      let sized : length (written kind number store i) ≡ i + 2 = rw (length-take-le i store w.within) (omega arith) in
      record {
        within = omega arith;
        room = w.room;
        kept = rw (length-set log') w.kept;
        front = rw (w.front, add-one, take-suc store i 0 h) (over-set _ _ (i + 2) sized _ (omega arith));
      }

  all_written : (log' : List ℕ) (i : ℕ) → Writes kind number store (set (set log 0 kind) 1 number) log' i → length store ≤ i
      → log' ≡ over (kind ∷ number ∷ store) log
  all_written log' i w h = w.front ∙ rw (take_all i store h) (over-two kind number store log)

log_kept : (kind number i : ℕ) (store log log' : List ℕ) → Writes kind number store (set (set log 0 kind) 1 number) log' i → length log' ≡ length log
log_kept kind number i store log log' w = w.kept ∙ simp length-set

pub bounds-log-1 : goal.bounds-log-1
bounds-log-1 c = simp length-set (omega arith)

pub loop-i-init : goal.loop-i-init
loop-i-init c = search two-written

pub loop-i-preserved : goal.loop-i-preserved
loop-i-preserved c = search one_more

pub shape_of-log : goal.shape_of-log
shape_of-log c = search log_kept

pub returns : goal.returns
returns c = search all_written
