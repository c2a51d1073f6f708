-- The bytes that demand 3 writes out are those of the rules, compared number by number.
use mathlib.Core.Path.{◌≡◌, refl}
use mathlib.Core.Bool.{Bool, true, ◌&&◌}
use mathlib.Core.List.{List}
use Prim.Native.Nat.{ℕ, zero, suc, ◌<◌}
use native.Mathlib.Omega.{arith}
use Rattle.wire.specs.Packet.{xor_from, packet_with, packet, zero_byte, type_e}
use Rattle.messages.specs.Message.Request.{set_parameter}
use Rattle.messages.specs.Message.Reply.{set_reply}
use Rattle.messages.specs.Text.{reply_type, reply_text, parameter_text, request_text}
use Rattle.layouts.specs.Layouts.{unused_store}
use Rattle.wire.proofs.Tests.{both}
use Rattle.calls.specs.Board.{Identity}
use Rattle.calls.specs.Calls.{same}
use Rattle.calls.proofs.FirstBytes.{same-eq}
use Rattle.packets.specs.Packets.{is_identity, reply_with}
use Rattle.board.specs.BoardKind.{erase_reply}
use Rattle.board.specs.Demand3.{unused_bytes, erase_reply_bytes, erase_request}
use Rattle.packets.proofs.IdentityLaws.{named_told}

-- a test that each number below n passes
abbrev each : (ℕ → Bool) → ℕ → Bool
each p zero = true
each p (suc n) = p 0 && each (λ k. p (suc k)) n

each_one : (p : ℕ → Bool) (n k : ℕ) → each p n ≡ true → k < n → p k ≡ true
each_one p zero k e h = absurd (omega arith)
each_one p (suc n) zero e h = (both (p 0) (each (λ k. p (suc k)) n) e).0
each_one p (suc n) (suc k) e h = each_one (λ k. p (suc k)) n k (both (p 0) (each (λ k. p (suc k)) n) e).1 (omega arith)

-- lists over a number that are the same for each number below n
each_same : (f g : ℕ → List ℕ) (n k : ℕ) → each (λ k. same (f k) (g k)) n ≡ true → k < n → f k ≡ g k
each_same f g n k e h = same-eq (f k) (g k) (each_one (λ k. same (f k) (g k)) n k e h)

pub reply-bytes : (i : Identity) → is_identity i ≡ true → erase_reply i ≡ erase_reply_bytes i.id
unfolding erase_reply reply_with packet packet_with xor_from reply_type reply_text parameter_text same
reply-bytes i named = each_same (λ id. reply_with id (set_reply 0 0xF0 0x01 1 1 1)) erase_reply_bytes 9 i.id refl (omega (arith, (named_told i named).most))

pub unused-bytes : unused_store ≡ unused_bytes
unfolding unused_store
unused-bytes = refl

-- Set F0/01 to 1
unfoldable pub erase_text : List ℕ
erase_text = request_text (set_parameter 0xF0 0x01 1)

unfoldable pub erase_packet : ℕ → List ℕ
erase_packet dest = packet dest zero_byte type_e erase_text

pub request-bytes : (dest : ℕ) → dest < 256 → erase_packet dest ≡ erase_request dest
unfolding erase_packet erase_text packet packet_with xor_from request_text same
request-bytes dest h = each_same erase_packet erase_request 256 dest refl h
