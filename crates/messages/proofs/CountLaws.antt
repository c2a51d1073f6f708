-- A request whose bytes are exact counts at most 16.
use Prim.Native.Nat.{◌≤◌}
use native.Mathlib.Omega.{arith}
use Rattle.messages.specs.View.{request_count, ExactRequest}
use Rattle.messages.specs.declared.message.Request.{Request}

pub exact-few : (r : Request) → ExactRequest r → request_count r ≤ 16
exact-few (Request.Get page code) e = omega arith
exact-few (Request.Set page code value) e = omega arith
exact-few Request.PowerRead e = omega arith
exact-few (Request.PowerControl mode) e = omega arith
exact-few Request.DateRead e = omega arith
exact-few (Request.DateWrite d) e = omega arith
exact-few (Request.ItemRead i) e = omega arith
exact-few (Request.TagWrite tag) e = e.few
exact-few (Request.Schedule r) e = omega arith
