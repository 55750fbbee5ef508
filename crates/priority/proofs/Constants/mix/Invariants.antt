-- `priority::Constants::mix` meets its contract. The loop's invariant: `rest` is `number` without the bytes passed, and `joined`
-- the exclusive or of their terms. Assumes nothing.
use mathlib.Core.Path.{◌≡◌}
use Prim.Native.Nat.{◌≤◌, ◌/◌, ◌^◌}
use Rattle.priority.specs.Priority.{key_bytes, byte_values, xor_of_terms}
use Rattle.priority.proofs.Constants.mix.Given as goal

abbrev pub invariant-loop-position : goal.invariant-loop-position
invariant-loop-position l = (l.position ≤ key_bytes) × (l.rest ≡ l.number / byte_values ^ l.position) × (l.joined ≡ xor_of_terms l.number l.position)
