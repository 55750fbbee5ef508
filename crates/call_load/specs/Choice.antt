-- The operation of a load, as the code has it and as the rules name it. Assumes nothing.
use Rattle.std.specs.Prelude.{ℕ}
use Rattle.call_sets.specs.Load as rules
use Rattle.call_load.specs.declared.Operation.{Operation}
use Rattle.call_load.specs.declared.Operation.TheVariants.{Insert, Delete, LookUp}

abbrev pub operation_of : Operation → rules.Operation
operation_of (Insert key) = rules.inserting key
operation_of (Delete key) = rules.deleting key
operation_of (LookUp key) = rules.looking_up key

-- The key of an operation.
abbrev pub key_of : Operation → ℕ
key_of (Insert key) = key
key_of (Delete key) = key
key_of (LookUp key) = key
