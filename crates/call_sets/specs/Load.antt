-- A load by the rules of document 02, N1, alone: over plain sets, without the treap. M, the number of slots, is `many`. Assumes nothing.
use Rattle.std.specs.Prelude.{cond, ◌||◌, List, [], ◌∷◌, ℕ, zero, suc, ◌+◌, ◌/◌, ◌%◌, ◌^◌, eqb, length}
use Rattle.generator.specs.Generator.{next}
use Rattle.lists.specs.Lists.{member}
use Rattle.measure.specs.Measure.{unmeasured}
use Rattle.table.specs.Contents.{Entry, entry_keys}
use Rattle.call_sets.specs.Sets.{joined, without}

-- What an operation is: an "insert", a "delete" or a "lookup" of a key.
pub data Operation : Type 0 where
  inserting : (key : ℕ) → Operation
  deleting : (key : ℕ) → Operation
  looking_up : (key : ℕ) → Operation

-- "The key is floor(s / 2^32) mod 512, plus 1."
unfoldable pub key_from : ℕ → ℕ
key_from s = s / 2 ^ 32 % 512 + 1

-- "The two highest bits of s".
unfoldable pub highest_bits : ℕ → ℕ
highest_bits s = s / 2 ^ 62

-- "The two highest bits of s choose: 0 or 1 insert, 2 delete, 3 lookup."
unfoldable pub chosen : ℕ → Operation
chosen s =
    cond (eqb (highest_bits s) 0 || eqb (highest_bits s) 1) (inserting (key_from s))
    (cond (eqb (highest_bits s) 2) (deleting (key_from s)) (looking_up (key_from s)))

-- "From a 64-bit seed s, each operation first sets s to" the generator's next: so many operations from s on, in their order.
abbrev pub operations : ℕ → ℕ → List Operation
operations s zero = []
operations s (suc count) = chosen (next s) ∷ operations (next s) count

-- "A load's keys are unmeasured" (02, N4).
abbrev pub plain : ℕ → Entry
plain key = record { key = key; measure = unmeasured }

-- What an operation makes of a set of at most M keys; "a refused one counts as done": an insert where the key is held or M keys are
-- there, a delete where it is not held.
unfoldable pub done : ℕ → Operation → List Entry → List Entry
done many (inserting key) set = cond (member key (entry_keys set) || eqb (length set) many) set (joined (plain key) set)
done many (deleting key) set = cond (member key (entry_keys set)) (without key set) set
done many (looking_up key) set = set

abbrev pub done_all : ℕ → List Operation → List Entry → List Entry
done_all many [] set = set
done_all many (operation ∷ operations) set = done_all many operations (done many operation set)

-- "The end set": what so many operations from the seed on make of the empty set. The order does not matter for it.
unfoldable pub loaded : ℕ → ℕ → ℕ → List Entry
loaded many seed count = done_all many (operations seed count) []
