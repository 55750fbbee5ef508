-- What the operations of a load make of a set that a table may hold is again such a set. Assumes nothing.
use mathlib.Core.Bool.{true, ◌||◌}
use mathlib.Core.List.{List, [], ◌∷◌}
use mathlib.Core.Logic.{◌≢◌}
use mathlib.Core.Path.{◌≡◌}
use Prim.Native.Nat.{ℕ, zero, suc, ◌/◌, ◌^◌}
use native.Mathlib.Nat.{mod-lt}
use native.Mathlib.Omega.{arith}
use lib.Dec.{eqb}
use lib.ListN.{length, length-map}
use borrow.Author.Tests.{eqb-false}
use Rattle.lists.specs.Lists.{All, member}
use Rattle.lists.proofs.Tests.{by_test, or_false_left, or_false_right}
use Rattle.measure.proofs.Stored.{unmeasured_right}
use Rattle.table.specs.Contents.{Entry, Contents, entry_keys, keys_in, IsKey, Valid, new_order, IsSalt}
use Rattle.call_sets.specs.Load.{Operation, inserting, deleting, looking_up, key_from, highest_bits, chosen, operations, plain, done, done_all, loaded}
use Rattle.call_sets.proofs.Members.{joined_right, left_right}
use Rattle.call_changes.specs.Done.{IsLoadKey, with_done}
use Rattle.call_changes.proofs.Sets.{joined_valid, without_valid}

-- ---- the keys of operations
-- The key that an operation is about.
abbrev pub key_of : Operation → ℕ
key_of (inserting key) = key
key_of (deleting key) = key
key_of (looking_up key) = key

key_from_lies : (s : ℕ) → IsLoadKey (key_from s)
unfolding key_from
key_from_lies s = omega (arith, mod-lt (s / 2 ^ 32) {m = 512} (omega arith))

pub chosen_key : (s : ℕ) → IsLoadKey (key_of (chosen s))
unfolding chosen
chosen_key s =
    by_test (eqb (highest_bits s) 0 || eqb (highest_bits s) 1)
    (λ e. rw e (key_from_lies s))
    (λ e. rw e (by_test (eqb (highest_bits s) 2) (λ f. rw f (key_from_lies s)) (λ f. rw f (key_from_lies s))))

-- Every operation of a load is about a key.
abbrev pub AboutKeys : List Operation → Type 0
AboutKeys ops = All (λ operation. IsKey (key_of operation)) ops

is_key : (key : ℕ) → IsLoadKey key → IsKey key
is_key key h = omega arith

all_keys : (count s : ℕ) → AboutKeys (operations s count)
all_keys zero s = tt
all_keys (suc count) s = (is_key _ (chosen_key _), all_keys count _)

pub operations_keys : (s count : ℕ) → AboutKeys (operations s count)
operations_keys s count = all_keys count s

-- ---- sets
-- The order, the salt and the set of a table, with what operations make of the set.
abbrev pub with_all_done : ℕ → List Operation → Contents → Contents
with_all_done many ops c = record { order = c.order; salt = c.salt; entries = done_all many ops c.entries }

pub done_all_lem : (P : Entry → Type 0) (many : ℕ) (operation : Operation) (set : List Entry) → P (plain (key_of operation)) → All P set → All P (done many operation set)
unfolding done
done_all_lem P many (inserting key) set right all =
    by_test (member key (entry_keys set) || eqb (length set) many) (λ e. rw e all) (λ e. rw e (joined_right P (plain key) set right all))
done_all_lem P many (deleting key) set right all = by_test (member key (entry_keys set)) (λ e. rw e (left_right P key set all)) (λ e. rw e all)
done_all_lem P many (looking_up key) set right all = all

module _ (many : ℕ) where
  pub done_valid : (operation : Operation) (c : Contents) → IsKey (key_of operation) → Valid many c → Valid many (with_done many operation c)
  unfolding done
  done_valid (inserting key) c right valid =
      by_test (member key (keys_in c) || eqb (length c.entries) many)
      (λ e. rw e valid)
      (λ e.
      let apart : length c.entries ≢ many = eqb-false (length c.entries) many (or_false_right (member key (keys_in c)) _ e) in
      rw e
      (joined_valid (plain key) many c valid right unmeasured_right (or_false_left (member key (keys_in c)) _ e) (omega (arith, valid.keys_fit, length-map c.entries (λ e. e.key)))))
  done_valid (deleting key) c right valid = by_test (member key (keys_in c)) (λ e. rw e (without_valid key many c valid)) (λ e. rw e valid)
  done_valid (looking_up key) c right valid = valid

  pub all_done_valid : (ops : List Operation) (c : Contents) → AboutKeys ops → Valid many c → Valid many (with_all_done many ops c)
  all_done_valid [] c right valid = valid
  all_done_valid (operation ∷ ops) c right valid =
      all_done_valid ops (with_done many operation c) right.1 (done_valid operation c right.0 valid)

  pub blank_valid : (order salt : ℕ) → new_order order ≡ true → IsSalt salt → Valid many (record { order = order; salt = salt; entries = [] })
  unfolding new_order
  blank_valid order salt right fits = record { order_right = right; salt_right = fits; keys_right = tt; keys_rise = tt; keys_fit = omega arith; measures_right = tt }

  pub loaded_valid : (order seed count : ℕ) → new_order order ≡ true → Valid many (record { order = order; salt = 0; entries = loaded many seed count })
  unfolding loaded
  loaded_valid order seed count right =
      all_done_valid (operations seed count) (record { order = order; salt = 0; entries = [] }) (operations_keys seed count) (blank_valid order 0 right (omega arith))
