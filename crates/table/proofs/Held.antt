-- The keys in the slots after placing: those placed, each as often, and no other. Assumes keys none of which is zero, and
-- a slot for each.
use mathlib.Core.List.{List, [], ◌∷◌, ◌++◌, Permᴰ}
use mathlib.Core.Logic.{◌≢◌}
use mathlib.Core.Path.{◌≡◌, refl, sym, subst}
use Prim.Native.Nat.{ℕ, zero, suc, ◌<◌, ◌≤◌}
use native.Mathlib.Omega.{arith}
use lib.Dec.{eqb}
use lib.ListN.{length, get_or, set, replicate, length-set, length-replicate}
use borrow.Author.Tests.{eq-eqb, ne_eqb}
use Rattle.lists.specs.Lists.{nonzero, keep, sort_by, All}
use Rattle.lists.proofs.Tests.{by_test}
use Rattle.lists.proofs.Keep.{all_always}
use Rattle.lists.proofs.Sorting.{all_permuted, length_permuted, sort_by_permutes}
use Rattle.priority.specs.Priority.{priority_with}
use Rattle.priority.proofs.Bounds.{home_of_below}
use Rattle.treap.specs.Treap.{outranks}
use Rattle.treap.specs.Slots.{first_empty, place_all, slots_of}
use Rattle.table_slots.proofs.Placing.{empties, first_empty_is, empties_set, empties_replicate}
use Rattle.table.specs.Table.{home_in}

-- The keys in the slots that are not empty.
abbrev held : List ℕ → List ℕ
held slots = keep nonzero slots

held_set : (slots : List ℕ) (i v : ℕ) → i < length slots → get_or slots i 0 ≡ 0 → v ≢ 0 → Permᴰ (held (set slots i v)) (v ∷ held slots)
held_set [] i v h z d = absurd (omega arith)
held_set (x ∷ xs) zero v h z d = rw (ne_eqb v 0 d, eq-eqb x 0 z) (mathlib.Core.List.Permᴰ.refl (v ∷ held xs))
held_set (x ∷ xs) (suc i) v h z d =
    let later = held_set xs i v (omega arith) z d in
    by_test (eqb x 0)
    (λ e. rw e later)
    (λ e. rw e (mathlib.Core.List.Permᴰ.trans (mathlib.Core.List.Permᴰ.cons refl later) (mathlib.Core.List.Permᴰ.swap refl refl)))

held_none : (many : ℕ) → held (replicate many 0) ≡ []
held_none zero = refl
held_none (suc many) = held_none many

-- with room for all of them, the keys placed are held besides those that were
place_all_held : (home : ℕ → ℕ) (slots xs : List ℕ) → length xs ≤ empties slots → All (λ x. x ≢ 0) xs → All (λ x. home x < length slots) xs
    → Permᴰ (held (place_all home slots xs)) (xs ++ held slots)
place_all_held home slots [] h d w = mathlib.Core.List.Permᴰ.refl (held slots)
place_all_held home slots (x ∷ xs) h d w =
    let at = first_empty slots (home x) in
    let found = first_empty_is slots (home x) w.0 (omega arith) in
    let one = empties_set slots at x found.0 found.1 d.0 in
    let rest =
    place_all_held home (set slots at x) xs (omega arith) d.1
    (subst (λ (n : ℕ). All (λ y. home y < n) xs) (sym (length-set slots at x)) w.1)
    in
    mathlib.Core.List.Permᴰ.trans rest
    (mathlib.Core.List.Permᴰ.trans (mathlib.Core.List.Permᴰ.append_left xs (held_set slots at x found.0 found.1 d.0)) (mathlib.Core.List.Permᴰ.middle x xs (held slots)))

home_in_below : (many salt k : ℕ) → 1 ≤ many → home_in many salt k < many
unfolding home_in
home_in_below many salt k some = home_of_below (priority_with salt k) some

pub held_keys_permute : (many salt : ℕ) (keys : List ℕ) → 1 ≤ many → length keys ≤ many → All (λ k. k ≢ 0) keys
    → Permᴰ (held (slots_of (priority_with salt) (home_in many salt) many keys)) keys
unfolding slots_of
held_keys_permute many salt keys some room d =
    let sorted = sort_by (outranks (priority_with salt)) keys in
    let same_keys : Permᴰ sorted keys = sort_by_permutes (outranks (priority_with salt)) keys in
    let placed =
    place_all_held (home_in many salt) (replicate many 0) sorted (omega (arith, length_permuted same_keys, empties_replicate many))
    (all_permuted (λ k. k ≢ 0) (mathlib.Core.List.Permᴰ.symm same_keys) d)
    (all_always (λ k. home_in many salt k < length (replicate many 0))
    (λ k. omega (arith, home_in_below many salt k some, length-replicate {A = ℕ} many 0)) sorted)
    in
    mathlib.Core.List.Permᴰ.trans (rw held_none at placed) (mathlib.Core.List.Permᴰ.trans (mathlib.Core.List.Permᴰ.append-nil sorted) same_keys)
