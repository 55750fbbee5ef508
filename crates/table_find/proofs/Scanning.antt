-- Scans of slots in a row: slot by slot, and the search as two of them. Assumes nothing.
use mathlib.Core.Bool.{Bool, true, false}
use mathlib.Core.List.{List, [], ◌∷◌, ◌++◌}
use mathlib.Core.Path.{◌≡◌, sym, ◌∙◌}
use Prim.Native.Nat.{ℕ, suc, ◌+◌, ◌-◌, ◌<◌, ◌≤◌}
use native.Mathlib.Omega.{arith}
use Rattle.std.specs.Prelude.{Option, Some, None}
use Rattle.lists.specs.Lists.{first, up_from, All}
use Rattle.lists.proofs.Tests.{by_test}
use Rattle.lists.proofs.Keep.{all_map}
use Rattle.lists.proofs.UpFrom.{up_from_within}
use Rattle.priority.specs.Priority.{home_of}
use Rattle.treap.specs.Slots.{probes}
use Rattle.table_find.specs.Find.{stops_at, slot_found, found_at, searched, scanned}
use Rattle.table_find.proofs.Searching.{found_at_lem, found_nowhere}

-- ---- slot by slot
module _ (words : List ℕ) (key low high : ℕ) where
  pub scan_finds : low < high → stops_at words key low ≡ true → scanned words low high key ≡ Some low
  scan_finds h t =
      let some : high - low ≡ suc (high - (low + 1)) = omega arith in
      rw (some, t) (found_at_lem high low h)

  pub scan_goes_on : low < high → stops_at words key low ≡ false → scanned words low high key ≡ scanned words (low + 1) high key
  scan_goes_on h t =
      let next : low + 1 ≡ suc low = omega arith in
      let some : high - low ≡ suc (high - suc low) = omega arith in
      rw (next, some, t)

  pub scan_ends : high ≤ low → scanned words low high key ≡ None
  scan_ends h =
      let none : high - low ≡ 0 = omega arith in
      rw none (found_nowhere high high (omega arith))

-- ---- two scans
-- This answer, or the other where it found none.
abbrev pub or_else : Option ℕ → Option ℕ → Option ℕ
or_else (Some slot) other = Some slot
or_else None other = other

-- for any test, of slots below `many` and then slots below `home`
module _ (f : ℕ → Bool) (many home : ℕ) (h : home < many) where
  found_below : (ys : List ℕ) → All (λ y. y < home) ys → found_at many (first many f ys) ≡ found_at home (first home f ys)
  found_below [] b = found_nowhere many many (omega arith) ∙ sym (found_nowhere home home (omega arith))
  found_below (y ∷ ys) b =
      by_test (f y)
      (λ t. rw t (found_at_lem many y (omega (arith, b.0)) ∙ sym (found_at_lem home y b.0)))
      (λ t. rw t (found_below ys b.1))

  found_in_both : (xs ys : List ℕ) → All (λ x. x < many) xs → All (λ y. y < home) ys
      → found_at many (first many f (xs ++ ys)) ≡ or_else (found_at many (first many f xs)) (found_at home (first home f ys))
  found_in_both [] ys a b = rw (found_nowhere many many (omega arith)) (found_below ys b)
  found_in_both (x ∷ xs) ys a b =
      by_test (f x) (λ t. rw (t, found_at_lem many x a.0)) (λ t. rw t (found_in_both xs ys a.1 b))

up_to : (low n high : ℕ) → low + n ≤ high → All (λ slot. slot < high) (up_from low n)
up_to low n high h =
    all_map (λ slot. (low ≤ slot) × (slot < low + n)) (λ slot. slot < high) (λ slot q. omega arith) (up_from low n) (up_from_within low n)

pub search_is_two_scans : (many : ℕ) (words : List ℕ) (key priority home : ℕ) → home < many → home ≡ home_of priority many
    → searched many words key priority ≡ or_else (scanned words home many key) (scanned words 0 home key)
unfolding slot_found probes
search_is_two_scans many words key priority home h e =
    let all : home - 0 ≡ home = omega arith in
    rw (all, sym e)
    (found_in_both (stops_at words key) many home h (up_from home (many - home)) (up_from 0 home)
    (up_to home (many - home) many (omega arith)) (up_to 0 home home (omega arith)))
