-- The number of slots by a table's length. Assumes nothing.
use mathlib.Core.Bool.{Bool, false}
use mathlib.Core.Logic.{◌≢◌}
use mathlib.Core.Path.{◌≡◌, refl, subst}
use Prim.Native.Nat.{ℕ, zero, suc, ◌+◌, ◌<◌, ◌≤◌}
use native.Mathlib.Omega.{arith}
use lib.Dec.{eqb}
use borrow.Author.Tests.{eqb-true, eq-eqb, ne_eqb}
use Rattle.std.specs.Prelude.{Some, None}
use Rattle.lists.specs.Lists.{first, up_from}
use Rattle.lists.proofs.Keep.{all_map}
use Rattle.lists.proofs.Membership.{first_passes, first_none, first_found}
use Rattle.lists.proofs.UpFrom.{up_from-member, up_from_within}
use Rattle.table.specs.Layout.{most_slots, table_words}
use Rattle.table_limits.specs.Lengths.{slots_for, slots_if}

-- whatever the most slots are
slots_among : (most words : ℕ) (many : ℕ) → 1 ≤ many → many ≤ most → words ≡ table_words many → first 0 (λ m. eqb words (table_words m)) (up_from 1 most) ≡ many
slots_among most words many h k e =
    let f : ℕ → Bool = λ m. eqb words (table_words m) in
    let found = first_passes 0 f (up_from 1 most) many (up_from-member 1 most many h (omega arith)) (eq-eqb words (table_words many) e) in
    let same = eqb-true words (table_words (first 0 f (up_from 1 most))) found.0 in
    omega arith

none_among : (most words : ℕ) → ((many : ℕ) → 1 ≤ many → many ≤ most → words ≢ table_words many) → first 0 (λ m. eqb words (table_words m)) (up_from 1 most) ≡ 0
none_among most words d =
    first_none 0 (λ m. eqb words (table_words m)) (up_from 1 most)
    (all_map (λ m. (1 ≤ m) × (m < 1 + most)) (λ m. eqb words (table_words m) ≡ false) (λ m h. ne_eqb words (table_words m) (d m h.0 (omega arith))) (up_from 1 most) (up_from_within 1 most))

pub slots_for_is : (words many : ℕ) → 1 ≤ many → many ≤ most_slots → words ≡ table_words many → slots_for words ≡ many
unfolding slots_for
slots_for_is words many h k e = slots_among most_slots words many h k e

pub slots_for_none : (words : ℕ) → ((many : ℕ) → 1 ≤ many → many ≤ most_slots → words ≢ table_words many) → slots_for words ≡ 0
unfolding slots_for
slots_for_none words d = none_among most_slots words d

-- a table of some number of slots has that many words
pub record SlotsOf (most words many : ℕ) : Type 0 where
  pub some : 1 ≤ many
  pub within : many ≤ most
  pub long : words ≡ table_words many

found_among : (most words : ℕ) → first 0 (λ m. eqb words (table_words m)) (up_from 1 most) ≢ 0 → SlotsOf most words (first 0 (λ m. eqb words (table_words m)) (up_from 1 most))
found_among most words d =
    let found = first_found 0 (λ m. eqb words (table_words m)) (λ m. (1 ≤ m) × (m < 1 + most)) (up_from 1 most) (up_from_within 1 most) d in
    let many = first 0 (λ m. eqb words (table_words m)) (up_from 1 most) in
    record { some = found.1.0; within = omega (arith, found.1.1); long = eqb-true words (table_words many) found.0 }

pub slots_for_some : (words : ℕ) → slots_for words ≢ 0 → SlotsOf most_slots words (slots_for words)
unfolding slots_for
slots_for_some words d = found_among most_slots words d

-- what the answer of `slots_for` tells of the number: that it is zero where there is no answer, and that it is the answer where there is one
pub slots_none : (n : ℕ) → slots_if n ≡ None → n ≡ 0
slots_none zero e = refl
slots_none (suc n) e = cc

pub slots_some : (n many : ℕ) → slots_if n ≡ Some many → (n ≡ many) × (0 < many)
slots_some zero many e = cc
slots_some (suc n) many e =
    let same : suc n ≡ many = cc in
    (same, omega arith)

-- a table of that many slots has so many words
pub slots_sized : (words many : ℕ) → slots_if (slots_for words) ≡ Some many → SlotsOf most_slots words many
slots_sized words many e =
    let told = slots_some (slots_for words) many e in
    subst (SlotsOf most_slots words) told.0 (slots_for_some words (λ none. omega (arith, told.0, told.1, none)))

pub if_none : (n : ℕ) → n ≡ 0 → None ≡ slots_if n
if_none n e = rw e refl

pub if_some : (n many : ℕ) → n ≡ many → 1 ≤ many → Some many ≡ slots_if n
if_some n zero e some = absurd (omega arith)
if_some n (suc many) e some = rw e refl
