-- What a fresh table shows is what it was built from. Assumes valid contents and at least one slot.
use mathlib.Core.Bool.{true}
use mathlib.Core.List.{List, [], ◌∷◌, map, Permᴰ}
use mathlib.Core.Logic.{◌≢◌}
use mathlib.Core.Path.{◌≡◌, refl, sym, ap, ap₂, ◌∙◌, subst}
use Prim.Native.Nat.{ℕ, ◌+◌, ◌≤◌, ◌<◌}
use native.Mathlib.Omega.{arith}
use lib.Dec.{eqb}
use borrow.Author.Tests.{eqb-false}
use Rattle.lists.specs.Lists.{nonzero, keep, sort_by, All, up_from}
use Rattle.lists.proofs.Tests.{by_test}
use Rattle.lists.proofs.Keep.{all_map}
use Rattle.lists.proofs.UpFrom.{up_from_within}
use Rattle.table.specs.Layout.{key_in}
use Rattle.table.specs.Contents.{Entry, Contents, keys_in, key_below, IsKey, Valid, right_measure}
use Rattle.table.specs.Table.{fresh, entry_in, held_entries, contents_of}
use Rattle.table.proofs.Entries.{entry_at, found_right, entries_by_keys, sorted_entries}
use Rattle.table.proofs.Words.{slot_keys, placed_keys, fresh_order, fresh_salt, fresh_keys, fresh_measure}
use Rattle.table.proofs.Held.{held_keys_permute}

module _ (many : ℕ) (c : Contents) (right : All (λ e. right_measure e ≡ true) c.entries) where
  -- the entry in a slot that is not empty
  entry_there : (s : ℕ) → s < many → key_in (fresh many c) s ≢ 0 → entry_in (fresh many c) s ≡ entry_at c.entries (key_in (fresh many c) s)
  unfolding entry_in
  entry_there s h some =
      let measure = fresh_measure many c s h some (found_right c.entries (key_in (fresh many c) s) right) in
      λ i. record { key = key_in (fresh many c) s; measure = measure i }

  -- the entries in some of the slots
  entries_there : (slots : List ℕ) → All (λ s. s < many) slots
      → keep (λ e. nonzero e.key) (map (entry_in (fresh many c)) slots) ≡ map (entry_at c.entries) (keep nonzero (map (key_in (fresh many c)) slots))
  unfolding entry_in
  entries_there [] h = refl
  entries_there (s ∷ slots) h =
      by_test (eqb (key_in (fresh many c) s) 0)
      (λ t. rw t (entries_there slots h.1))
      (λ t. rw t (ap₂ (λ (e : Entry) (es : List Entry). e ∷ es) (entry_there s h.0 (eqb-false (key_in (fresh many c) s) 0 t)) (entries_there slots h.1)))

  held_of_fresh : held_entries many (fresh many c) ≡ map (entry_at c.entries) (keep nonzero (placed_keys many c))
  unfolding held_entries slot_keys
  held_of_fresh =
      entries_there (up_from 0 many) (all_map (λ s. (0 ≤ s) × (s < 0 + many)) (λ s. s < many) (λ s h. omega (arith, h.1)) (up_from 0 many) (up_from_within 0 many))
      ∙ ap (λ (ks : List ℕ). map (entry_at c.entries) (keep nonzero ks)) (fresh_keys many c)

entries_of_fresh : (many : ℕ) (c : Contents) → 1 ≤ many → Valid many c → sort_by key_below (held_entries many (fresh many c)) ≡ c.entries
entries_of_fresh many c some valid =
    let apart = all_map IsKey (λ k. k ≢ 0) (λ k h e. omega arith) (keys_in c) valid.keys_right in
    let shown : Permᴰ (held_entries many (fresh many c)) (map (entry_at c.entries) (keys_in c)) =
    rw (held_of_fresh many c valid.measures_right) (mathlib.Core.List.Permᴰ.map (entry_at c.entries) (held_keys_permute many c.salt (keys_in c) some valid.keys_fit apart))
    in
    sorted_entries c.entries (held_entries many (fresh many c))
    (mathlib.Core.List.Permᴰ.symm (subst (Permᴰ (held_entries many (fresh many c))) (entries_by_keys c.entries valid.keys_rise) shown)) valid.keys_rise

pub contents_of_fresh : (many : ℕ) (c : Contents) → 1 ≤ many → Valid many c → contents_of many (fresh many c) ≡ c
unfolding contents_of
contents_of_fresh many c some valid =
    λ i. record { order = fresh_order many c i; salt = fresh_salt many c i; entries = entries_of_fresh many c some valid i }

pub fresh_unique : (many : ℕ) (c d : Contents) → 1 ≤ many → Valid many c → Valid many d → fresh many c ≡ fresh many d → c ≡ d
fresh_unique many c d some right-c right-d e =
    sym (contents_of_fresh many c some right-c) ∙ ap (contents_of many) e ∙ contents_of_fresh many d some right-d
