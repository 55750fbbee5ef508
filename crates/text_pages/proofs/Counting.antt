-- How many pages there are, and which keys stand on each. Assumes nothing.
use mathlib.Core.List.{List, [], ◌∷◌, ◌++◌, flat_map, append-nil}
use mathlib.Core.Path.{◌≡◌, refl, sym, ap, ap₂, ◌∙◌}
use Prim.Native.Nat.{ℕ, zero, suc, pred, min, max, ◌+◌, ◌-◌, ◌*◌, ◌/◌, ◌%◌, ◌≤◌, ◌<◌}
use native.Mathlib.Omega.{arith}
use lib.Dec.{eqb, ltb}
use lib.ListN.{length, take, drop}
use lib.Seq.{slice, take_all, length-slice}
use borrow.Author.Tests.{eqb-true, eqb-false, ne_eqb, ltb-true, ltb-false}
use Rattle.lists.specs.Lists.{rounded_up, up_from}
use Rattle.lists.proofs.Tests.{by_test}
use Rattle.lists.proofs.FlatMap.{flat_map-append}
use Rattle.lists.proofs.Parts.{slice-append}
use Rattle.lists.proofs.UpFrom.{up_from_end}
use Rattle.text_pages.specs.Pages.{page_keys, keys_on, page_count}

-- ---- how many there are
pub count_none : page_count 0 ≡ 1
unfolding page_count
count_none = refl

pub count_some : (n : ℕ) → (n ≡ 0 → ⊥) → page_count n ≡ (n + (page_keys - 1)) / page_keys
unfolding page_count rounded_up
count_some n h = rw (ne_eqb n 0 h)

pub count_rounded : (n : ℕ) → max (n / page_keys + min 1 (n % page_keys)) 1 ≡ page_count n
count_rounded n =
    by_test (eqb n 0)
    (λ e. let none = eqb-true n 0 e in let count = ap page_count none ∙ count_none in omega arith)
    (λ e. let some = eqb-false n 0 e in let count = count_some n some in omega arith)

-- the keys of the pages before the last are there, and those of all pages are all
pub pages_reach : (n : ℕ) → (1 ≤ page_count n) × (page_keys * pred (page_count n) ≤ n) × (n ≤ page_keys * page_count n)
pages_reach n =
    by_test (eqb n 0)
    (λ e. let none = eqb-true n 0 e in let count = ap page_count none ∙ count_none in omega arith)
    (λ e. let some = eqb-false n 0 e in let count = count_some n some in omega arith)

pub last_begun : (n : ℕ) → 1 ≤ n → page_keys * pred (page_count n) < n
last_begun n h = let count = count_some n (λ e. omega arith) in omega arith

pub page_begun : (n before : ℕ) → before < page_count n → page_keys * before ≤ n
page_begun n before h = let reach = pages_reach n in omega arith

-- ---- the keys of a page
module _ (keys : List ℕ) where
  -- up to where they go
  pub keys_upto : (before : ℕ) → keys_on before keys ≡ slice (page_keys * before) (min (page_keys * before + page_keys) (length keys)) keys
  keys_upto before =
      let to = page_keys * before + page_keys in
      by_test (ltb (length keys) to)
      (λ e.
      let beyond = ltb-true (length keys) to e in
      let least : min to (length keys) ≡ length keys = omega arith in
      ap (drop (page_keys * before)) (take_all to keys (omega arith) ∙ sym (take_all (length keys) keys (omega arith)) ∙ ap (λ (n : ℕ). take n keys) (sym least)))
      (λ e.
      let within = ltb-false (length keys) to e in
      let least : min to (length keys) ≡ to = omega arith in
      ap (λ (n : ℕ). slice (page_keys * before) n keys) (sym least))

  pub keys_many : (before : ℕ) → length (keys_on before keys) ≡ min (page_keys * before + page_keys) (length keys) - page_keys * before
  keys_many before = ap length (keys_upto before) ∙ length-slice (page_keys * before) (min (page_keys * before + page_keys) (length keys)) keys (omega arith)

  -- those of the first so many pages are the first keys
  pub first_pages : (many : ℕ) → page_keys * pred many ≤ length keys
      → flat_map (λ before. keys_on before keys) (up_from 0 many) ≡ take (min (page_keys * many) (length keys)) keys
  unfolding flat_map
  first_pages zero h = let none : min (page_keys * 0) (length keys) ≡ 0 = omega arith in ap (λ (n : ℕ). take n keys) (sym none)
  first_pages (suc many) h =
      let from = page_keys * many in
      let to = min (page_keys * suc many) (length keys) in
      let next : 0 + many ≡ many = omega arith in
      let start : min from (length keys) ≡ from = omega arith in
      let end : min (from + page_keys) (length keys) ≡ to = omega arith in
      ap (flat_map (λ before. keys_on before keys)) (up_from_end 0 many ∙ ap (λ (n : ℕ). up_from 0 many ++ (n ∷ [])) next)
      ∙ flat_map-append (λ before. keys_on before keys) (up_from 0 many) (many ∷ [])
      ∙ ap₂ (λ (xs ys : List ℕ). xs ++ ys)
      (first_pages many (omega arith) ∙ ap (λ (n : ℕ). take n keys) start)
      (append-nil (keys_on many keys) ∙ keys_upto many ∙ ap (λ (n : ℕ). slice from n keys) end)
      ∙ sym (slice-append 0 from to keys (omega arith) (omega arith) (omega arith))
