-- Elements of a list moved within it, up to make room at a place or down over the one there. Assumes nothing.
use mathlib.Core.List.{List, ◌∷◌, ◌++◌, [], append_assoc}
use mathlib.Core.Path.{◌≡◌, sym, ap, ap₂, ◌∙◌}
use Prim.Native.Nat.{ℕ, suc, ◌+◌, ◌-◌, ◌<◌, ◌≤◌}
use native.Mathlib.Omega.{arith}
use lib.ListN.{length, get_or, take, drop, set, length-append}
use lib.Seq.{paste, slice, length-take-le, length-slice, take-suc, take-take, set_at}
use Rattle.std.proofs.lemmas.List.{drop-take}
use Rattle.lists.specs.Lists.{overwrite}
use Rattle.call_sets.specs.Indices.{put_at, remove_at}

-- ---- overwriting from an index on
-- the element before what was overwritten
set_before : (old new : List ℕ) (at x : ℕ) → at < length old → set (overwrite old (suc at) new) at x ≡ overwrite old at (x ∷ new)
unfolding overwrite
set_before old new at x h =
    let rest = drop (suc at + length new) old in
    let past : suc at + length new ≡ at + suc (length new) = omega arith in
    ap (λ (front : List ℕ). set (front ++ (new ++ rest)) at x) (take-suc old at 0 h)
    ∙ ap (λ (l : List ℕ). set l at x) (append_assoc (take at old) (get_or old at 0 ∷ []) (new ++ rest))
    ∙ set_at (take at old) (get_or old at 0) (new ++ rest) x at (length-take-le at old (omega arith))
    ∙ ap (λ (n : ℕ). take at old ++ (x ∷ (new ++ drop n old))) past

-- the start together with it
with_start : (old new : List ℕ) (at : ℕ) → at ≤ length old → overwrite old at new ≡ overwrite old 0 (take at old ++ new)
unfolding overwrite
with_start old new at h =
    let many : at + length new ≡ 0 + length (take at old ++ new) = omega (arith, length-append (take at old) new, length-take-le at old h) in
    sym (append_assoc (take at old) new (drop (at + length new) old))
    ∙ ap (λ (n : ℕ). (take at old ++ new) ++ drop n old) many

-- ---- a part copied within its list
-- the elements from index `from` to index `n`, copied to stand from `to` on
pasted : (old : List ℕ) (from to n : ℕ) → from ≤ n → n ≤ length old → paste old to (drop from old) (n - from) ≡ overwrite old to (slice from n old)
unfolding overwrite
pasted old from to n h fit =
    let all : from + (n - from) ≡ n = omega arith in
    let part : take (n - from) (drop from old) ≡ slice from n old =
    sym (drop-take from (n - from) old) ∙ ap (λ (k : ℕ). drop from (take k old)) all
    in
    let many : n - from ≡ length (slice from n old) = sym (length-slice from n old fit) in
    append_assoc (take to old) (take (n - from) (drop from old)) (drop (to + (n - from)) old)
    ∙ ap₂ (λ (xs : List ℕ) (k : ℕ). take to old ++ (xs ++ drop (to + k) old)) part many

-- room made at a place, and a value put there
pub raised : (old : List ℕ) (n at value : ℕ) → n < length old → at ≤ n
    → set (paste old (at + 1) (drop at old) (n - at)) at value ≡ overwrite old 0 (put_at at value (take n old))
unfolding put_at
raised old n at value room few =
    let next : at + 1 ≡ suc at = omega arith in
    ap (λ (l : List ℕ). set l at value)
    (pasted old at (at + 1) n few (omega arith) ∙ ap (λ (k : ℕ). overwrite old k (slice at n old)) next)
    ∙ set_before old (slice at n old) at value (omega arith)
    ∙ with_start old (value ∷ slice at n old) at (omega arith)
    ∙ ap (λ (front : List ℕ). overwrite old 0 (front ++ value ∷ slice at n old)) (sym (take-take at n old few))

-- a place closed
pub lowered : (old : List ℕ) (n at : ℕ) → n ≤ length old → at < n
    → paste old at (drop (at + 1) old) (n - (at + 1)) ≡ overwrite old 0 (remove_at at (take n old))
unfolding remove_at
lowered old n at fit some =
    let next : at + 1 ≡ suc at = omega arith in
    pasted old (at + 1) at n (omega arith) fit
    ∙ ap (λ (k : ℕ). overwrite old at (slice k n old)) next
    ∙ with_start old (slice (suc at) n old) at (omega arith)
    ∙ ap (λ (front : List ℕ). overwrite old 0 (front ++ slice (suc at) n old)) (sym (take-take at n old (omega arith)))
