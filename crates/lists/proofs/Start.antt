-- The start of a list: overwritten, whole or one element after the other, and what holds of all of it. Assumes nothing.
use mathlib.Core.List.{List, [], ◌∷◌, ◌++◌, map}
use mathlib.Core.Path.{◌≡◌, sym, ap, ◌∙◌, subst}
use Prim.Native.Nat.{ℕ, suc, ◌≤◌, ◌<◌}
use native.Mathlib.Omega.{arith}
use lib.ListN.{length, get_or, take, drop, set, length-append, length-map}
use lib.Seq.{length-take-le, take_at, get_or-take, drop-cons, append_snoc, set-append_seam}
use Rattle.lists.specs.Lists.{All, overwrite}
use Rattle.lists.proofs.Keep.{all_at}
use Rattle.lists.proofs.Overwrite.{overwrite_start, overwrite-length}
use Rattle.lists.proofs.Replaced.{replaced}

-- one element more
pub overwrite_start_next : (before new : List ℕ) (x : ℕ) → length new < length before
    → set (overwrite before 0 new) (length new) x ≡ overwrite before 0 (new ++ (x ∷ []))
overwrite_start_next before new x h =
    let more : length (new ++ (x ∷ [])) ≡ suc (length new) = length-append new (x ∷ []) ∙ omega arith in
    ap (λ (l : List ℕ). set l (length new) x)
    (overwrite_start before new ∙ ap (λ (l : List ℕ). new ++ l) (drop-cons before (length new) 0 h))
    ∙ set-append_seam new (get_or before (length new) 0) (drop (suc (length new)) before) x
    ∙ sym (append_snoc new x (drop (suc (length new)) before))
    ∙ sym (overwrite_start before (new ++ (x ∷ [])) ∙ ap (λ (n : ℕ). new ++ (x ∷ []) ++ drop n before) more)

-- ---- what is written at the start of a list is its start
pub starts_and : (xs old new : List ℕ) (n : ℕ) → xs ≡ new ++ drop n old → length new ≡ n → take n xs ≡ new
starts_and xs old new n e h = ap (take n) e ∙ take_at new (drop n old) n h

pub starts_with : (xs old new : List ℕ) (n : ℕ) → xs ≡ overwrite old 0 new → length new ≡ n → take n xs ≡ new
starts_with xs old new n e h = ap (take n) (e ∙ overwrite_start old new) ∙ take_at new (drop (length new) old) n h

-- and the list keeps its length
pub as_long : (xs old new : List ℕ) (n : ℕ) → xs ≡ overwrite old 0 new → length new ≡ n → n ≤ length old → length xs ≡ length old
as_long xs old new n e h k = ap length e ∙ overwrite-length old 0 new (omega arith)

-- entries replaced one by one are a start that is overwritten
pub replaced_overwrites : (f : ℕ → ℕ) (source before : List ℕ) (n : ℕ) → n ≤ length source
    → replaced f source before n ≡ overwrite before 0 (map f (take n source))
replaced_overwrites f source before n h =
    sym
    (overwrite_start before (map f (take n source))
    ∙ ap (λ (k : ℕ). map f (take n source) ++ drop k before) (length-map (take n source) f ∙ length-take-le n source h))

-- what holds of all of the start holds at each of its indices
pub all_taken : (P : ℕ → Type 0) (xs : List ℕ) (n i : ℕ) → n ≤ length xs → All P (take n xs) → i < n → P (get_or xs i 0)
all_taken P xs n i h all below =
    subst P (get_or-take n xs i 0 below) (all_at P (take n xs) i 0 all (omega (arith, length-take-le n xs h)))
