-- What the library's range and chain say, in the words of the contracts. Assumes nothing.
use mathlib.Core.List.{List, [], ◌∷◌}
use mathlib.Core.Path.{◌≡◌, refl, sym, ap, ◌∙◌}
use mathlib.Core.Bool.{Bool}
use Prim.Native.Nat.{ℕ}
use native.Mathlib.Omega.{arith}
use lib.Dec.{leb}
use lib.ListN.{length}
use borrow.Author.Tests.{le-leb, lt-leb}
use Rattle.std.proofs.lemmas.List.Sums.{length-filter}
use Rattle.std.specs.List.{count_by, filter}
use Rattle.std.specs.Ordering.{is_le, nat_cmp}
use Rattle.lists.specs.Lists.{keep}
use Rattle.lists.proofs.Tests.{by_test, Compared, compared}

pub is_le_leb : (a b : ℕ) → is_le (nat_cmp a b) ≡ leb a b
is_le_leb a b = go (compared a b)
  where
    go : Compared a b → is_le (nat_cmp a b) ≡ leb a b
    go (Compared.less e l m h) = rw (l, le-leb a b (omega arith))
    go (Compared.same e l m h) = rw (l, e, le-leb a b (omega arith))
    go (Compared.more e l m h) = rw (l, e, lt-leb a b h)

filter_kept : {A : Type 0} (f : A → Bool) (xs : List A) → filter f xs ≡ keep f xs
filter_kept f [] = refl
filter_kept f (x ∷ xs) = by_test (f x) (λ e. rw (e, filter_kept f xs)) (λ e. rw (e, filter_kept f xs))

pub count_kept : {A : Type 0} (f : A → Bool) (xs : List A) → count_by f xs ≡ length (keep f xs)
count_kept f xs = sym (length-filter f xs) ∙ ap length (filter_kept f xs)
