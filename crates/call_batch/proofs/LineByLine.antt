-- Answering a batch one line on: what is left to answer from a line on, against what is left from the next. Assumes nothing.
use mathlib.Core.Path.{◌≡◌, refl, sym, ap, ◌∙◌, subst}
use Prim.Native.Nat.{ℕ, zero, suc, ◌+◌, ◌≤◌, ◌<◌}
use native.Mathlib.Numerals.{add-one}
use native.Mathlib.Omega.{arith}
use mathlib.Core.List.{List, [], ◌∷◌, ◌++◌, map}
use lib.ListN.{length, get_or, set, take, drop as drop_l, drop_of_length-le}
use lib.Seq.{drop-cons}
use Rattle.call_batch.specs.Batch.{keys_of, answered}
use Rattle.call_batch.specs.Answering.{line_after, line_of, progress, Ready, Askable}
use Rattle.call_batch.specs.declared.Question.{Question}
use Rattle.call_batch.specs.declared.Progress.{Progress}

-- any question, for what lies past the end
abbrev pub none : Question
none = record { key = 0; held = 0; rank = 0 }

-- the line that is written is the question with its answer
pub line_is : (words : List ℕ) (so : Progress) (q : Question) → line_of (line_after words so q.key) ≡ answered words q
unfolding line_after answered
line_is words so q = refl

module _ (words : List ℕ) (ys : List Question) (i : ℕ) (so : Progress) where
  abbrev next : Progress
  next = line_after words so (get_or ys i none).key

  pub goes_on : i < length ys → progress words so (keys_of (drop_l i ys)) ≡ progress words next (keys_of (drop_l (i + 1) ys))
  goes_on h =
      ap (λ (l : List Question). progress words so (keys_of l)) (drop-cons ys i none h)
      ∙ ap (λ (n : ℕ). progress words next (keys_of (drop_l n ys))) (sym (add-one i))

  here_and_on : i < length ys → Askable words so (keys_of (drop_l i ys)) → Ready so (get_or ys i none).key × Askable words next (keys_of (drop_l (suc i) ys))
  here_and_on h a = subst (λ (l : List Question). Askable words so (keys_of l)) (drop-cons ys i none h) a

  pub ready : i < length ys → Askable words so (keys_of (drop_l i ys)) → Ready so (get_or ys i none).key
  ready h a = (here_and_on h a).0

  pub asks_on : i < length ys → Askable words so (keys_of (drop_l i ys)) → Askable words next (keys_of (drop_l (i + 1) ys))
  asks_on h a = subst (λ (n : ℕ). Askable words next (keys_of (drop_l n ys))) (sym (add-one i)) (here_and_on h a).1

  pub ends : length ys ≤ i → progress words so (keys_of (drop_l i ys)) ≡ so
  ends h = ap (λ (l : List Question). progress words so (keys_of l)) (drop_of_length-le ys h)

-- ---- the lines, those before a line answered
module _ (f : Question → Question) where
  -- the line itself is not yet
  pub still : (ys : List Question) (i : ℕ) → get_or (map f (take i ys) ++ drop_l i ys) i none ≡ get_or ys i none
  still [] zero = refl
  still [] (suc i) = refl
  still (y ∷ ys) zero = refl
  still (y ∷ ys) (suc i) = still ys i

  one_line : (ys : List Question) (i : ℕ) (v : Question) → i < length ys → v ≡ f (get_or ys i none)
      → set (map f (take i ys) ++ drop_l i ys) i v ≡ map f (take (suc i) ys) ++ drop_l (suc i) ys
  one_line [] i v h e = absurd (omega arith)
  one_line (y ∷ ys) zero v h e = ap (λ (x : Question). x ∷ ys) e
  one_line (y ∷ ys) (suc i) v h e = ap (λ (l : List Question). f y ∷ l) (one_line ys i v (omega arith) e)

  pub one_more : (ys : List Question) (i : ℕ) (v : Question) → i < length ys → v ≡ f (get_or ys i none)
      → set (map f (take i ys) ++ drop_l i ys) i v ≡ map f (take (i + 1) ys) ++ drop_l (i + 1) ys
  one_more ys i v h e = one_line ys i v h e ∙ ap (λ (n : ℕ). map f (take n ys) ++ drop_l n ys) (sym (add-one i))
