-- Text that is being written piece by piece: what is written, and what is still to come. Assumes nothing.
use mathlib.Core.List.{List, [], ◌++◌, flat_map, append-nil, append_assoc}
use mathlib.Core.Path.{◌≡◌, refl, sym, ◌∙◌, subst}
use Prim.Native.Nat.{ℕ, suc, ◌+◌, ◌-◌, ◌≤◌, ◌<◌}
use native.Mathlib.Omega.{arith}
use lib.ListN.{length}
use Rattle.lists.specs.Lists.{up_from}
use Rattle.text.specs.Written.{Written}
use Rattle.text.proofs.Pieces.{written_none, written_size, written_then, next_fits, front_fits}

-- Of the whole text the rest is still to be written; what comes before it stands in the output and ends at index `to`.
pub record Ongoing (before : List ℕ) (at : ℕ) (whole rest output : List ℕ) (to : ℕ) : Type 0 where
  pub done : List ℕ
  pub split : done ++ rest ≡ whole
  pub written : Written before at done output to

pub ongoing_none : (before : List ℕ) (at : ℕ) (whole : List ℕ) → Ongoing before at whole whole before at
ongoing_none before at whole = record { done = []; split = refl; written = written_none before at }

pub ongoing_all : {before : List ℕ} {at : ℕ} {whole output : List ℕ} {to : ℕ} → Ongoing before at whole [] output to → Written before at whole output to
ongoing_all {before} {at} {whole} {output} {to} state =
    subst (λ (text : List ℕ). Written before at text output to) (sym (append-nil state.done) ∙ state.split) state.written

module _ {before : List ℕ} {at : ℕ} {whole output : List ℕ} {to : ℕ} (fits : at + length whole ≤ length before) where
  pub ongoing_size : {rest : List ℕ} → Ongoing before at whole rest output to → length output ≡ length before
  ongoing_size {rest} state =
      written_size state.written (front_fits at state.done rest (length before) (subst (λ (text : List ℕ). at + length text ≤ length before) (sym state.split) fits))

  -- the next piece, with what comes after it
  module _ (piece rest : List ℕ) (state : Ongoing before at whole (piece ++ rest) output to) where
    reach : at + length (state.done ++ piece) ≤ length before
    reach =
        front_fits at (state.done ++ piece) rest (length before)
        (subst (λ (text : List ℕ). at + length text ≤ length before) (sym (append_assoc state.done piece rest ∙ state.split)) fits)

    pub ongoing_fits : to + length piece ≤ length output
    ongoing_fits = next_fits state.written piece reach

    pub ongoing_next : {last : List ℕ} {stop : ℕ} → Written output to piece last stop → Ongoing before at whole rest last stop
    ongoing_next next =
        record {
          done = state.done ++ piece;
          split = append_assoc state.done piece rest ∙ state.split;
          written = written_then state.written next reach;
        }

  -- the last piece
  module _ (piece : List ℕ) (state : Ongoing before at whole piece output to) where
    with_none : Ongoing before at whole (piece ++ []) output to
    with_none = subst (λ (rest : List ℕ). Ongoing before at whole rest output to) (sym (append-nil piece)) state

    pub last_fits : to + length piece ≤ length output
    last_fits = ongoing_fits piece [] with_none

    pub ongoing_last : {last : List ℕ} {stop : ℕ} → Written output to piece last stop → Written before at whole last stop
    ongoing_last next = ongoing_all (ongoing_next piece [] with_none next)

-- ---- a text for each index, from one up to another: the next, and none left
module _ {before : List ℕ} {at : ℕ} {whole output : List ℕ} {to : ℕ} (f : ℕ → List ℕ) (i n : ℕ)
    (state : Ongoing before at whole (flat_map f (up_from i (n - i))) output to) where
  pub ongoing_turn : i < n → Ongoing before at whole (f i ++ flat_map f (up_from (suc i) (n - suc i))) output to
  unfolding flat_map
  ongoing_turn h =
      let next : n - i ≡ suc (n - suc i) = omega arith in
      subst (λ (many : ℕ). Ongoing before at whole (flat_map f (up_from i many)) output to) next state

  pub ongoing_end : n ≤ i → Written before at whole output to
  unfolding flat_map
  ongoing_end h =
      let none : n - i ≡ 0 = omega arith in
      ongoing_all (subst (λ (many : ℕ). Ongoing before at whole (flat_map f (up_from i many)) output to) none state)
