-- Two facts that a contract states one after the other: heard as one, and said at the end of a walk. Assumes nothing.
use mathlib.Core.List.{List}
use seplogic.Ra.Ura.{Ura}
use base.Logic.{SProp, ent, sep, emp, via, comm∗, mono_l, mono_r, fst∗, snd∗, emp∗}
use types.Logic.{Logic}
use contract.Monad.{fact, fact_i, fact_use}
use types.Kit.{Item, Step, step, prop}

module _ {M : Type 1} (𝓤 : Ura M) (a b : Type 0) where
  pub both_heard : ent 𝓤 (sep 𝓤 (fact 𝓤 a) (fact 𝓤 b)) (fact 𝓤 (a × b))
  both_heard =
      fact_use 𝓤 a (fst∗ 𝓤 (fact 𝓤 a) (fact 𝓤 b))
      (λ x. fact_use 𝓤 b (snd∗ 𝓤 (fact 𝓤 a) (fact 𝓤 b)) (λ y. fact_i 𝓤 (a × b) (sep 𝓤 (fact 𝓤 a) (fact 𝓤 b)) (x, y)))

  pub both_said : a → b → ent 𝓤 (emp 𝓤) (sep 𝓤 (fact 𝓤 a) (fact 𝓤 b))
  both_said x y =
      via 𝓤 (sep 𝓤 (emp 𝓤) (emp 𝓤)) (emp∗ 𝓤 (emp 𝓤))
      (via 𝓤 (sep 𝓤 (fact 𝓤 a) (emp 𝓤)) (mono_l 𝓤 (emp 𝓤) (fact_i 𝓤 a (emp 𝓤) x)) (mono_r 𝓤 (fact 𝓤 a) (fact_i 𝓤 b (emp 𝓤) y)))

-- a goal P ∗ (⌜a⌝ ∗ ⌜b⌝): both are shown, and P is left
pub says_both : {M : Type 1} {𝓤 : Ura M} {𝓛 : Logic 𝓤} {K : Type 0} {Γ : List (Item 𝓤)} → K → {a b : Type 0} {P : SProp 𝓤} → a → b
    → Step K 𝓛 Γ (prop P) Γ (prop (sep 𝓤 P (sep 𝓤 (fact 𝓤 a) (fact 𝓤 b))))
says_both {𝓤 = 𝓤} t {a} {b} {P} x y =
    step (λ s. record {
      prf = via 𝓤 P s.prf
          (via 𝓤 (sep 𝓤 (emp 𝓤) P) (emp∗ 𝓤 P)
          (via 𝓤 (sep 𝓤 (sep 𝓤 (fact 𝓤 a) (fact 𝓤 b)) P) (mono_l 𝓤 P (both_said 𝓤 a b x y)) (comm∗ 𝓤 (sep 𝓤 (fact 𝓤 a) (fact 𝓤 b)) P)));
    })
