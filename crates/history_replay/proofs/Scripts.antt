-- A script that begins with an accepted set-up is a history. Assumes nothing.
use mathlib.Core.List.{List, [], ◌∷◌}
use mathlib.Core.Path.{◌≡◌, sym, ap, ◌∙◌, subst}
use Prim.Native.Nat.{ℕ}
use native.Mathlib.Omega.{arith}
use lib.Dec.{eqb}
use lib.Signed.{le_z_yes}
use Rattle.lists.specs.Lists.{All}
use Rattle.lists.proofs.Tests.{by_test}
use Rattle.call_meaning.specs.Calls.{set_up_reply}
use Rattle.history.specs.Call.{Call, IsWord, Lent, History, runs}
use Rattle.history.specs.Call.Opening.{by_set_up}
use Rattle.history.proofs.Running.{first_accepted, table_from_book}
use Rattle.history_replay.specs.Script.{call_of, calls_in, BuiltFromBook}

-- the calls of 64-bit words are lent 64-bit numbers
call_lent : (kind value : ℕ) → IsWord value → Lent (call_of kind value)
unfolding call_of
call_lent kind value word =
    by_test (eqb kind 0) (λ e. rw e (word, omega arith))
    (λ e. rw e (by_test (eqb kind 1) (λ f. rw f (word, omega arith, (le_z_yes tt, le_z_yes tt)))
    (λ f. rw f (by_test (eqb kind 2) (λ g. rw g word) (λ g. rw g word)))))

calls_lent : (script : List ℕ) → All IsWord script → All Lent (calls_in script)
calls_lent [] words = tt
calls_lent (kind ∷ []) words = tt
calls_lent (kind ∷ value ∷ rest) words = (call_lent kind value words.1.0, calls_lent rest words.1.1)

pub built_from_book : (script before after : List ℕ) → All IsWord script → after ≡ runs (calls_in script) before → BuiltFromBook script before after
unfolding set_up_reply
built_from_book script before after words ran many order later table begins accepted =
    let lent = subst (All Lent) begins (calls_lent script words) in
    let right = (first_accepted many before (by_set_up order 0) table).0 accepted in
    let history : History = record { first = by_set_up order 0; accepted = right; later = later; lent = lent } in
    (history, sym begins, ran ∙ ap (λ (calls : List Call). runs calls before) begins ∙ (table_from_book many before history table).0)
