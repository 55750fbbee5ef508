-- The hypotheses of the claims on histories are met. Assumes nothing.
use mathlib.Core.Path.{refl}
use native.Mathlib.Omega.{arith}
use Rattle.lists.proofs.Tests.{lies_when}
use Rattle.table.specs.Contents.{new_order, table_order}
use Rattle.history.specs.Call.{by_set_up, by_load}
use Rattle.history.specs.Hypotheses.{EveryTable, EveryCall, EveryHistory}

pub every_table : EveryTable
every_table many words some most long = record { some = some; most = most; long = long }

pub every_call : EveryCall
every_call =
    record {
      words = λ n small. small;
      bytes = λ b small. small;
      corrections = λ z low high. (low, high);
      set_ups = λ order salt word other. (word, other);
      builds = λ order salt list lengths corrections word other sized long signed. (word, other, sized, long, signed);
      readings = λ image small. small;
      inserts = λ key measure word long signed. (word, long, signed);
      deletes = λ key word. word;
      lookups = λ key word. word;
      ranges = λ low high output first second sized. (first, second, sized);
      writings = λ output small. small;
      steps = λ place first second. (first, second);
      batches = λ questions sized. sized;
      printings = λ output small. small;
      loads = λ order seed count word start few. (word, start, few);
    }

pub every_history : EveryHistory
unfolding new_order table_order
every_history =
    record {
      by_set_up_lem = λ order salt later least greatest word lent.
          (record { first = by_set_up order salt; accepted = lies_when _ _ order least greatest; later = later; lent = ((omega arith, word), lent) }, refl);
      by_load_lem = λ order seed count later least greatest start few lent.
          (record { first = by_load order seed count; accepted = lies_when _ _ order least greatest; later = later; lent = ((omega arith, start, few), lent) }, refl);
    }
