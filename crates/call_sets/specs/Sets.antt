-- A set of keys with their measures, as the list of its entries by rising key, with a key more or a key less. Assumes nothing.
use Rattle.std.specs.Prelude.{not, List, ℕ, eqb}
use Rattle.lists.specs.Lists.{keep, insert_by}
use Rattle.table.specs.Contents.{Entry, key_below}

-- "the key joins the set", with its measure
unfoldable pub joined : Entry → List Entry → List Entry
joined entry set = insert_by key_below entry set

-- "the key leaves it"
unfoldable pub without : ℕ → List Entry → List Entry
without key set = keep (λ e. not (eqb e.key key)) set
