-- What an operation of a load is done on, and what it leaves. Assumes nothing.
use Rattle.std.specs.Prelude.{ℕ, ◌≤◌}
use Rattle.table.specs.Contents.{Contents}
use Rattle.call_sets.specs.Load.{Operation, done}

-- A key of a load: 1 to 512.
abbrev pub IsLoadKey : ℕ → Type 0
IsLoadKey key = (1 ≤ key) × (key ≤ 512)

-- The order, the salt and the set of a table, with what the operation makes of the set.
abbrev pub with_done : ℕ → Operation → Contents → Contents
with_done many operation c = record { order = c.order; salt = c.salt; entries = done many operation c.entries }
