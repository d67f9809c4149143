-- A file in memory, as contracts see it.
use Rattle.std.specs.Prelude.{ℕ, List}
use Rattle.journal.specs.declared.memory.Memory.{Memory}

-- what it holds
abbrev pub memory_bytes : Memory → List ℕ
memory_bytes m = m.bytes.items
