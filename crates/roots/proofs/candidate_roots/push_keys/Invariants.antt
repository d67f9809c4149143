use Rattle.std.proofs.Common.{◌≡◌, ◌++◌, drop, map}
use Rattle.value.specs.declared.values.Root.TheVariants.{Of}
use Rattle.roots.proofs.candidate_roots.push_keys.Given as goal

-- the keys so far and those that are left are all
abbrev pub invariant-loop-key : goal.invariant-loop-key
invariant-loop-key l = l.roots.items ++ map Of (drop l.key-index l.keys) ≡ l.initial.roots.items ++ map Of l.keys
