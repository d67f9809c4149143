use Rattle.std.proofs.Common.{◌≡◌, take}
use Rattle.assertcheck.specs.Forms.{types_of}
use Rattle.assertcheck.proofs.typed_forms.row_types.Given as goal

-- the types so far are those of the columns so far
abbrev pub invariant-loop-column : goal.invariant-loop-column
invariant-loop-column l = l.types.items ≡ types_of (take l.column-index l.columns)
