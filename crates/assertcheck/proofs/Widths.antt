-- That the test of what is given is what it tests.
use Rattle.std.proofs.Common.{List, [], ◌∷◌, Option, Some, None}
use Rattle.std.specs.Prelude.{IsTrue, IsSome, IfSome, All}
use Rattle.std.specs.List.{list_all}
use Rattle.std.proofs.lemmas.List.Elements.{All-nil, All-cons}
use Rattle.std.proofs.lemmas.Bool.{and_parts}
use Rattle.table.specs.declared.exprs.Expr.{Expr}
use Rattle.table.specs.Bounds.{bound_of}
use Rattle.assertcheck.specs.declared.updates.Setting.{Setting}
use Rattle.assertcheck.specs.Updates.{IsBoundedSetting, is_bounded_setting, is_bounded_value}

one_bounded : (value : Option Expr) → IsTrue (is_bounded_value value) → IfSome value (λ e. IsSome (bound_of [] e))
one_bounded None h = _
one_bounded (Some e) h = h

pub each_bounded : (sets : List Setting) → IsTrue (list_all is_bounded_setting sets) → All IsBoundedSetting sets
each_bounded [] h = All-nil IsBoundedSetting
each_bounded (s ∷ rest) h =
    let parts = and_parts (is_bounded_setting s) (list_all is_bounded_setting rest) h
    in All-cons IsBoundedSetting s rest (one_bounded s.value parts.0) (each_bounded rest parts.1)
