use Rattle.std.proofs.Common.{ap, sym, ◌∙◌}
use Rattle.alone.specs.Marks.{immediates_in}
use Rattle.alone.specs.Modes.{Immediates, opposite_modes}
use Rattle.alone.specs.declared.modes.Marks.{Marks}
use Rattle.alone.proofs.Immediates.{other_of_all}
use Rattle.alone.proofs.modes.Modes.opposite.Goals.{in-Each+in_ok-opposite_marks-in-Each, in-Same}
use Rattle.alone.proofs.modes.Modes.opposite.Goals as goal

pub returns : goal.returns
returns c =
    elim c.match-self.branch [
      | in-Each+in_ok-opposite_marks-in-Each w ↦
          ap immediates_in w.marks-is ∙ w.in_ok-opposite_marks-in-Each.ensures ∙ ap opposite_modes w.as_slice.ensures.value ∙ sym (ap (λ (m : Marks). opposite_modes (immediates_in m)) w.in-Each.is)
      | in-Same w ↦
          ap immediates_in w.marks-is ∙ other_of_all w.in-Same.count w.in-Same.immediate ∙ sym (ap (λ (m : Marks). opposite_modes (immediates_in m)) w.in-Same.is)
    ]
    ∙ ap (λ (m : Immediates). opposite_modes m) c.self.view_is
