use Rattle.std.proofs.Common.{◌≡◌, List, [], ◌∷◌, ◌++◌, Option, Some, length, sym, ap, ◌∙◌, subst, arith}
use Rattle.std.specs.Prelude.{option_to_list}
use Rattle.std.proofs.lemmas.Result.{on_ok_weaker}
use Rattle.table.specs.declared.rows.Change.{Change}
use Rattle.changes.specs.Nets.{noted_at}
use Rattle.changes.proofs.Places.{noted_after_all, noted_put}
use Rattle.changes.proofs.touched.TouchedRows.note_only.Goals as goal

-- with one behind there are some
some : (rest : List Change) (change : Change) → length (rest ++ change ∷ []) ≡ 0 → ⊥
some [] change e = absurd (omega (arith, e))
some (first ∷ rest) change e = absurd (omega (arith, e))

-- the last of one is the only one
only : (changes rest : List Change) (o : Option Change) (change : Change) → length changes ≡ 1 → changes ≡ rest ++ option_to_list o → o ≡ Some change → changes ≡ change ∷ []
only changes [] o change one split is = split ∙ ap option_to_list is
only changes (first ∷ rest) o change one split is =
    let e : length (first ∷ (rest ++ change ∷ [])) ≡ 1 = ap length (sym (split ∙ ap (λ (left : Option Change). first ∷ (rest ++ option_to_list left)) is)) ∙ one in
    absurd (some rest change (omega (arith, e)))

pub returns-in-Some-clause-noted : goal.returns-in-Some-clause-noted
returns-in-Some-clause-noted c =
    on_ok_weaker c.note_one.result
    (λ p. λ layouts start before after noted between.
    noted_put layouts start before after c.args.self.now c.note_one.new.self c.args.changes.items noted between
    (λ place. subst (λ (changes : List Change). noted_at c.note_one.new.self place ≡ noted_after_all changes place (noted_at c.args.self.now place))
    (sym (only c.args.changes.items c.pop.new.self.items c.pop.result c.in-Some.change c.requires c.pop.ensures.items c.in-Some.is)) (p place)))
    c.note_one.ensures.noted
