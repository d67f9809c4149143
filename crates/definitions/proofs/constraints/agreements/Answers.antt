use Rattle.std.proofs.Common.{◌≡◌, List, [], ◌∷◌, ◌++◌, ◌⊎◌, map, refl, sym, ◌∙◌, ap, append-nil, ⊎_elim}
use Rattle.std.specs.List.{zip}
use Rattle.std.proofs.lemmas.Slice.Zip.{either_empty_from_Zip}
use Rattle.definitions.specs.Constraints.{agree}
use Rattle.definitions.proofs.constraints.agreements.Goals as goal

none_left : {A B : Type 0} (xs : List A) (ys : List B) → xs ≡ [] → zip xs ys ≡ []
none_left [] ys e = refl
none_left (x ∷ xs) ys e = cc

none_right : {A B : Type 0} (xs : List A) (ys : List B) → ys ≡ [] → zip xs ys ≡ []
none_right [] ys e = refl
none_right (x ∷ xs) [] e = refl
none_right (x ∷ xs) (y ∷ ys) e = cc

-- where nothing is left of one of two lists, no pair is
no_pair : {A B : Type 0} (xs : List A) (ys : List B) → (xs ≡ []) ⊎ (ys ≡ []) → zip xs ys ≡ []
no_pair xs ys = ⊎_elim (λ e. none_left xs ys e) (λ e. none_right xs ys e)

pub returns : goal.returns
returns c =
    sym (ap (λ ps. c.loop-column.parts ++ map (agree c.args.own.now) ps) (no_pair _ _ (either_empty_from_Zip c.loop-column.column-iterator c.next.new.self c.next.result c.in-None.is c.next.ensures.steps)) ∙ append-nil c.loop-column.parts)
    ∙ c.loop-column.invariant
