-- Lists taken from their end.
use Rattle.std.proofs.Common.{◌≡◌, List, [], ◌∷◌, ◌++◌, reverse, sym, ◌∙◌, ap, append_assoc}
use Rattle.std.specs.List.{flat_map}
use Rattle.std.proofs.lemmas.List.{reverse-append, reverse-reverse}

pub merge_step : {A B : Type 0} (parts : A → List B) (all : List B) (rest items : List A) (item : A) → items ≡ rest ++ item ∷ [] → (all ++ parts item) ++ flat_map parts (reverse rest) ≡ all ++ flat_map parts (reverse items)
merge_step parts all rest items item e = append_assoc all (parts item) (flat_map parts (reverse rest)) ∙ ap (λ t. all ++ t) (ap (flat_map parts) (sym (reverse-append rest (item ∷ [])) ∙ ap reverse (sym e)))

pub merge_start : {A B : Type 0} (parts : A → List B) (items turned : List A) → turned ≡ reverse items → flat_map parts (reverse turned) ≡ flat_map parts items
merge_start parts items turned e = ap (flat_map parts) (ap reverse e ∙ reverse-reverse items)
