-- The first of the parts of a WHERE that passes a test, and the others.
use Rattle.std.proofs.Common.{◌≡◌, Bool, true, false, cond, Option, Some, None, List, [], ◌∷◌, ◌++◌, refl, ap, sym, ◌∙◌}
use Rattle.std.specs.Prelude.{find}
use Rattle.std.proofs.lemmas.Option.{same_Some}
use Rattle.syntax.specs.declared.trees.Condition.{Condition}
use Rattle.form_check.specs.Links.{beside}
use Rattle.meaning.specs.Class.{Each, NoneOf}
use Rattle.meaning.proofs.Standing.{each_other}

-- the parts that fail a test
abbrev pub Fail : (Condition → Bool) → List Condition → Type 0
Fail passes parts = Each (λ part. passes part ≡ false) parts

pub fail_none : (passes : Condition → Bool) (P : Condition → Type 0) → ((part : Condition) → P part → passes part ≡ true) → (parts : List Condition) → Fail passes parts → NoneOf P parts
fail_none passes P to parts h = each_other (λ part. passes part ≡ false) (λ part. P part → ⊥) (λ part fails is. let k : true ≡ false = sym (to part is) ∙ fails in cc) parts h

not_true : (b : Bool) → (b ≡ true → ⊥) → b ≡ false
not_true true never = absurd (never refl)
not_true false never = refl

pub none_fail : (passes : Condition → Bool) (P : Condition → Type 0) → ((part : Condition) → passes part ≡ true → P part) → (parts : List Condition) → NoneOf P parts → Fail passes parts
none_fail passes P of parts h = each_other (λ part. P part → ⊥) (λ part. passes part ≡ false) (λ part never. not_true (passes part) (λ e. never (of part e))) parts h

pub none_found : (passes : Condition → Bool) (parts : List Condition) → find passes parts ≡ None → Fail passes parts
none_found passes [] e = tt
none_found passes (part ∷ parts) e =
    let case : (b : Bool) → passes part ≡ b → cond b (Some part) (find passes parts) ≡ None → Fail passes (part ∷ parts) = λ b. elim b as (λ b. passes part ≡ b → cond b (Some part) (find passes parts) ≡ None → Fail passes (part ∷ parts)) [ true ↦ λ t e. cc | false ↦ λ t e. (t, none_found passes parts e) ]
    in case (passes part) refl e

pub none_finds : (passes : Condition → Bool) (parts : List Condition) → Fail passes parts → find passes parts ≡ None
none_finds passes [] h = refl
none_finds passes (part ∷ parts) h = ap (λ b. let o : Option Condition = cond b (Some part) (find passes parts) in o) h.0 ∙ none_finds passes parts h.1

-- the first that passes, with those before it and behind it
abbrev pub Split : (Condition → Bool) → Condition → List Condition → Type 0
Split passes link parts = (before : List Condition) × ((behind : List Condition) × ((parts ≡ before ++ link ∷ behind) × ((passes link ≡ true) × (Fail passes before × (beside passes parts ≡ before ++ behind)))))

pub split : (passes : Condition → Bool) (parts : List Condition) (link : Condition) → find passes parts ≡ Some link → Split passes link parts
split passes [] link e = cc
split passes (part ∷ parts) link e =
    let case : (b : Bool) → passes part ≡ b → cond b (Some part) (find passes parts) ≡ Some link → Split passes link (part ∷ parts) = λ b. elim b as (λ b. passes part ≡ b → cond b (Some part) (find passes parts) ≡ Some link → Split passes link (part ∷ parts)) [
      | true ↦ λ t e.
          let same : part ≡ link = same_Some part link e in
          let nothing : List Condition = [] in
          (nothing, (parts, (ap (λ l. l ∷ parts) same, (ap passes (sym same) ∙ t, (tt, ap (λ b. cond b parts (part ∷ beside passes parts)) t)))))
      | false ↦ λ t e.
          let (before, (behind, (is, (may, (none, left))))) = split passes parts link e in
          (part ∷ before, (behind, (ap (λ ps. part ∷ ps) is, (may, ((t, none), ap (λ b. cond b parts (part ∷ beside passes parts)) t ∙ ap (λ ps. part ∷ ps) left)))))
    ] in case (passes part) refl e

pub joined : (passes : Condition → Bool) (before behind : List Condition) (link : Condition) → Fail passes before → passes link ≡ true → (find passes (before ++ link ∷ behind) ≡ Some link) × (beside passes (before ++ link ∷ behind) ≡ before ++ behind)
joined passes [] behind link none may = (ap (λ b. let o : Option Condition = cond b (Some link) (find passes behind) in o) may, ap (λ b. cond b behind (link ∷ beside passes behind)) may)
joined passes (part ∷ before) behind link none may =
    let rest = before ++ link ∷ behind in
    let (found, left) = joined passes before behind link none.1 may in
    (ap (λ b. let o : Option Condition = cond b (Some part) (find passes rest) in o) none.0 ∙ found, ap (λ b. cond b rest (part ∷ beside passes rest)) none.0 ∙ ap (λ ps. part ∷ ps) left)

-- one is found where one passes, and the others are among all
pub some_found : (passes : Condition → Bool) (before behind : List Condition) (part : Condition) → passes part ≡ true → (link : Condition) × (find passes (before ++ part ∷ behind) ≡ Some link)
some_found passes before behind part may = go (find passes (before ++ part ∷ behind)) refl
  where
    in_each : (P : Condition → Type 0) (before behind : List Condition) (part : Condition) → Each P (before ++ part ∷ behind) → P part
    in_each P [] behind part h = h.0
    in_each P (x ∷ before) behind part h = in_each P before behind part h.1

    go : (o : Option Condition) → find passes (before ++ part ∷ behind) ≡ o → (link : Condition) × (o ≡ Some link)
    go (Some link) e = (link, refl)
    go None e = let k : true ≡ false = sym may ∙ in_each (λ part. passes part ≡ false) before behind part (none_found passes (before ++ part ∷ behind) e) in cc

pub beside_each : (P : Condition → Type 0) (passes : Condition → Bool) (parts : List Condition) → Each P parts → Each P (beside passes parts)
beside_each P passes [] h = tt
beside_each P passes (part ∷ parts) h = go (passes part) (beside_each P passes parts h.1)
  where
    go : (b : Bool) → Each P (beside passes parts) → Each P (cond b parts (part ∷ beside passes parts))
    go true others = h.1
    go false others = (h.0, others)
