use Rattle.std.proofs.Common.{◌≡◌, ℕ, List, [], ◌∷◌, length, get_or, sym, ◌∙◌, ap, arith}
use Rattle.definitions.specs.Tables.{only_key}
use Rattle.definitions.proofs.tables.only_key.Goals as goal

-- a list of one
single : {X : Type 0} (xs : List X) (x : X) → length xs ≡ 1 → x ≡ get_or xs 0 x → xs ≡ x ∷ []
single [] x long is = absurd (omega (arith, long))
single (y ∷ []) x long is = ap (λ z. z ∷ []) (sym is)
single (y ∷ z ∷ rest) x long is = absurd (omega (arith, long))

pub returns-clause-key : goal.returns-clause-key
returns-clause-key c =
    let keys = single c.args.keys.now c.names-item.result (omega (arith, c.in-len1.len_at_least, c.in-len1.len_below)) c.names-item.is in
    let names = single c.as_slice.result.now c.name-item.result (omega (arith, c.in-len1-as_slice.len_at_least, c.in-len1-as_slice.len_below)) c.name-item.is in
    c.place_of.ensures.place ∙ sym (ap (only_key c.args.columns.now) (keys ∙ ap (λ (ns : List (List ℕ)). ns ∷ []) (sym c.as_slice.ensures ∙ names)))
