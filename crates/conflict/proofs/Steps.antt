-- One record more, in the words of the definitions.
use Rattle.std.proofs.Common.{◌≡◌, ℕ, ◌+◌, ◌<◌, cond, ltb, min, List, [], ◌∷◌, reverse, length, take, get_or, sym, ap, ◌∙◌}
use Rattle.std.specs.Prelude.{◌&&◌}
use Rattle.std.proofs.lemmas.List.{take_more, reverse-append}
use Rattle.alone.specs.declared.records.Record.{Record}
use Rattle.alone.specs.Commits.{conflicts_to}
use Rattle.alone.specs.Order.{least_out}

pub log_more : (xs : List Record) (i : ℕ) (item : Record) → i < length xs → item ≡ get_or xs i item → reverse (take (i + 1) xs) ≡ item ∷ reverse (take i xs)
log_more xs i item l is =
    ap reverse (take_more xs i item l) ∙ reverse-append (take i xs) (get_or xs i item ∷ []) ∙ ap (λ r. r ∷ reverse (take i xs)) (sym is)

pub least_more : (xs : List Record) (i : ℕ) (item commit : Record) (least next : ℕ) → i < length xs → item ≡ get_or xs i item → least ≡ least_out (reverse (take i xs)) commit
    → next ≡ cond (ltb item.number commit.number && conflicts_to commit item) (min item.number least) least
    → next ≡ least_out (reverse (take (i + 1) xs)) commit
least_more xs i item commit least next l is e f =
    f ∙ ap (λ m. cond (ltb item.number commit.number && conflicts_to commit item) (min item.number m) m) e
    ∙ ap (λ o. least_out o commit) (sym (log_more xs i item l is))
