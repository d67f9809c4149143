-- The answers of a session's lines, one after the other.
use Rattle.std.proofs.Common.{◌≡◌, ◌<◌, ◌≤◌, ◌+◌, ℕ, Bool, List, [], ◌∷◌, ◌++◌, Option, None, drop, get_or, length, refl, sym, subst}
use Rattle.std.proofs.lemmas.List.{append_assoc, append-nil, drop_all}
use Rattle.value.proofs.Lists.{drop_item}
use Rattle.syntax.specs.declared.statements.ScriptLine.{ScriptLine}
use Rattle.alone.specs.declared.answers.Answer.{Answer}
use Rattle.session.specs.Books.{TicketedTransaction}
use Rattle.threads.specs.Lines.{AreTold, IsTold, seen_after}

-- what the lines that are left are answered goes on behind these answers
abbrev pub GoesOn : (IsNew : Bool → TicketedTransaction → Type 0) → List ScriptLine → List Answer → List ScriptLine → (seen : ℕ) → Option TicketedTransaction → Type 0
GoesOn IsNew lines answers rest seen txn =
    (more : List Answer) (left : Option TicketedTransaction) → AreTold IsNew rest seen txn more left → AreTold IsNew lines 0 None (answers ++ more) left

-- before the first
pub begins : (IsNew : Bool → TicketedTransaction → Type 0) (lines : List ScriptLine) (answers : List Answer) (seen : ℕ) → answers ≡ [] → seen ≡ 0
    → GoesOn IsNew lines answers lines seen None
begins IsNew lines answers seen none nothing more left told =
    subst (λ all. AreTold IsNew lines 0 None (all ++ more) left) (sym none) (subst (λ n. AreTold IsNew lines n None more left) nothing told)

-- with one answer more
goes_on : (IsNew : Bool → TicketedTransaction → Type 0) (lines rest : List ScriptLine) (line : ScriptLine) (seen : ℕ) (txn next : Option TicketedTransaction) (answers : List Answer) (answer : Answer)
    → GoesOn IsNew lines answers (line ∷ rest) seen txn → IsTold IsNew line.event seen txn answer next
    → GoesOn IsNew lines (answers ++ answer ∷ []) rest (seen_after answer seen) next
goes_on IsNew lines rest line seen txn next answers answer so_far told more left others =
    subst (λ all. AreTold IsNew lines 0 None all left) (sym (append_assoc answers (answer ∷ []) more)) (so_far (answer ∷ more) left (next, told, others))

pub goes_on_at : (IsNew : Bool → TicketedTransaction → Type 0) (lines : List ScriptLine) (index : ℕ) (line : ScriptLine) (seen later : ℕ) (txn next : Option TicketedTransaction) (answers new : List Answer) (answer : Answer)
    → index < length lines → line ≡ get_or lines index line → GoesOn IsNew lines answers (drop index lines) seen txn → IsTold IsNew line.event seen txn answer next
    → later ≡ seen_after answer seen → new ≡ answers ++ answer ∷ [] → GoesOn IsNew lines new (drop (index + 1) lines) later next
goes_on_at IsNew lines index line seen later txn next answers new answer within there so_far told later_is new_is =
    let at : drop index lines ≡ line ∷ drop (index + 1) lines = drop_item lines index line within there in
    let before : GoesOn IsNew lines answers (line ∷ drop (index + 1) lines) seen txn = subst (λ rest. GoesOn IsNew lines answers rest seen txn) at so_far in
    subst (λ n. GoesOn IsNew lines new (drop (index + 1) lines) n next) (sym later_is)
    (subst (λ all. GoesOn IsNew lines all (drop (index + 1) lines) (seen_after answer seen) next) (sym new_is)
    (goes_on IsNew lines (drop (index + 1) lines) line seen txn next answers answer before told))

-- and behind the last
pub ends : (IsNew : Bool → TicketedTransaction → Type 0) (lines : List ScriptLine) (index seen : ℕ) (txn : Option TicketedTransaction) (answers : List Answer) → length lines ≤ index
    → GoesOn IsNew lines answers (drop index lines) seen txn → AreTold IsNew lines 0 None answers txn
ends IsNew lines index seen txn answers past so_far =
    subst (λ all. AreTold IsNew lines 0 None all txn) (append-nil answers)
    (so_far [] txn (subst (λ left. AreTold IsNew left seen txn [] txn) (sym (drop_all index lines past)) refl))
