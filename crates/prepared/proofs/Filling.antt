-- A filled event is that of each text with the constants written.
use Rattle.std.proofs.Common.{◌≡◌, ◌++◌, Option, None, Some, sym, ap, subst, ◌∙◌, inl, inr, append-nil}
use Rattle.value.specs.declared.values.Value.{Value}
use Rattle.value.specs.declared.values.Value.TheVariants as v
use Rattle.syntax.specs.declared.wants.PartInParentheses.{PartInParentheses}
use Rattle.syntax.specs.Grammar as grammar
use Rattle.syntax.specs.declared.statements.Insert.{Insert}
use Rattle.syntax.specs.declared.statements.Statement.TheVariants as s
use Rattle.syntax.specs.declared.statements.Event.{Event}
use Rattle.syntax.specs.declared.statements.Event.TheVariants as event
use Rattle.syntax.specs.StatementGrammar as g
use Rattle.syntax.specs.Language.{Lexeme, Lexemes, Language}
use Rattle.prepared.specs.Constants.{Argument, Constants, then_made}
use Rattle.prepared.specs.Statements.{filled_event}
use Rattle.prepared.specs.Written.{IsConstant, IsValue, MayStand, Writes, tokens_with_constants}
use Rattle.prepared.proofs.Keeps.{Other, Clear, left, Kept}
use Rattle.prepared.proofs.WrittenRules.{map_reads}
use Rattle.prepared.proofs.WrittenEvents.{events, insert}

-- ---- an INSERT is read as one

not_begin : (x : Insert) (only : Option Lexeme) → event.Run (s.Insert x) ≡ g.begin_of only → ⊥
not_begin x None e = cc
not_begin x (Some only) e = cc

insert_statement : (inner : Language PartInParentheses) (w : Lexemes) (x : Insert) → g.statement inner w (s.Insert x) → g.insert w x
unfolding g.statement g.update g.delete g.set_constraints g.verdict
insert_statement inner w x (inl (inl (inl (inl (inl h))))) =
    let same : h.tree ≡ x = cc (h.split.second.1) in
    subst (λ z. g.insert w z) same (subst (λ z. g.insert z h.tree) (sym (h.split.cut ∙ ap (λ z. h.split.front ++ z) h.split.second.0 ∙ append-nil h.split.front)) h.split.first)
insert_statement inner w x (inl (inl (inl (inl (inr h))))) =
    let no : s.Insert x ≡ s.Update _ _ _ = h.split.second.split.second.split.second.split.second.split.second.1 in cc
insert_statement inner w x (inl (inl (inl (inr h)))) =
    let no : s.Insert x ≡ s.Delete _ _ = h.split.second.split.second.split.second.split.second.1 in cc
insert_statement inner w x (inl (inl (inr h))) =
    let no : s.Insert x ≡ s.Select _ = h.split.second.1 in cc
insert_statement inner w x (inl (inr h)) =
    let no : s.Insert x ≡ s.SetConstraints _ _ = h.split.second.split.second.split.second.split.second.1 in cc
insert_statement inner w x (inr h) =
    let no : s.Insert x ≡ s.Verdict _ = h.split.second.split.second.1 in cc

insert_event : (inner : Language PartInParentheses) (w : Lexemes) (x : Insert) → g.one_event inner w (event.Run (s.Insert x)) → g.insert w x
unfolding g.one_event g.access
insert_event inner w x (inl (inl (inl h))) = absurd (not_begin x h.split.second.tree h.split.second.split.second.1)
insert_event inner w x (inl (inl (inr h))) = let no : event.Run (s.Insert x) ≡ event.Commit = h.split.second.split.second.1 in cc
insert_event inner w x (inl (inr h)) = let no : event.Run (s.Insert x) ≡ event.Rollback = h.split.second.split.second.1 in cc
insert_event inner w x (inr h) =
    let same : h.tree ≡ s.Insert x = cc (h.split.second.1) in
    insert_statement inner w x
    (subst (λ z. g.statement inner w z) same (subst (λ z. g.statement inner z h.tree) (sym (h.split.cut ∙ ap (λ z. h.split.front ++ z) h.split.second.0 ∙ append-nil h.split.front)) h.split.first))

event_of_insert : (inner : Language PartInParentheses) (w : Lexemes) (x : Insert) → g.insert w x → g.one_event inner w (event.Run (s.Insert x))
unfolding g.one_event g.statement
event_of_insert inner w x h = inr (map_reads event.Run _ w (s.Insert x) (inl (inl (inl (inl (inl (map_reads s.Insert g.insert w x h)))))))

-- ---- every event

value_of_constant : (value : Value) → IsConstant value → IsValue value
value_of_constant v.Null is = absurd is
value_of_constant (v.Int n) is = is
value_of_constant (v.Text t) is = is

module _ (write : Argument → Lexemes) (writes : (given : Argument) → IsValue given.value → Writes given.value (write given)) where
  constants_kept : (x : Event) (w : Lexemes) (now : Constants) → g.IsEvent w x → Clear IsConstant Other w now → Kept g.IsEvent (tokens_with_constants write w now) (filled_event x now) (left w now)
  constants_kept x w now h clear =
      let kept = (events write IsConstant (λ given is. writes given (value_of_constant given.value is)) value_of_constant (λ value is. is) h.0 now).keeps w x h.1 clear in
      record { tree = kept.0.tree; is = kept.0.is; reads = (h.0, kept.0.reads) }

  pub event_kept : (x : Event) (w : Lexemes) (now : Constants) → g.IsEvent w x → Clear (MayStand x) Other w now → Kept g.IsEvent (tokens_with_constants write w now) (filled_event x now) (left w now)
  event_kept (event.Run (s.Insert x)) w now h clear =
      let kept = (insert write IsValue writes (λ value is. is) now).keeps w x (insert_event (grammar.nested h.0) w x h.1) clear in
      record {
        tree = event.Run (s.Insert kept.0.tree);
        is = ap (λ r. then_made event.Run (then_made s.Insert r)) kept.0.is;
        reads = (h.0, event_of_insert (grammar.nested h.0) (tokens_with_constants write w now) kept.0.tree kept.0.reads);
      }
  event_kept (event.Run (s.Update table sets keeps)) w now h clear = constants_kept (event.Run (s.Update table sets keeps)) w now h clear
  event_kept (event.Run (s.Delete table keeps)) w now h clear = constants_kept (event.Run (s.Delete table keeps)) w now h clear
  event_kept (event.Run (s.Select select)) w now h clear = constants_kept (event.Run (s.Select select)) w now h clear
  event_kept (event.Run (s.SetConstraints which mode)) w now h clear = constants_kept (event.Run (s.SetConstraints which mode)) w now h clear
  event_kept (event.Run (s.Verdict name)) w now h clear = constants_kept (event.Run (s.Verdict name)) w now h clear
  event_kept event.Begin w now h clear = constants_kept event.Begin w now h clear
  event_kept event.BeginReadOnly w now h clear = constants_kept event.BeginReadOnly w now h clear
  event_kept event.Commit w now h clear = constants_kept event.Commit w now h clear
  event_kept event.Rollback w now h clear = constants_kept event.Rollback w now h clear
