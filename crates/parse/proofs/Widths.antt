-- The number of VARCHAR, as its reader takes it.
use Rattle.std.proofs.Common.{◌≡◌, ℕ, Bool, true, false, ◌&&◌, [], ◌∷◌, Some, None, refl, sym, ap, ◌∙◌, subst, if◌then◌else◌}
use Rattle.std.proofs.lemmas.Option.{same_Some}
use Rattle.std.proofs.lemmas.Bool.{and_parts}
use Rattle.token.specs.declared.kinds.Kind.TheVariants as k
use Rattle.value.specs.declared.values.ColType.{ColType}
use Rattle.value.specs.declared.values.ColType.TheVariants as kind_of
use Rattle.leaf_parser.specs.declared.stops.Stop.{Stop}
use Rattle.leaf_parser.specs.declared.stops.Stop.TheVariants as stop
use Rattle.leaf_parser.specs.Reads.{Stops}
use Rattle.syntax.specs.Language.{Lexeme, Lexemes, head}
use Rattle.syntax.specs.Reading.{Reader, Outcome, Done, Fail, Deep, same_kind, expect, expect_where, ◌<$>◌}
use Rattle.syntax.specs.Grammar.{digits_value}
use Rattle.syntax.specs.SchemaGrammar.{is_width, varchar_of}
use Rattle.parse.specs.Widths.{width_of}

abbrev varchar : Reader ColType
varchar = varchar_of <$> expect_where k.Number is_width

-- where the test fails and where it passes
failing : (x : Lexeme) (ts : Lexemes) → (same_kind x.kind k.Number && is_width x) ≡ false → varchar (x ∷ ts) ≡ (Fail, x ∷ ts)
failing x ts e = rw e refl

passing : (x : Lexeme) (ts : Lexemes) → (same_kind x.kind k.Number && is_width x) ≡ true → varchar (x ∷ ts) ≡ (Done (kind_of.Varchar (digits_value x)), ts)
passing x ts e = rw e refl

pub width_none : (ts : Lexemes) → head ts ≡ None → varchar ts ≡ (Fail, ts)
width_none [] e = refl
width_none (x ∷ ts) e = absurd (cc)

test_none : (b : Bool) (x : Lexeme) → (if b then Some (digits_value x) else None) ≡ None → b ≡ false
test_none true x e = absurd (cc)
test_none false x e = refl

test_some : (b : Bool) (x : Lexeme) (n : ℕ) → (if b then Some (digits_value x) else None) ≡ Some n → (b ≡ true) × (digits_value x ≡ n)
test_some true x n e = (refl, same_Some (digits_value x) n e)
test_some false x n e = absurd (cc)

pub width_not : (ts : Lexemes) (x : Lexeme) → head ts ≡ Some x → width_of x ≡ None → varchar ts ≡ (Fail, ts)
width_not [] x h e = absurd (cc)
width_not (t ∷ ts) x h e = let same = same_Some t x h in failing t ts (subst (λ y. (same_kind y.kind k.Number && is_width y) ≡ false) (sym same) (test_none _ x e))

taking : (x : Lexeme) (ts : Lexemes) → same_kind x.kind k.Number ≡ true → expect k.Number (x ∷ ts) ≡ (Done x, ts)
taking x ts e = rw e refl

pub width_read : (ts new : Lexemes) (x y : Lexeme) (n : ℕ) → head ts ≡ Some x → width_of x ≡ Some n → expect k.Number ts ≡ (Done y, new) → varchar ts ≡ (Done (kind_of.Varchar n), new)
width_read [] new x y n h e d = absurd (cc)
width_read (t ∷ ts) new x y n h e d =
    let same = same_Some t x h in
    let test = test_some _ x n e in
    let yes = subst (λ z. (same_kind z.kind k.Number && is_width z) ≡ true) (sym same) test.0 in
    let both : ◌≡◌ {A = Outcome Lexeme} (Done t, ts) (Done y, new) = sym (taking t ts (and_parts _ _ yes).0) ∙ d in
    passing t ts yes ∙ ap (λ z. (Done (kind_of.Varchar (digits_value z)), ts)) same ∙ ap (λ m. (Done (kind_of.Varchar m), ts)) test.1 ∙ ap (λ r. (Done (kind_of.Varchar n), r)) (ap (λ o. o.1) both)

pub width_stops : (ts new : Lexemes) (x : Lexeme) (n : ℕ) (why : Stop) → head ts ≡ Some x → width_of x ≡ Some n → Stops (expect k.Number ts) why new → Stops (varchar ts) why new
width_stops [] new x n why h e d = absurd (cc)
width_stops (t ∷ ts) new x n stop.Memory h e d = d
width_stops (t ∷ ts) new x n stop.Syntax h e d =
    let yes = subst (λ z. (same_kind z.kind k.Number && is_width z) ≡ true) (sym (same_Some t x h)) (test_some _ x n e).0 in
    let both : ◌≡◌ {A = Outcome Lexeme} (Done t, ts) (Fail, new) = sym (taking t ts (and_parts _ _ yes).0) ∙ d in
    let v = ap (λ o. o.0) both in absurd (cc)
width_stops (t ∷ ts) new x n stop.Depth h e d =
    let yes = subst (λ z. (same_kind z.kind k.Number && is_width z) ≡ true) (sym (same_Some t x h)) (test_some _ x n e).0 in
    let both : ◌≡◌ {A = Outcome Lexeme} (Done t, ts) (Deep, new) = sym (taking t ts (and_parts _ _ yes).0) ∙ d in
    let v = ap (λ o. o.0) both in absurd (cc)
