-- A text without a stray parameter has none behind a sign, whatever constants are given for them.
use Rattle.std.proofs.Common.{◌≡◌, ℕ, zero, suc, ◌+◌, Bool, true, false, not, ◌&&◌, List, [], ◌∷◌, map, Option, Some, None, refl, sym, ap, subst, ◌∙◌}
use Rattle.std.specs.Prelude.{if◌then◌else◌, slice_get, codes}
use Rattle.std.specs.Option.{option_map, option_or}
use Rattle.std.specs.Str.{bytes_eq}
use Rattle.std.proofs.lemmas.Slice.Eq.{bytes_eq-Decides}
use Rattle.token.specs.declared.kinds.Kind.{Kind}
use Rattle.token.specs.declared.kinds.Kind.TheVariants as k
use Rattle.token.specs.declared.spans.Token.{Token}
use Rattle.token.specs.Bytes.{Text}
use Rattle.value.specs.declared.values.Value.{Value}
use Rattle.syntax.specs.Language.{Lexemes}
use Rattle.syntax.specs.Lexemes.{lexeme, bytes_of}
use Rattle.prepared.specs.Numbers.{is_number, is_text, is_sign, ends_operand, numbers_from, stray_in, stray_at, stray_from}
use Rattle.prepared.specs.Constants.{constants_of}
use Rattle.prepared.specs.Written.{AreAll, for_token, behind_token}
use Rattle.prepared.proofs.Keeps.{Prior, Operand, Sign, Other, signed, step, NotSign, ClearAt, Clear}

-- what stands before a token, by what the walk knows of it
abbrev prior : Bool → Bool → Prior
prior true behind_sign = Operand
prior false true = Sign
prior false false = Other

stepped_by : (ends sign behind_operand behind_sign : Bool) → prior ends (sign && not behind_operand) ≡ (if ends then Operand else (if sign then signed (prior behind_operand behind_sign) else Other))
stepped_by true sign behind_operand behind_sign = refl
stepped_by false true true behind_sign = refl
stepped_by false true false true = refl
stepped_by false true false false = refl
stepped_by false false behind_operand behind_sign = refl

stepped : (kind : Kind) (behind_operand behind_sign : Bool) → prior (ends_operand kind) (is_sign kind && not behind_operand) ≡ step (prior behind_operand behind_sign) kind
stepped kind behind_operand behind_sign = stepped_by (ends_operand kind) (is_sign kind) behind_operand behind_sign

or_none : {A : Type 0} (a b : Option A) → option_or a b ≡ None → (a ≡ None) × (b ≡ None)
or_none None b h = (refl, h)
or_none (Some x) b h = cc

not_text : (kind : Kind) → is_number kind ≡ true → is_text kind ≡ false
not_text k.Text e = cc
not_text _ e = refl

-- a parameter that is not stray has no such sign before it
unsigned_by : (start : ℕ) (behind_operand behind_sign : Bool) → stray_in start behind_sign (codes "?") ≡ None → NotSign (prior behind_operand behind_sign)
unsigned_by start true behind_sign h = tt
unsigned_by start false false h = tt
unsigned_by start false true h = cc

unsigned : (text : Text) (t : Token) (behind_operand behind_sign : Bool) → is_number t.kind ≡ true → bytes_eq (bytes_of text t) (codes "?") ≡ true
    → stray_at text behind_sign t ≡ None → NotSign (prior behind_operand behind_sign)
unsigned text t behind_operand behind_sign number question h =
    unsigned_by t.start behind_operand behind_sign
    (ap (stray_in t.start behind_sign) (sym ((bytes_eq-Decides (bytes_of text t) (codes "?")).0 question))
    ∙ ap (λ b. if b then None else stray_in t.start behind_sign (bytes_of text t)) (sym (not_text t.kind number)) ∙ h)

-- ---- each value may stand there

abbrev OfValue : (Value → Type 0) → Option Value → Type 0
OfValue ok None = Unit {0}
OfValue ok (Some value) = ok value

value_at : (ok : Value → Type 0) (values : List Value) → AreAll ok values → (n : ℕ) → OfValue ok (slice_get values n)
value_at ok [] are n = tt
value_at ok (value ∷ values) are zero = are.0
value_at ok (value ∷ values) are (suc n) = value_at ok values are.1 n

clear_value : (ok : Value → Type 0) (p : Prior) (n : ℕ) (value : Option Value) → NotSign p → OfValue ok value → ClearAt ok p (option_map (λ value. record { parameter = n + 1; value = value }) value)
clear_value ok p n None free is = tt
clear_value ok p n (Some value) free is = (free, is)

-- one token, and those behind it
clear_token : (ok : Value → Type 0) (number question : Bool) (p q : Prior) (values : List Value) (count : ℕ) (tokens : Lexemes) (more fewer : List (Option ℕ)) → AreAll ok values
    → (number ≡ true → question ≡ true → NotSign p) → Clear ok q tokens (constants_of more values) → Clear ok q tokens (constants_of fewer values)
    → ClearAt ok p (for_token number (constants_of (if number then (if question then Some count ∷ more else None ∷ fewer) else fewer) values))
    × Clear ok q tokens (behind_token number (constants_of (if number then (if question then Some count ∷ more else None ∷ fewer) else fewer) values))
clear_token ok false question p q values count tokens more fewer are free with_it without = (tt, without)
clear_token ok true false p q values count tokens more fewer are free with_it without = (tt, without)
clear_token ok true true p q values count tokens more fewer are free with_it without = (clear_value ok p count (slice_get values count) (free refl refl) (value_at ok values are count), with_it)

pub clear_from : (ok : Value → Type 0) (text mask : Text) (tokens : List Token) (count : ℕ) (behind_operand behind_sign : Bool) (values : List Value) → AreAll ok values
    → stray_from text behind_operand behind_sign tokens ≡ None
    → Clear ok (prior behind_operand behind_sign) (map (lexeme mask) tokens) (constants_of (numbers_from text count tokens) values)
clear_from ok text mask [] count behind_operand behind_sign values are h = tt
clear_from ok text mask (t ∷ ts) count behind_operand behind_sign values are h =
    let none = or_none (stray_at text behind_sign t) (stray_from text (ends_operand t.kind) (is_sign t.kind && not behind_operand) ts) h in
    let later = λ (n : ℕ). subst (λ p. Clear ok p (map (lexeme mask) ts) (constants_of (numbers_from text n ts) values)) (stepped t.kind behind_operand behind_sign)
    (clear_from ok text mask ts n (ends_operand t.kind) (is_sign t.kind && not behind_operand) values are none.1) in
    clear_token ok (is_number t.kind) (bytes_eq (bytes_of text t) (codes "?")) (prior behind_operand behind_sign) (step (prior behind_operand behind_sign) t.kind) values count (map (lexeme mask) ts)
    (numbers_from text (count + 1) ts) (numbers_from text count ts) are (λ number question. unsigned text t behind_operand behind_sign number question none.0) (later (count + 1)) (later count)
