-- Turns of a loop, and what stands in parentheses, as the readers say it.
use Rattle.std.proofs.Common.{◌≡◌, ℕ, zero, suc, ◌-◌, ◌<◌, Bool, true, false, List, [], ◌∷◌, ◌++◌, refl, sym, ap, subst, ◌∙◌, arith, cond, Result, Ok, Err}
use Rattle.token.specs.declared.kinds.Kind.{Kind}
use Rattle.token.specs.declared.kinds.Kind.TheVariants as k
use Rattle.leaf_parser.specs.declared.stops.Stop.{Stop}
use Rattle.leaf_parser.specs.declared.stops.Stop.TheVariants as stop
use Rattle.syntax.specs.Language.{Lexemes, kind_at}
use Rattle.syntax.specs.Reading.{Reader, Outcome, and_then, Done, Fail, Deep, ◌>>=◌, ◌>>◌, pure, same_kind, expect, parens, many}
use Rattle.leaf_parser.specs.Reads.{Collects, Reads, Stops, full_stop}

pub many_stops : {A : Type 0} (goes_on : Kind → Bool) (item : Reader A) (n : ℕ) (found : List A) (ts : Lexemes) → goes_on (kind_at ts) ≡ false → many goes_on item n found ts ≡ (Done found, ts)
unfolding many
many_stops goes_on item zero found ts e = refl
many_stops goes_on item (suc n) found ts e = ap (λ b. cond b (item >>= (λ x. many goes_on item n (found ++ x ∷ []))) (pure found) ts) e

pub many_goes : {A : Type 0} (goes_on : Kind → Bool) (item : Reader A) (n : ℕ) (found : List A) (ts : Lexemes) → goes_on (kind_at ts) ≡ true → 0 < n → many goes_on item n found ts ≡ (item >>= (λ x. many goes_on item (n - 1) (found ++ x ∷ []))) ts
unfolding many
many_goes goes_on item zero found ts e some = absurd (omega arith)
many_goes goes_on item (suc n) found ts e some =
    let less : n ≡ suc n - 1 = omega arith in
    ap (λ b. cond b (item >>= (λ x. many goes_on item n (found ++ x ∷ []))) (pure found) ts) e ∙ ap (λ m. (item >>= (λ x. many goes_on item m (found ++ x ∷ []))) ts) less

pub many_over : {A : Type 0} (goes_on : Kind → Bool) (item : Reader A) (n : ℕ) (found : List A) (ts : Lexemes) → n ≡ 0 → many goes_on item n found ts ≡ (Done found, ts)
unfolding many
many_over goes_on item n found ts e = ap (λ m. many goes_on item m found ts) e

full_stops : (A : Type 0) (b : Bool) (ts : Lexemes) → Stops {A = A} (cond b (Deep, ts) (Fail, ts)) (cond b stop.Depth stop.Syntax) ts
full_stops A true ts = refl
full_stops A false ts = refl

pub parens_none : {A : Type 0} (n : ℕ) (p : Reader A) (ts : Lexemes) → n ≡ 0 → Stops (parens n p ts) (full_stop (kind_at ts)) ts
unfolding parens
parens_none {A} n p ts e = subst (λ m. Stops (parens m p ts) (full_stop (kind_at ts)) ts) (sym e) (full_stops A (same_kind (kind_at ts) k.Open) ts)

pub parens_some : {A : Type 0} (n : ℕ) (p : Reader A) → 0 < n → parens n p ≡ (expect k.Open >> (p >>= (λ x. expect k.Close >> pure x)))
unfolding parens
parens_some zero p some = absurd (omega arith)
parens_some (suc n) p some = refl

-- What was found so far, of the parts that it is made of, leads to the outcome.
pub record Leads {A C : Type 0} (made_of : C → List A → Type 0) (goes_on : Kind → Bool) (item : Reader A) (outcome : Outcome (List A)) (n : ℕ) (found : C) (ts : Lexemes) : Type 0 where
  pub parts : List A
  pub made : made_of found parts
  pub leads : outcome ≡ many goes_on item n parts ts

module _ {A C : Type 0} (made_of : C → List A → Type 0) (goes_on : Kind → Bool) (item : Reader A) (outcome : Outcome (List A)) where
  -- no further part begins
  pub leads_stops : (n : ℕ) (found : C) (ts : Lexemes) → Leads made_of goes_on item outcome n found ts → goes_on (kind_at ts) ≡ false → Collects {B = List A} made_of outcome (Ok found) ts
  leads_stops n found ts l e = (l.parts, l.made, l.leads ∙ many_stops goes_on item n l.parts ts e)

  -- there were as many turns as tokens
  pub leads_over : (n : ℕ) (found : C) (ts : Lexemes) → Leads made_of goes_on item outcome n found ts → n ≡ 0 → Collects {B = List A} made_of outcome (Ok found) ts
  leads_over n found ts l e = (l.parts, l.made, l.leads ∙ many_over goes_on item n l.parts ts e)

  -- a turn that takes a part
  pub leads_on : (n m : ℕ) (found more : C) (x : A) (ts us : Lexemes) → Leads made_of goes_on item outcome n found ts → goes_on (kind_at ts) ≡ true → n ≡ suc m → item ts ≡ (Done x, us)
      → ((parts : List A) → made_of found parts → made_of more (parts ++ x ∷ [])) → Leads made_of goes_on item outcome m more us
  unfolding many
  leads_on n m found more x ts us l goes turn took longer = record {
    parts = l.parts ++ x ∷ [];
    made = longer l.parts l.made;
    leads =
        l.leads
        ∙ ap (λ k. many goes_on item k l.parts ts) turn
        ∙ ap (λ b. cond b (item >>= (λ y. many goes_on item m (l.parts ++ y ∷ []))) (pure l.parts) ts) goes
        ∙ ap (λ o. and_then o.0 o.1 (λ y. many goes_on item m (l.parts ++ y ∷ []))) took;
  }

  ends_there : (n : ℕ) (found : C) (why : Stop) (ts us : Lexemes) → Leads made_of goes_on item outcome n found ts → goes_on (kind_at ts) ≡ true → 0 < n → Stops (item ts) why us → Stops outcome why us
  ends_there n found stop.Memory ts us l goes some h = h
  ends_there n found stop.Syntax ts us l goes some h = l.leads ∙ many_goes goes_on item n l.parts ts goes some ∙ ap (λ o. and_then o.0 o.1 (λ y. many goes_on item (n - 1) (l.parts ++ y ∷ []))) h
  ends_there n found stop.Depth ts us l goes some h = l.leads ∙ many_goes goes_on item n l.parts ts goes some ∙ ap (λ o. and_then o.0 o.1 (λ y. many goes_on item (n - 1) (l.parts ++ y ∷ []))) h

  -- what begins is no part
  pub leads_nowhere : (n : ℕ) (found : C) (why told : Stop) (ts us : Lexemes) → told ≡ why → Leads made_of goes_on item outcome n found ts → goes_on (kind_at ts) ≡ true → 0 < n → Stops (item ts) why us → Stops outcome told us
  leads_nowhere n found why told ts us same l goes some h = subst (λ w. Stops outcome w us) (sym same) (ends_there n found why ts us l goes some h)

-- what was collected in a list is the list
pub collected_list : {A : Type 0} (outcome : Outcome (List A)) (result : Result (List A) Stop) (ts : Lexemes) → Collects (λ items parts. items ≡ parts) outcome result ts → Reads outcome result ts
collected_list outcome (Ok items) ts h = h.2 ∙ ap (λ l. (Done l, ts)) (sym h.1)
collected_list outcome (Err why) ts h = h
