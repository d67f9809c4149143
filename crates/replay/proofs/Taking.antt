-- What is read of the two texts, and what is admitted then.
use Rattle.std.proofs.Common.{◌≡◌, ℕ, List, Result, Ok, Err, ap, ◌∙◌, sym, subst, inl, inr}
use Rattle.std.specs.Prelude.{◌≢◌, ◌⊎◌}
use Rattle.value.specs.Results.{and_then}
use Rattle.value.specs.declared.refusals.Refusal.{Refusal}
use Rattle.value.specs.declared.refusals.Refusal.TheVariants.{NoMemory, TooManySessions}
use Rattle.syntax.specs.declared.statements.ScriptLine.{ScriptLine}
use Rattle.syntax.specs.SchemaGrammar.{IsSchema, IsScript}
use Rattle.delta.specs.Views.{ViewState}
use Rattle.definitions.specs.Written.{AreWritten}
use Rattle.definitions.proofs.WrittenAssertions.{taken_written}
use Rattle.commit.specs.Admission.{tables_if_satisfied}
use Rattle.replay.specs.declared.faults.ProgramFault.TheVariants.{Defs, Script}
use Rattle.replay.specs.Takings.{AreTaken, IsAdmitted, IsReadTo, IsRefused}
use Rattle.replay.specs.Texts.{AreAdmitted, HasManySessions, IsFirstFault, IsRead, IsUnread}

-- both are read, and no definition is refused
pub taken : (defs script : List ℕ) (made : ViewState) (lines : List ScriptLine) → IsReadTo defs (Ok made) → IsRead IsScript script lines → AreTaken defs script made lines
taken defs script made lines r s = record {
  definitions = r.definitions;
  read = record { defs_read = r.read; script_read = s };
  takes = r.makes;
  written = taken_written r.definitions made r.makes;
}

-- both are read, and a definition is refused
pub not_taken : (defs script : List ℕ) (refusal : Refusal) (lines : List ScriptLine) → IsReadTo defs (Err refusal) → IsRead IsScript script lines → IsFirstFault defs script (Defs refusal)
not_taken defs script refusal lines r s = inr (record {
  definitions = r.definitions;
  lines = lines;
  read = record { defs_read = r.read; script_read = s };
  refused = ap (λ (m : Result ViewState Refusal). and_then m tables_if_satisfied) r.makes;
})

-- the script is none
pub no_script : (defs script : List ℕ) (refusal : Refusal) (made : Result ViewState Refusal) → IsReadTo defs made → IsUnread IsScript script refusal → IsFirstFault defs script (Script refusal)
no_script defs script refusal made r s = inl (record { definitions = r.definitions; defs_read = r.read; refused = s })

-- no assertion is false on what was taken in
pub admitted : (defs script : List ℕ) (made : ViewState) (lines : List ScriptLine) → AreTaken defs script made lines → (shown : ViewState) → shown ≡ made → tables_if_satisfied made ≡ Ok shown → AreAdmitted defs script shown lines
admitted defs script made lines t shown same holds = record {
  definitions = t.definitions;
  read = t.read;
  admits = ap (λ (m : Result ViewState Refusal). and_then m tables_if_satisfied) t.takes ∙ holds;
  written = subst (λ (s : ViewState). AreWritten t.definitions s.declared) (sym same) t.written;
}

-- one is
pub not_admitted : (defs script : List ℕ) (made : ViewState) (lines : List ScriptLine) → AreTaken defs script made lines → (refusal : Refusal) → (refusal ≢ NoMemory → tables_if_satisfied made ≡ Err refusal) → IsFirstFault defs script (Defs refusal)
not_admitted defs script made lines t NoMemory is = inl tt
not_admitted defs script made lines t refusal is = inr (record {
  definitions = t.definitions;
  lines = lines;
  read = t.read;
  refused = ap (λ (m : Result ViewState Refusal). and_then m tables_if_satisfied) t.takes ∙ is (λ e. cc);
})

-- the script has too many sessions, or there was no memory to make ready for it
pub not_seated : (defs script : List ℕ) (made : ViewState) (lines : List ScriptLine) → AreTaken defs script made lines → (shown : ViewState) → shown ≡ made → tables_if_satisfied made ≡ Ok shown
    → (lent : List ScriptLine) → lent ≡ lines → (refusal : Refusal) → (refusal ≢ NoMemory → HasManySessions lent × (refusal ≡ TooManySessions)) → IsFirstFault defs script (Script refusal)
not_seated defs script made lines t shown same holds lent are NoMemory is = inl (record { definitions = t.definitions; defs_read = t.read.defs_read; refused = tt })
not_seated defs script made lines t shown same holds lent are refusal is =
    let many = is (λ e. cc) in
    inr (record {
      shown = shown;
      lines = lines;
      taken = admitted defs script made lines t shown same holds;
      many = subst HasManySessions are many.0;
      refused = many.1;
    })

-- the same of the definitions' text alone
pub text_admitted : (defs : List ℕ) (made : ViewState) → IsReadTo defs (Ok made) → (shown : ViewState) → shown ≡ made → tables_if_satisfied made ≡ Ok shown → IsAdmitted defs shown
text_admitted defs made r shown same holds = record {
  definitions = r.definitions;
  read = r.read;
  admits = ap (λ (m : Result ViewState Refusal). and_then m tables_if_satisfied) r.makes ∙ holds;
  written = subst (λ (s : ViewState). AreWritten r.definitions s.declared) (sym same) (taken_written r.definitions made r.makes);
}

pub text_refused : (defs : List ℕ) (refusal : Refusal) → IsReadTo defs (Err refusal) → IsRefused defs refusal
text_refused defs refusal r = record {
  definitions = r.definitions;
  read = r.read;
  refused = ap (λ (m : Result ViewState Refusal). and_then m tables_if_satisfied) r.makes;
}

pub text_not_admitted : (defs : List ℕ) (made : ViewState) → IsReadTo defs (Ok made) → (refusal : Refusal) → (refusal ≢ NoMemory → tables_if_satisfied made ≡ Err refusal) → IsUnread IsSchema defs refusal ⊎ IsRefused defs refusal
text_not_admitted defs made r NoMemory is = inl tt
text_not_admitted defs made r refusal is = inr (record {
  definitions = r.definitions;
  read = r.read;
  refused = ap (λ (m : Result ViewState Refusal). and_then m tables_if_satisfied) r.makes ∙ is (λ e. cc);
})
