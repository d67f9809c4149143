use Rattle.std.proofs.Common.{◌≡◌, false, None, List, length, sym, ap, subst, ◌∙◌, Ok, Err}
use Rattle.std.specs.Prelude.{if◌then◌else◌}
use Rattle.std.proofs.Common.{eq-eqb}
use Rattle.token.specs.Bytes.{Text}
use Rattle.token.specs.Lexer.{tokens_of}
use Rattle.value.specs.declared.values.Value.{Value}
use Rattle.syntax.specs.Language.{Lexemes}
use Rattle.syntax.specs.Lexemes.{lexemes}
use Rattle.syntax.specs.declared.statements.Event.{Event}
use Rattle.prepared.specs.declared.faults.FillFault.TheVariants.{WrongCount}
use Rattle.prepared.specs.declared.prepared.Prepared.{Prepared}
use Rattle.prepared.specs.Masks.{mask}
use Rattle.prepared.specs.Numbers.{parameter_count, stray}
use Rattle.prepared.specs.Constants.{Argument, and_then, constants_of}
use Rattle.prepared.specs.Statements.{filled_event}
use Rattle.prepared.specs.Prepared.{IsPrepared, numbers_of, stray_of}
use Rattle.prepared.specs.Written.{IsValue, MayStand, AreAll, Writes, IsWritten}
use Rattle.prepared.proofs.Keeps.{Other, Clear}
use Rattle.prepared.proofs.Clear.{clear_from}
use Rattle.prepared.proofs.Filling.{event_kept}
use Rattle.prepared.proofs.laws.filled_event_is_written.Goals as goal

clear : (ok : Value → Type 0) (text : Text) (values : List Value) → AreAll ok values → stray_of text ≡ None → Clear ok Other (lexemes (mask text)) (constants_of (numbers_of text) values)
unfolding numbers_of stray_of stray
clear ok text values are h = clear_from ok text (mask text) (tokens_of (mask text)) 0 false false values are h

is_written : (text : Text) (prepared : Prepared) (values : List Value) (write : Argument → Lexemes) → IsPrepared text prepared
    → length values ≡ parameter_count prepared.numbers → AreAll (MayStand prepared.event) values
    → ((given : Argument) → IsValue given.value → Writes given.value (write given)) → IsWritten text prepared values write
is_written text prepared values write is count are writes =
    let at : Clear (MayStand prepared.event) Other (lexemes (mask text)) (constants_of prepared.numbers values) =
    subst (λ z. Clear (MayStand prepared.event) Other (lexemes (mask text)) (constants_of z values)) (sym is.numbers) (clear (MayStand prepared.event) text values are is.in_place) in
    let kept = event_kept write writes prepared.event (lexemes (mask text)) (constants_of prepared.numbers values) is.event at in
    record {
      event = kept.tree;
      fills =
          ap (λ b. if b then and_then {B = Event} (filled_event prepared.event (constants_of prepared.numbers values)) (λ made. Ok made.0) else Err (WrongCount (parameter_count prepared.numbers) (length values)))
          (eq-eqb (length values) (parameter_count prepared.numbers) count)
          ∙ ap (λ r. and_then {B = Event} r (λ made. Ok made.0)) kept.is;
      reads = kept.reads;
    }

pub returns : goal.returns
returns c = is_written
