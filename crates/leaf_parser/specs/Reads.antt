-- What a function of the parser ensures: the reader's outcome, unless memory runs out.
use Rattle.std.specs.Prelude.{◌≡◌, Bool, true, false, if◌then◌else◌, Result, Ok, Err}
use Rattle.token.specs.declared.kinds.Kind.{Kind}
use Rattle.token.specs.declared.kinds.Kind.TheVariants as k
use Rattle.leaf_parser.specs.declared.stops.Stop.{Stop}
use Rattle.leaf_parser.specs.declared.stops.Stop.TheVariants as stop
use Rattle.syntax.specs.Language.{Lexemes, kind_at}
use Rattle.syntax.specs.Reading.{same_kind, Outcome, Done, Fail, Deep}

-- why the reader stopped, and where
abbrev pub Stops : {A : Type 0} → Outcome A → Stop → Lexemes → Type 0
Stops outcome stop.Memory new = Unit {0}
Stops outcome stop.Syntax new = outcome ≡ (Fail, new)
Stops outcome stop.Depth new = outcome ≡ (Deep, new)

-- what was read, and what is left; or why the reader stopped, and where
abbrev pub Reads : {A : Type 0} → Outcome A → Result A Stop → Lexemes → Type 0
Reads outcome (Ok a) new = outcome ≡ (Done a, new)
Reads outcome (Err e) new = Stops outcome e new

-- The same of what is made of each part as soon as it is read: there are parts that were read, of which it is made.
abbrev pub Collects : {A B : Type 0} → (A → B → Type 0) → Outcome B → Result A Stop → Lexemes → Type 0
Collects {A} {B} made_of outcome (Ok a) new = (b : B) × made_of a b × (outcome ≡ (Done b, new))
Collects {A} {B} made_of outcome (Err e) new = Stops outcome e new

-- why no parenthesis may be opened
abbrev pub full_stop : Kind → Stop
full_stop kind = if same_kind kind k.Open then stop.Depth else stop.Syntax

-- whether a kind says that the text has ended
abbrev pub is_end : Kind → Bool
is_end k.End = true
is_end _ = false

-- the next token is there, and is of this kind
abbrev pub IsAt : Kind → Lexemes → Type 0
IsAt kind ts = (is_end kind ≡ false) × (kind_at ts ≡ kind)
