-- What stands in front of a piece's event.
use Rattle.std.specs.Prelude.{ℕ, Bool, true, false, List, Option, Some, None, Result, Ok, Err, codes, drop, slice_range, if◌then◌else◌}
use Rattle.value.specs.declared.refusals.Refusal.{Refusal}
use Rattle.token.specs.declared.kinds.Kind.{Kind}
use Rattle.token.specs.declared.kinds.Kind.TheVariants as k
use Rattle.token.specs.declared.spans.Token.{Token}
use Rattle.token.specs.Bytes.{name_of}
use Rattle.syntax.specs.Reading.{same_kind}
use Rattle.token.specs.Lexer.{answer, next_of}

-- the next token, from an offset on
abbrev pub next_in : List ℕ → ℕ → Result (Option Token) Refusal
next_in bytes from = answer (next_of bytes from)

-- blanks and comments alone
abbrev pub is_end : Result (Option Token) Refusal → Bool
is_end (Ok None) = true
is_end (Ok (Some t)) = false
is_end (Err refusal) = false

-- whether a piece holds blanks and comments alone
abbrev pub is_blank : List ℕ → Bool
is_blank bytes = is_end (next_in bytes 0)

-- the token, if it is of this kind
abbrev pub if_kind : Kind → Result (Option Token) Refusal → Option Token
if_kind kind (Ok (Some t)) = if same_kind t.kind kind then Some t else None
if_kind kind (Ok None) = None
if_kind kind (Err refusal) = None

-- the session, and where the event begins
pub record Address : Type 0 where
  pub session : List ℕ
  pub from : ℕ

-- where no session is named
abbrev pub nameless : Address
nameless = record { session = codes "ME"; from = 0 }

-- the session of the name in front, if a colon stands behind it
abbrev pub address_behind : List ℕ → Token → Option Token → Address
address_behind bytes name None = nameless
address_behind bytes name (Some colon) = record {
  session = name_of (slice_range bytes name.start name.end);
  from = colon.end;
}

-- the session of the name in front, if a name is there
abbrev pub address_with : List ℕ → Option Token → Address
address_with bytes None = nameless
address_with bytes (Some name) = address_behind bytes name (if_kind k.Colon (next_in bytes name.end))

-- a name and a colon in front, or the session ME
abbrev pub address : List ℕ → Address
address bytes = address_with bytes (if_kind k.Name (next_in bytes 0))

-- the bytes of the event
abbrev pub event_text : List ℕ → List ℕ
event_text bytes = drop (address bytes).from bytes
