-- What a column holds may stand in a line.
use Rattle.std.proofs.Common.{◌≡◌, true, List, [], ◌∷◌, ℕ}
use Rattle.std.specs.Prelude.{nat_le, nat_eq, not}
use Rattle.std.specs.List.{AllByRecursion, list_all}
use Rattle.std.specs.Str.{is_utf8}
use Rattle.std.proofs.lemmas.Bool.{and_parts, leb-true}
use Rattle.value.specs.Texts.{is_plain, is_plain_byte}
use Rattle.journal.specs.Fitting.{IsTextByte}

plain_byte : (b : ℕ) → is_plain_byte b ≡ true → IsTextByte b
plain_byte b h = leb-true 32 b (and_parts (nat_le 32 b) (not (nat_eq b 127)) h).0

plain_bytes : (bytes : List ℕ) → list_all is_plain_byte bytes ≡ true → AllByRecursion IsTextByte bytes
plain_bytes [] h = tt
plain_bytes (b ∷ bytes) h =
    let parts = and_parts (is_plain_byte b) (list_all is_plain_byte bytes) h in (plain_byte b parts.0, plain_bytes bytes parts.1)

pub plain_text : (bytes : List ℕ) → is_plain bytes ≡ true → AllByRecursion IsTextByte bytes
plain_text bytes h = plain_bytes bytes (and_parts (list_all is_plain_byte bytes) (is_utf8 bytes) h).0
