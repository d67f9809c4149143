-- Bytes that a writer gets one piece behind the other.
use Rattle.std.proofs.Common.{List, ℕ, ◌++◌, Option}
use Rattle.std.specs.Io.KnownBytes.{Appends, Keeps}
use Rattle.std.proofs.KnownBytes.{Appends-kept, Appends-trans}

-- two pieces, one behind the other
pub appends_more : (a b c : Option (List ℕ)) (xs ys : List ℕ) → Appends a b xs → Appends b c ys → Appends a c (xs ++ ys)
appends_more a b c xs ys first second = Appends-trans a b c xs ys first second

-- and the writer is flushed
pub appends_kept : (a b c : Option (List ℕ)) (bytes : List ℕ) → Appends a b bytes → Keeps b c → Appends a c bytes
appends_kept a b c bytes written kept = Appends-kept a b c bytes written kept

-- what a loop has written since its begin, whatever comes: with the rest behind it, it is the whole
abbrev pub GoesOn : (begun now : Option (List ℕ)) → (rest whole : List ℕ) → Type 0
GoesOn begun now rest whole = (end : Option (List ℕ)) → Appends now end rest → Appends begun end whole
