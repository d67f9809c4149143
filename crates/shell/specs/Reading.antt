-- What a read takes from an input.
use Rattle.std.specs.Prelude.{◌≡◌, ◌≢◌, Bool, true, false, ℕ, List, [], Option}
use Rattle.std.specs.Io.{StopsAt}
use Rattle.std.specs.Io.KnownBytes.{Consumes}
use Rattle.shell.specs.Cuts.{IsLonger, Rest}

-- bytes up to the next semicolon, or to the end; whether there were any
pub record ReadsOn (before now : Rest) (more : Bool) (from to : Option (List ℕ)) : Type 0 where
  pub bytes : List ℕ
  pub read : Consumes from to bytes
  pub stops : StopsAt bytes 59
  pub longer : IsLonger before now bytes
  pub some : more ≡ true → bytes ≢ []
  pub none : more ≡ false → bytes ≡ []
