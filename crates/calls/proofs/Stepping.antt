-- Statements that run one after the other, as a loop runs them.
use Rattle.std.proofs.Common.{◌≡◌, ◌+◌, ◌<◌, ◌≤◌, ◌&&◌, ℕ, Bool, true, false, List, [], ◌∷◌, ◌++◌, length, take, drop, get_or, refl, sym, ap, subst, ◌∙◌, append_assoc, append-nil}
use Rattle.std.specs.List.{list_all}
use Rattle.std.proofs.lemmas.Bool.{false≢true}
use Rattle.std.proofs.lemmas.List.{drop_more, length-append, take-append-drop, take_all, take_more}
use Rattle.std.proofs.lemmas.List.Folds.{list_all-append}
use Rattle.messages.specs.declared.requests.Step.{Step}
use Rattle.messages.specs.declared.responses.Response.{Response}
use Rattle.messages.specs.Statuses.{is_done}
use Rattle.calls.specs.declared.databases.Database.{Database}
use Rattle.calls.specs.Calls.{RunsStatement}
use Rattle.calls.specs.Steps.{AreRun, AreRunBehind, IsIf, fields_of}

module _ (Before After : Database → Database → List Response → Type 0) (old mid new : Database) (rs qs : List Response)
    (goes_on : Before old mid rs → list_all is_done rs ≡ true → After old new (rs ++ qs)) where
  -- what is done behind a response that is done
  if_done : (done : Bool) → IsIf done Before old mid rs → (done && list_all is_done rs) ≡ true → IsIf done After old new (rs ++ qs)
  if_done true run all = goes_on run all
  if_done false run all = absurd (false≢true all)

-- statements that are all done, and those behind them
pub joined : (session : ℕ) (xs ys : List Step) (old mid new : Database) (rs qs : List Response) → AreRun session xs old mid rs → list_all is_done rs ≡ true
    → AreRun session ys mid new qs → AreRun session (xs ++ ys) old new (rs ++ qs)
joined session [] ys old mid new [] qs run all next = subst (λ d. AreRun session ys d new qs) run next
joined session [] ys old mid new (r ∷ rs) qs run all next = absurd run
joined session (x ∷ xs) ys old mid new [] qs run all next = absurd run
joined session (x ∷ xs) ys old mid new (r ∷ rs) qs run all next = record {
  between = run.between;
  first = run.first;
  behind = if_done (AreRun session xs) (AreRun session (xs ++ ys)) run.between mid new rs qs
      (λ before done. joined session xs ys run.between mid new rs qs before done next) (is_done r) run.behind all;
}

-- a statement that is the last that is run: it is done, and none is behind it; or it is not
last_run : (session : ℕ) (step : Step) (rest : List Step) (old new : Database) (r : Response) (done : Bool) → is_done r ≡ done
    → IsIf done (AreRun session rest) new new [] → RunsStatement (fields_of session step) old new r → AreRun session (step ∷ rest) old new (r ∷ [])
last_run session step rest old new r done is none run = record { between = new; first = run; behind = subst (λ d. IsIf d (AreRun session rest) new new []) (sym is) none }

-- what a loop has run of statements: so many, all of which are done
pub record AreSoFar (session : ℕ) (steps : List Step) (count : ℕ) (start now : Database) (before after : List Response) : Type 0 where
  pub ran : List Response
  pub run : AreRun session (take count steps) start now ran
  pub done : list_all is_done ran ≡ true
  pub told : after ≡ before ++ ran
  pub long : length ran ≡ count

pub so_far_none : (session : ℕ) (steps : List Step) (start : Database) (before : List Response) → AreSoFar session steps 0 start start before before
so_far_none session steps start before = record { ran = []; run = refl; done = refl; told = sym (append-nil before); long = refl }

module _ (session : ℕ) (steps : List Step) (count : ℕ) (start now new : Database) (before after more : List Response) (step : Step) (r : Response)
    (within : count < length steps) (there : step ≡ get_or steps count step) (h : AreSoFar session steps count start now before after)
    (run : RunsStatement (fields_of session step) now new r) (told : more ≡ after ++ r ∷ []) where
  behind_all : more ≡ before ++ (h.ran ++ r ∷ [])
  behind_all = told ∙ ap (λ rs. rs ++ r ∷ []) h.told ∙ append_assoc before h.ran (r ∷ [])

  -- one statement more that is done
  pub so_far_more : is_done r ≡ true → AreSoFar session steps (count + 1) start new before more
  so_far_more is = record {
    ran = h.ran ++ r ∷ [];
    run = subst (λ s. AreRun session s start new (h.ran ++ r ∷ []))
        (sym (take_more steps count step within ∙ ap (λ s. take count steps ++ s ∷ []) (sym there)))
        (joined session (take count steps) (step ∷ []) start now new h.ran (r ∷ []) h.run h.done (last_run session step [] now new r true is refl run));
    done = list_all-append is_done h.ran (r ∷ []) ∙ ap (λ d. d && (is_done r && true)) h.done ∙ ap (λ d. d && true) is;
    told = behind_all;
    long = length-append h.ran (r ∷ []) ∙ ap (λ n. n + 1) h.long;
  }

  -- one that is not done: none behind it is run
  pub stops : is_done r ≡ false → AreRunBehind session steps start new before more false
  stops is = record {
    ran = h.ran ++ r ∷ [];
    run = subst (λ s. AreRun session s start new (h.ran ++ r ∷ []))
        (ap (λ s. take count steps ++ s ∷ drop (count + 1) steps) there ∙ ap (λ s. take count steps ++ s) (sym (drop_more steps count step within)) ∙ take-append-drop count steps)
        (joined session (take count steps) (step ∷ drop (count + 1) steps) start now new h.ran (r ∷ []) h.run h.done (last_run session step (drop (count + 1) steps) now new r false is refl run));
    done = sym (list_all-append is_done h.ran (r ∷ []) ∙ ap (λ d. d && (is_done r && true)) h.done ∙ ap (λ d. d && true) is);
    told = behind_all;
  }

  pub long_then : length more ≡ length before + (count + 1)
  long_then = ap length behind_all ∙ length-append before (h.ran ++ r ∷ []) ∙ ap (λ n. length before + n) (length-append h.ran (r ∷ []) ∙ ap (λ n. n + 1) h.long)

-- all are done
pub all_run : (session : ℕ) (steps : List Step) (count : ℕ) (start now : Database) (before after : List Response) → length steps ≤ count
    → AreSoFar session steps count start now before after → AreRunBehind session steps start now before after true
all_run session steps count start now before after end h = record {
  ran = h.ran;
  run = subst (λ s. AreRun session s start now h.ran) (take_all count steps end) h.run;
  done = sym h.done;
  told = h.told;
}

pub long_so_far : (session : ℕ) (steps : List Step) (count : ℕ) (start now : Database) (before after : List Response) → AreSoFar session steps count start now before after
    → length after ≡ length before + count
long_so_far session steps count start now before after h = ap length h.told ∙ length-append before h.ran ∙ ap (λ n. length before + n) h.long
