-- How many scripts there are, and how they are made from the last line to the first and back.
use Rattle.std.proofs.Common.{◌≡◌, ◌≤◌, ◌<◌, List, [], ◌∷◌, ◌++◌, length, reverse, sym, ap, ◌∙◌, subst}
use Rattle.std.proofs.lemmas.List.{length-map, reverse-append, reverse-reverse}
use Rattle.syntax.specs.declared.statements.ScriptLine.{ScriptLine}
use Rattle.commit.specs.Runs.{seats_with_all}
use Rattle.threads.specs.declared.scripts.Script.{Script}
use Rattle.replay.specs.Texts.{HasFewSessions, HasManySessions, most_sessions}
use Rattle.threads.specs.Adding.{scripts_with_line, scripts_with_lines}
use Rattle.threads.specs.Grouping.{scripts_of, script_for}
use Rattle.threads.proofs.Adding.{grouped_are}

pub few : (lines : List ScriptLine) (scripts : List Script) → scripts ≡ scripts_of lines → length scripts ≤ most_sessions → HasFewSessions lines
few lines scripts are within = subst (λ n. n ≤ most_sessions) (ap length are ∙ length-map (seats_with_all [] lines) (script_for lines)) within

pub many : (lines : List ScriptLine) (scripts : List Script) → scripts ≡ scripts_of lines → most_sessions < length scripts → HasManySessions lines
many lines scripts are above = subst (λ n. most_sessions < n) (ap length are ∙ length-map (seats_with_all [] lines) (script_for lines)) above

-- the scripts so far, and the lines that are left, the last of them first
pub group_step : (scripts new : List Script) (rest items : List ScriptLine) (item : ScriptLine) → items ≡ rest ++ item ∷ [] → new ≡ scripts_with_line scripts item
    → scripts_with_lines new (reverse rest) ≡ scripts_with_lines scripts (reverse items)
group_step scripts new rest items item e is =
    ap (λ s. scripts_with_lines s (reverse rest)) is ∙ ap (scripts_with_lines scripts) (sym (reverse-append rest (item ∷ [])) ∙ ap reverse (sym e))

pub group_start : (lines turned : List ScriptLine) → turned ≡ reverse lines → scripts_with_lines [] (reverse turned) ≡ scripts_of lines
group_start lines turned e = ap (scripts_with_lines []) (ap reverse e ∙ reverse-reverse lines) ∙ grouped_are lines
