-- Pieces and the input, quoted texts and comments.
use Rattle.std.proofs.Common.{◌≡◌, ℕ, Bool, true, false, cond, List, [], ◌∷◌, ◌++◌, refl, sym, ap, ◌∙◌, subst, append-nil, append_assoc}
use Rattle.std.specs.Prelude.{◌==◌}
use Rattle.std.specs.List.{list_all}
use Rattle.std.proofs.lemmas.Bool.{and_parts, eqb-true, not-true}
use Rattle.token.specs.Rules.{with_doubled_quotes, in_quotes, is_in_line}
use Rattle.shell.specs.declared.cutting.Place.{Place}
use Rattle.shell.specs.declared.cutting.Place.TheVariants.{Plain, Dash, Comment, Quote, End}
use Rattle.shell.specs.Cuts.{PassesOver, Rest, after, is_outside, piece_at_end, no_rest, pieces_of, text_of_pieces, rest_of, scan, with_byte}
use Rattle.shell.proofs.Pieces.{HaveNoEnd, after_end, longer, no_end_pieces, no_end_rest, rest_at}

-- ---- the pieces are the input

abbrev IsJoined : Rest → List ℕ → Type 0
IsJoined rest bytes = text_of_pieces (pieces_of rest bytes) ++ (rest_of rest bytes).bytes ≡ rest.bytes ++ bytes

join_byte : (rest : Rest) (b : ℕ) (bytes : List ℕ) → ((next : Rest) → IsJoined next bytes) → (place : Place) → after rest.place b ≡ place
    → text_of_pieces (piece_at_end place rest ++ pieces_of (with_byte place rest b) bytes) ++ (rest_of (with_byte place rest b) bytes).bytes ≡ rest.bytes ++ (b ∷ bytes)
join_byte rest b bytes later Plain e = later (longer Plain rest (b ∷ [])) ∙ append_assoc rest.bytes (b ∷ []) bytes
join_byte rest b bytes later Dash e = later (longer Dash rest (b ∷ [])) ∙ append_assoc rest.bytes (b ∷ []) bytes
join_byte rest b bytes later Comment e = later (longer Comment rest (b ∷ [])) ∙ append_assoc rest.bytes (b ∷ []) bytes
join_byte rest b bytes later Quote e = later (longer Quote rest (b ∷ [])) ∙ append_assoc rest.bytes (b ∷ []) bytes
join_byte rest b bytes later End e =
    append_assoc (rest.bytes ++ 59 ∷ []) (text_of_pieces (pieces_of (with_byte End rest b) bytes)) (rest_of (with_byte End rest b) bytes).bytes
    ∙ ap (λ l. (rest.bytes ++ 59 ∷ []) ++ l) (later (with_byte End rest b))
    ∙ append_assoc rest.bytes (59 ∷ []) bytes
    ∙ ap (λ n. rest.bytes ++ (n ∷ bytes)) (sym (after_end rest.place b e))

joined : (rest : Rest) (bytes : List ℕ) → IsJoined rest bytes
joined rest [] = sym (append-nil rest.bytes)
joined rest (b ∷ bytes) = join_byte rest b bytes (λ next. joined next bytes) (after rest.place b) refl

pub pieces_rejoin : (input : List ℕ) → text_of_pieces (pieces_of no_rest input) ++ (rest_of no_rest input).bytes ≡ input
pieces_rejoin input = joined no_rest input

-- ---- what is passed over

plain_no_end : Plain ≡ End → ⊥
plain_no_end e = let no : ⊥ = cc in no

dash_no_end : Dash ≡ End → ⊥
dash_no_end e = let no : ⊥ = cc in no

comment_no_end : Comment ≡ End → ⊥
comment_no_end e = let no : ⊥ = cc in no

quote_no_end : Quote ≡ End → ⊥
quote_no_end e = let no : ⊥ = cc in no

passes : (from to : Place) (bytes : List ℕ) → HaveNoEnd from bytes → scan from bytes ≡ to → PassesOver from bytes to
passes from to bytes none leads = record {
  none = λ rest e. no_end_pieces rest bytes (subst (λ p. HaveNoEnd p bytes) (sym e) none);
  all = λ rest e. no_end_rest rest bytes (subst (λ p. HaveNoEnd p bytes) (sym e) none)
      ∙ ap (rest_at rest.at (rest.bytes ++ bytes)) (ap (λ p. scan p bytes) e ∙ leads);
}

-- in quotes

quoted_no_end : (inside : List ℕ) → HaveNoEnd Quote (with_doubled_quotes inside ++ 39 ∷ [])
quoted_no_end [] = (plain_no_end, tt)
quoted_no_end (b ∷ inside) = go (b == 39) refl (quoted_no_end inside)
  where
    go : (q : Bool) → (b == 39) ≡ q → HaveNoEnd Quote (with_doubled_quotes inside ++ 39 ∷ []) → HaveNoEnd Quote (cond q (b ∷ b ∷ with_doubled_quotes inside) (b ∷ with_doubled_quotes inside) ++ 39 ∷ [])
    go true e later =
        subst (λ n. HaveNoEnd Quote (n ∷ n ∷ (with_doubled_quotes inside ++ 39 ∷ []))) (sym (eqb-true b 39 e)) (plain_no_end, (quote_no_end, later))
    go false e later =
        let still : after Quote b ≡ Quote = ap (λ q. cond q Plain Quote) e in
        ((λ h. quote_no_end (sym still ∙ h)), subst (λ p. HaveNoEnd p (with_doubled_quotes inside ++ 39 ∷ [])) (sym still) later)

quoted_leads : (inside : List ℕ) → scan Quote (with_doubled_quotes inside ++ 39 ∷ []) ≡ Plain
quoted_leads [] = refl
quoted_leads (b ∷ inside) = go (b == 39) refl (quoted_leads inside)
  where
    go : (q : Bool) → (b == 39) ≡ q → scan Quote (with_doubled_quotes inside ++ 39 ∷ []) ≡ Plain → scan Quote (cond q (b ∷ b ∷ with_doubled_quotes inside) (b ∷ with_doubled_quotes inside) ++ 39 ∷ []) ≡ Plain
    go true e later = ap (λ n. scan Quote (n ∷ n ∷ (with_doubled_quotes inside ++ 39 ∷ []))) (eqb-true b 39 e) ∙ later
    go false e later =
        let still : after Quote b ≡ Quote = ap (λ q. cond q Plain Quote) e in
        ap (λ p. scan p (with_doubled_quotes inside ++ 39 ∷ [])) still ∙ later

pub quotes_pass : (place : Place) → is_outside place ≡ true → (inside : List ℕ) → PassesOver place (in_quotes inside) Plain
quotes_pass Plain outside inside = passes Plain Plain (in_quotes inside) (quote_no_end, quoted_no_end inside) (quoted_leads inside)
quotes_pass Dash outside inside = passes Dash Plain (in_quotes inside) (quote_no_end, quoted_no_end inside) (quoted_leads inside)
quotes_pass Comment outside inside = let no : ⊥ = cc in absurd no
quotes_pass Quote outside inside = let no : ⊥ = cc in absurd no
quotes_pass End outside inside = passes End Plain (in_quotes inside) (quote_no_end, quoted_no_end inside) (quoted_leads inside)

-- in a comment

still_in : (b : ℕ) → is_in_line b ≡ true → after Comment b ≡ Comment
still_in b h = ap (λ q. cond q Plain Comment) (not-true (b == 10) h)

line_no_end : (line : List ℕ) → list_all is_in_line line ≡ true → HaveNoEnd Comment (line ++ 10 ∷ [])
line_no_end [] h = (plain_no_end, tt)
line_no_end (b ∷ line) h =
    let parts = and_parts (is_in_line b) (list_all is_in_line line) h in
    let still : after Comment b ≡ Comment = still_in b parts.0 in
    ((λ e. comment_no_end (sym still ∙ e)), subst (λ p. HaveNoEnd p (line ++ 10 ∷ [])) (sym still) (line_no_end line parts.1))

line_leads : (line : List ℕ) → list_all is_in_line line ≡ true → scan Comment (line ++ 10 ∷ []) ≡ Plain
line_leads [] h = refl
line_leads (b ∷ line) h =
    let parts = and_parts (is_in_line b) (list_all is_in_line line) h in
    ap (λ p. scan p (line ++ 10 ∷ [])) (still_in b parts.0) ∙ line_leads line parts.1

pub comments_pass : (place : Place) → is_outside place ≡ true → (line : List ℕ) → list_all is_in_line line ≡ true → PassesOver place (45 ∷ 45 ∷ (line ++ 10 ∷ [])) Plain
comments_pass Plain outside line h = passes Plain Plain (45 ∷ 45 ∷ (line ++ 10 ∷ [])) (dash_no_end, (comment_no_end, line_no_end line h)) (line_leads line h)
-- (the first dash opens the comment, and the second stands in it)
comments_pass Dash outside line h = passes Dash Plain (45 ∷ 45 ∷ (line ++ 10 ∷ [])) (comment_no_end, (comment_no_end, line_no_end line h)) (line_leads line h)
comments_pass Comment outside line h = let no : ⊥ = cc in absurd no
comments_pass Quote outside line h = let no : ⊥ = cc in absurd no
comments_pass End outside line h = passes End Plain (45 ∷ 45 ∷ (line ++ 10 ∷ [])) (dash_no_end, (comment_no_end, line_no_end line h)) (line_leads line h)
