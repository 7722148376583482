-- The tokens of a line depend on what is left of it alone.
use Rattle.std.proofs.Common.{◌≡◌, ℕ, List, [], ◌∷◌, ◌++◌, ◌<◌, ◌+◌, Bool, true, false, cond, eqb, ◌≢◌, Option, None}
use Rattle.std.proofs.Common.{Some, take, drop, get_or, length, length-drop, add-one, refl, sym, ◌∙◌, ap, subst, arith}
use Prim.Native.Nat.{zero, suc}
use Rattle.std.specs.List.{prefix_len}
use Rattle.std.proofs.lemmas.List.{take-append-drop, append_assoc}
use Rattle.std.proofs.Math.Nat.{add_comm}
use Rattle.std.proofs.lemmas.Bool.Decides.{nat_tests}
use Rattle.alpha_token.specs.declared.token.TokenKind.{TokenKind}
use Rattle.alpha_token.specs.declared.token.Step.{Step}
use Rattle.alpha_token.specs.declared.token.Step.TheVariants as steps
use Rattle.alpha_token.specs.Bytes.{is_blank}
use Rattle.alpha_token.proofs.ConditionalChoices.{cond-either}
use Rattle.alpha_token.specs.Tokens.{Lexeme, Tokens, End, Bad, Next, token_at, put_before, tokens_after, tokens, Reads}
use Rattle.alpha_token.specs.Tokens.{Joins}

pub tokens_after-skip : (k : ℕ) (s : List ℕ) → tokens_after k s ≡ tokens_after 0 (drop k s)
tokens_after-skip zero s = refl
tokens_after-skip (suc k) [] = refl
tokens_after-skip (suc k) (b ∷ s) = tokens_after-skip k s

first_no : (p : ℕ → Bool) (b : ℕ) (s : List ℕ) → prefix_len p (b ∷ s) ≡ 0 → p b ≡ false
first_no p b s =
    elim (p b) as (λ v. cond v (1 + prefix_len p s) 0 ≡ 0
    → v ≡ false) [ true ↦ λ h. absurd (omega arith) | false ↦ λ h. refl ]

drop-one_more : (n b : ℕ) (s : List ℕ) → drop (1 + n) (b ∷ s) ≡ drop n s
drop-one_more n b s = rw (add_comm 1 n, add-one) refl

-- behind the first bytes that pass a test there is none that passes it
pub prefix_len-behind : (p : ℕ → Bool) (s : List ℕ) → prefix_len p (drop (prefix_len p s) s) ≡ 0
prefix_len-behind p [] = refl
prefix_len-behind p (b ∷ s) =
    let h : (v : Bool) → p b ≡ v → prefix_len p (drop (cond v (1 + prefix_len p s) 0) (b ∷ s)) ≡ 0 =
    λ v. elim v as (λ w. p b ≡ w → prefix_len p (drop (cond w (1 + prefix_len p s) 0) (b ∷ s)) ≡ 0) [
      | true ↦ λ e. rw (drop-one_more (prefix_len p s) b s) (prefix_len-behind p s)
      | false ↦ λ e. rw e refl
    ] in
    h (p b) refl

pub tokens-blanks : (s : List ℕ) → tokens s ≡ tokens (drop (prefix_len is_blank s) s)
unfolding tokens
tokens-blanks [] = refl
tokens-blanks (b ∷ s) =
    let h : (v : Bool) → is_blank b ≡ v
    → tokens_after 0 (b ∷ s) ≡ tokens_after 0 (drop (cond v (1 + prefix_len is_blank s) 0) (b ∷ s)) =
    λ v. elim v as (λ w. is_blank b ≡ w
    → tokens_after 0 (b ∷ s) ≡ tokens_after 0 (drop (cond w (1 + prefix_len is_blank s) 0) (b ∷ s))) [
      | true ↦ λ e. rw (e, drop-one_more (prefix_len is_blank s) b s) (tokens-blanks s)
      | false ↦ λ e. refl
    ] in
    h (is_blank b) refl

pub tokens-empty : (line : List ℕ) → length line ≡ 0 → tokens line ≡ End 0
unfolding tokens
tokens-empty [] h = refl
tokens-empty (b ∷ s) h = absurd (omega arith)

pub tokens-comment : (line : List ℕ) → 0 < length line → get_or line 0 0 ≡ 35 → tokens line ≡ End (length line)
unfolding tokens
tokens-comment [] inside h = absurd (omega arith)
tokens-comment (b ∷ s) inside h = rw h refl

pub tokens-bad : (line rest : List ℕ) → 0 < length line → prefix_len is_blank line ≡ 0 → get_or line 0 0 ≢ 35
    → rest ≡ drop 1 line → token_at (get_or line 0 0) rest ≡ None → tokens line ≡ Bad (length line)
unfolding tokens
tokens-bad [] rest inside plain apart e h = absurd (omega arith)
tokens-bad (b ∷ s) rest inside plain apart e h =
    let no : eqb b 35 ≡ false = grind (arith, nat_tests) in
    let found : token_at b s ≡ None = ap (token_at b) (sym e) ∙ h in
    rw (first_no is_blank b s plain, no, found) refl

pub tokens-next : (line rest text behind : List ℕ) (kind : TokenKind) (more : ℕ)
    → 0 < length line → prefix_len is_blank line ≡ 0 → get_or line 0 0 ≢ 35 → rest ≡ drop 1 line
    → token_at (get_or line 0 0) rest ≡ Some (kind, more) →
    text ≡ take (1 + more) line → behind ≡ drop more rest
    → tokens line ≡ Next (record { kind = kind; text = text; rest = behind }) (tokens behind)
unfolding tokens
tokens-next [] rest text behind kind more inside plain apart e h same_text same_rest = absurd (omega arith)
tokens-next (b ∷ s) rest text behind kind more inside plain apart e h same_text same_rest =
    let no : eqb b 35 ≡ false = grind (arith, nat_tests) in
    let found : token_at b s ≡ Some (kind, more) = ap (token_at b) (sym e) ∙ h in
    rw (
      first_no is_blank b s plain,
      no,
      found,
      tokens_after-skip more s,
      same_text,
      same_rest,
      e,
      add_comm 1 more,
      add-one,
    ) refl

pub joins-next : (line rest text behind : List ℕ) (more : ℕ) → 0 < length line
    → rest ≡ drop 1 line → text ≡ take (1 + more) line → behind ≡ drop more rest
    → (length behind < length line) × ((blanks : List ℕ) × (line ≡ blanks ++ (text ++ behind)))
joins-next [] rest text behind more inside e same_text same_rest = absurd (omega arith)
joins-next (b ∷ s) rest text behind more inside e same_text same_rest = (
  rw (same_rest, e) (omega (arith, length-drop more s)),
  ([], rw (same_text, same_rest, e, add_comm 1 more, add-one) (ap (λ t. b ∷ t) (sym (take-append-drop more s)))),
)

-- blanks may be put before
pub joins-blanks : (line : List ℕ) (n : ℕ) (step : Step) → Joins (drop n line) step → Joins line step
joins-blanks line n (steps.End left) h = h
joins-blanks line n (steps.Bad left) h = h
joins-blanks line n (steps.Token t) (shorter, (blanks, e)) = (
  omega (arith, length-drop n line),
  (
    take n line ++ blanks,
    sym (take-append-drop n line) ∙ ap (λ s. take n line ++ s) e
        ∙ sym (append_assoc (take n line) blanks (t.text.now ++ t.rest.now)),
  ),
)

pub reads-blanks : (line : List ℕ) (step : Step) → Reads (drop (prefix_len is_blank line) line) step → Reads line step
reads-blanks line (steps.End left) h = tokens-blanks line ∙ h
reads-blanks line (steps.Bad left) h = tokens-blanks line ∙ h
reads-blanks line (steps.Token t) h = tokens-blanks line ∙ h

-- behind a token stand the tokens of its rest
abbrev IsBehind : Tokens → Type 0
IsBehind (End left) = Unit {0}
IsBehind (Bad left) = Unit {0}
IsBehind (Next t ts) = ts ≡ tokens t.rest

put-behind : (line : List ℕ) (found : Option (TokenKind × ℕ)) (b : ℕ) (s : List ℕ)
    → IsBehind (put_before line found (λ more. tokens_after more s) b s)
unfolding tokens
put-behind line None b s = tt
put-behind line (Some v) b s = tokens_after-skip v.1 s

after-behind : (skip : ℕ) (s : List ℕ) → IsBehind (tokens_after skip s)
after-behind skip [] = tt
after-behind (suc skip) (b ∷ s) = after-behind skip s
after-behind zero (b ∷ s) =
    cond-either IsBehind (is_blank b) _ _ (λ e. after-behind 0 s) (λ e.
    cond-either IsBehind (eqb b 35) _ _ (λ e. tt) (λ e. put-behind (b ∷ s) (token_at b s) b s))

pub tokens-behind : (line : List ℕ) (t : Lexeme) (ts : Tokens) → tokens line ≡ Next t ts → ts ≡ tokens t.rest
unfolding tokens
tokens-behind line t ts h = subst IsBehind h (after-behind 0 line)
